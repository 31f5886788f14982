-- The laws, by subject; each function has its proof in a folder of its own.
pub mod SetAtLaws
pub mod JoinedLaws
pub mod RowLaws
pub mod RenewLaws
