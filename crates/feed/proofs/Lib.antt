-- The laws; each function that needs it has its proof in a folder of its own.
pub mod FeedLaws
