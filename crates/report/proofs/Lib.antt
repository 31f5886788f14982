-- The laws, by subject; each function has its proof in a folder of its own.
pub mod FigureLaws
pub mod SettingLaws
pub mod ReportLaws
