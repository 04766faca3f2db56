pub mod BuiltStatistics
pub mod BuiltLaws
