pub mod BitmapLemmas
pub mod RangeLemmas
pub mod AnswerLemmas
pub mod CellLemmas
pub mod TextLemmas
pub mod ReadBackLemmas
pub mod ToldLemmas
