pub mod ShortQueries
