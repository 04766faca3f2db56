pub mod Answers
pub mod StatementAnswers
pub mod SelectLists
