-- Laws of what `play` reads and prints.
pub mod AnswerLines
pub mod Begins
pub mod Fitting
pub mod Input
pub mod Lines
pub mod Written
