-- Laws of the calls that `play` makes.
pub mod CallsMade
pub mod PrintsAnswers
pub mod AnyPieces
