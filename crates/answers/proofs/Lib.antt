-- Laws of answers as bytes.
pub mod AnswerBytes
