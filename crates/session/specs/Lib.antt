-- What `play` does with the bytes that it was given.
pub mod Session
