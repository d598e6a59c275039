-- What `play` reads and prints, as bytes.
pub mod Input
pub mod Line
pub mod Written
