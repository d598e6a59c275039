-- Laws of the frame reader.
pub mod Readings
