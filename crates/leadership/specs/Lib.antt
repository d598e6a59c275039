pub mod Meaning
pub mod Scanning
