-- Laws of configuration rows.
pub mod Bytes
pub mod Records
pub mod Held
pub mod Found
pub mod Chunks
