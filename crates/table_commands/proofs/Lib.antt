-- Laws of table commands: WRITE, and READ.
pub mod Writing
pub mod Reading
