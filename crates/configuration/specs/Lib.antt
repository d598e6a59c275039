-- What is tested of a configuration.
pub mod Passing
