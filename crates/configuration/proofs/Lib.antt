-- What is proved of the tests of a configuration.
pub mod Counted
pub mod OneRow
pub mod Configuration
