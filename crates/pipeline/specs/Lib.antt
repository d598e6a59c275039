-- What is promised of pipeline commands.
pub mod Pipeline
