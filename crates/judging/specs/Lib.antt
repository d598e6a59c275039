-- What an update is judged by.
pub mod Verdict
