-- The agent's memory in the rules' terms, and what a command may change of it.
pub mod Layout
pub mod Handles
