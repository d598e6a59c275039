-- From what a handler leaves to what its command leaves under the rules.
pub mod Handled
