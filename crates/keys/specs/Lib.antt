-- What follows the table in a key.
pub mod Rest
