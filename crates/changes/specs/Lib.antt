-- What doing what was judged does to the entries, and what undoing it by its note does.
pub mod Effect
pub mod Undo
