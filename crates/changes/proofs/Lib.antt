-- Laws of changes: what doing what was judged comes to by the rules, and that undoing it brings the entries back.
pub mod Effects
pub mod Undoing
