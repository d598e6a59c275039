-- What a batch leaves, what its notes undo, and what one update of it does.
pub mod Batch
pub mod Rollback
pub mod Step
