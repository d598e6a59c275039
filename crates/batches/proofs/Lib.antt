-- Laws of batches: of updates that each succeed or fail alone, and of all or none.
pub mod EachAlone
pub mod AllOrNone
pub mod Taking
