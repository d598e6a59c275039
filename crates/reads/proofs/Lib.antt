-- Laws of READ: the order of its reasons, and the records that it writes.
pub mod QueryOrder
pub mod Records
