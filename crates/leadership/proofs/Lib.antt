-- What is proved of notifications, of the first stream that passes a test, of an ARBITRATE's reason, and of the pair that it leaves.
pub mod Notices
pub mod FirstPassing
pub mod ArbitrateReason
pub mod PairKept
