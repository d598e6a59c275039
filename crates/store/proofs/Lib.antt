-- Laws of the store: what writing over it leaves, where a key is in it, and walking its entries in order.
pub mod Writes
pub mod KeyPlace
pub mod Scan
