-- Laws of numbers of up to 128 bits.
pub mod Bytes
pub mod Halves
pub mod Order
pub mod Bits
