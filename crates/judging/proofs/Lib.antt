-- Laws of judging: the order of an update's reasons, and of those of its place; and the number of what it was judged to be.
pub mod Order
pub mod Place
pub mod Numbered
