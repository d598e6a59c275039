-- Laws of values: which digits the shortest form keeps, shortest forms made in place and compared with, and padding.
pub mod Digits
pub mod InPlace
pub mod Compared
pub mod Leading
pub mod Padding
