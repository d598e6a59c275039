-- Laws of the checks: parts walked beside what they stand for, actions found, and a key as it is lent.
pub mod Walk
pub mod Lent
