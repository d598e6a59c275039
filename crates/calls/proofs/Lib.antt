-- Lists of calls, for any layout.
pub mod Demand3
