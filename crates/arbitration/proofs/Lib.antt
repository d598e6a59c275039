-- What is proved of the record's places, of the streams that pass a test, and of what events leave.
pub mod Places
pub mod Passing
pub mod Events
