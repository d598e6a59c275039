-- What a READ asks for, and why it is refused.
pub mod Read
