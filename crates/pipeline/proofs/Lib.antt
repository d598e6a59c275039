-- Laws of pipeline commands.
pub mod Configuring
