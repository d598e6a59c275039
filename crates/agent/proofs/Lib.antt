-- Demand 3 of the agent, and the ways of a call.
pub mod Demand3
pub mod Ways
