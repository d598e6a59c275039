-- The contract of a call, and the claim about lists of calls.
pub mod Contract
pub mod Claim
