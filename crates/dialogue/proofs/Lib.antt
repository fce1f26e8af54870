-- Laws that the proofs of the dialogue share.
pub mod Calling
pub mod Lengths
pub mod Outbox
