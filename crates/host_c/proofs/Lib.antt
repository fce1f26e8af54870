-- The contracts of what the archive exports.
pub mod Learnt
