-- The contracts of the exported calls, and of what tells a host their need.
pub mod Exports
pub mod Learnt
pub mod NeedContracts
