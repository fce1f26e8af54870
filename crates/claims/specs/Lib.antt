-- The reply ledger, the claim about every list of calls, that it is about every list, and the window in which replies are due.
pub mod Ledger
pub mod Claim
pub mod EveryList
pub mod Window
