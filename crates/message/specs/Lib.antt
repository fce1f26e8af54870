-- The definitions that the contracts of messages cite: refusal numbers, built texts, headers, parsing.
pub mod Refusals
pub mod Build
pub mod Headers
pub mod Parse
pub mod RoundTrip
