-- The laws of the text rules, one file a subject: for this crate's proofs and for those of the crates above.
pub mod Span
pub mod Every
pub mod Ascii
pub mod Encoding
pub mod Comparing
pub mod Finding
pub mod FirstLine
pub mod Trimming
pub mod Digits
pub mod GoodText
pub mod Visible
pub mod Places
pub mod Writing
