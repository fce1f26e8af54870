-- The text rules of document 01 and what is asked of bytes, one file a rule.
pub mod Range
pub mod Utf8
pub mod Lines
pub mod White
pub mod Number
pub mod Bytes
pub mod Good
pub mod Put
