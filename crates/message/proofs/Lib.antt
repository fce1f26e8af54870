-- Laws that belong to no one function.
pub mod Texts
pub mod Building
pub mod Keys
pub mod Lookup
pub mod Reading
pub mod Written
pub mod Sending
pub mod RoundTrip
