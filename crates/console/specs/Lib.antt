-- What the contracts of the console cite, one file a subject.
pub mod Each
pub mod Buffer
pub mod Decimal
pub mod Datagram
pub mod Hexadecimal
pub mod Address
pub mod Input
pub mod Field
pub mod Command
