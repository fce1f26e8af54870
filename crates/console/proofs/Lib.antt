-- The laws of the console, one file a subject.
pub mod Appending
pub mod Filling
pub mod Gathering
pub mod Hearing
pub mod InEach
pub mod Pairs
pub mod Parts
pub mod InLine
pub mod Lengths
pub mod Octets
pub mod Printing
