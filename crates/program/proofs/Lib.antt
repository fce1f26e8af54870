-- The laws of the program, one file a subject.
pub mod Handing
pub mod Lines
pub mod Replying
pub mod Taking
pub mod PrintsDue
pub mod Whole
