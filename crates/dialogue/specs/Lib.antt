-- What the contracts of the dialogue cite: what a line asks, what becomes of it, what is printed.
pub mod Asking
pub mod Obeying
pub mod Printing
pub mod Outbox
