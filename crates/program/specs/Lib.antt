-- What the contracts of the program cite: what is printed for the whole input, and what a step of the program gives of it.
pub mod Program
pub mod Steps
pub mod Runs
