-- What the exported functions promise: Numbers says how an answer of crate `message` is laid out in numbers.
pub mod Numbers
