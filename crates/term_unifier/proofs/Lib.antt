pub mod Trees
pub mod Solved
pub mod Complete
pub mod Unique
pub mod Known
pub mod Triangular
pub mod Standing
pub mod Sizes
pub mod Pairs
mod Cases
mod Examples
