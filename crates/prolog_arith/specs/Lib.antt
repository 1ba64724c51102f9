pub mod Operations
pub mod Arithmetic
pub mod Work
pub mod Laws
pub mod Rows
