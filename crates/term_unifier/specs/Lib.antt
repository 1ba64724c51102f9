pub mod Unifier
pub mod Laws
pub mod Resolved
pub mod Rows
