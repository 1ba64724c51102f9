pub mod Equal
pub mod Declares
pub mod Converted
pub mod Ordered
