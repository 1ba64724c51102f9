pub mod Numberings
pub mod Grammar
pub mod Stacks
pub mod Steps
pub mod Reads
pub mod Stops
pub mod Orders
pub mod Texts
