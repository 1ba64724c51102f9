pub mod Reading
pub mod Items
pub mod Levels
pub mod Parts
pub mod Trees
pub mod Images
pub mod Limits
pub mod Lawful
