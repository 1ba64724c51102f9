pub mod Skips
pub mod Comments
pub mod Insides
pub mod Fits
pub mod Runs
pub mod Escaped
pub mod Between
pub mod Numbers
pub mod Symbols
pub mod Sound
pub mod Complete
pub mod Apart
mod Examples
