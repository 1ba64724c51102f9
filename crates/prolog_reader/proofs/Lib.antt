mod Continues
mod Snoc
mod Runs
mod Meets
mod Turns
mod Rules
mod Sound
mod Complete
mod Stopping
mod Total
mod Facts
mod Found
pub mod Sentences
