mod Integers
mod Views
mod Named
mod Stacks
mod Evaluations
mod Way
mod Examples
mod Smaller
