mod Laid
mod Trails
mod Trees
mod Bindings
pub mod Rows
mod Shapes
mod Values
mod Seen
mod Steps
mod Sizes
mod Walks
mod Pairs
mod WorkSteps
mod Naming
mod Ways
pub mod Laws
mod Arities
mod Beyond
mod Puts
mod Orders
mod Readings
mod Compared
mod Unfolds
mod Rebuilds
mod Fronts
mod Matched
mod Leaves
