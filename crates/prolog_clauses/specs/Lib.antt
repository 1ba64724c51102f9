pub mod Renaming
pub mod Formed
pub mod Flat
pub mod Declarations
pub mod Cells
pub mod Dynamics
pub mod Procedures
pub mod Directives
