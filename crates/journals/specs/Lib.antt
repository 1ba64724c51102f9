pub mod Numbers
pub mod Journal
pub mod Updates
pub mod Laws
pub mod Examples
