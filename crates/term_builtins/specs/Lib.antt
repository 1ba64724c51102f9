pub mod Meanings
pub mod Table
pub mod Answers
pub mod Bytes
pub mod Rows
