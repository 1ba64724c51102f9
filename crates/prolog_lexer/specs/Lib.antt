pub mod Classes
pub mod Digits
pub mod Quotes
pub mod Pieces
pub mod Streams
pub mod Escapes
pub mod Tokens
