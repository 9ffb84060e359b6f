pub mod Spelling
pub mod Cut
pub mod Tokens
