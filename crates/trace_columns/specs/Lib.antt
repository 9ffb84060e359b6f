pub mod Blanks
pub mod Header
pub mod Places
pub mod HeaderTexts
