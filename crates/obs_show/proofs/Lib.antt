pub mod NameLaws
pub mod NumberLaws
pub mod TextLaws
pub mod WeightLaws
pub mod FreeLaws
pub mod Rows
