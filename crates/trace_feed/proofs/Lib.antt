pub mod FieldLaws
pub mod Splits
pub mod DigitLaws
pub mod RowLaws
pub mod ReadingLaws
pub mod FitLaws
pub mod PassedFields
