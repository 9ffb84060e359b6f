pub mod PlaceLaws
pub mod CsvLaws
pub mod ColumnLaws
pub mod StoredLaws
