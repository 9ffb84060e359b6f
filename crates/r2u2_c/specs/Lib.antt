pub mod Handles
pub mod Lending
pub mod Reports
pub mod Opening
pub mod Faults
pub mod Exports
pub mod Queries
pub mod Batches
