pub mod TellLaws
pub mod LineLaws
pub mod WatchLaws
pub mod WatchEnds
pub mod FoundLaws
pub mod LineTurns
pub mod Completing
