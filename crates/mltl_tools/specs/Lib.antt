pub mod Sentence
pub use Rattle.tool_words.specs.R2u2Words
pub use Rattle.r2u2_monitor.specs.declared.state.State
pub use Rattle.tool_words.specs.declared.status.Status
pub use Rattle.tool_words.specs.Causes
pub use Rattle.tool_words.specs.Codes
pub use Rattle.tool_words.specs.Ending
pub use Rattle.c2po_cli.specs.Asking as C2poAsking
pub use Rattle.c2po_cli.specs.Images as C2poImages
pub use Rattle.c2po_cli.specs.Run as C2poRun
pub use Rattle.r2u2_cli.specs.Run as R2u2Run
