-- The first form.
pub mod LayoutLaws
pub mod Lexing
pub mod Runs
pub mod Marks
pub mod Numerals
pub mod Pieces
pub mod Bodies
pub mod Functions
pub mod ReadsBack
pub mod WovenForm
pub mod WovenTraces
pub mod WovenRuns
pub mod WovenSimulates
pub mod KeptProgram
pub mod Headline
