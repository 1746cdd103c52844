-- The first form.
pub mod Program
pub mod Spelling
pub mod FixedWords
pub mod Texts
pub mod Reading
pub mod Lexemes
