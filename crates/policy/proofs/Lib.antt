-- Lemmas of this crate.
pub mod Flags
pub mod Permitting
pub mod Telling
