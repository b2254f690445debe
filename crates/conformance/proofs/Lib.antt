-- Lemmas that functions of this crate name.
pub mod Figuring
pub mod Comparings
