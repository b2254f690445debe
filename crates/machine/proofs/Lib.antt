-- Lemmas that functions of this crate name.
pub mod Running
