-- Lemmas of this crate.
pub mod Bytewise
pub mod Zeros
mod Chunks
mod Puts
