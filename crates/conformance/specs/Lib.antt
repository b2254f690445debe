-- What the contracts of this crate speak of.
pub mod Figures
pub mod Comparing
