-- What the contracts of this crate speak of.
pub mod Questions
pub mod Kinds
pub mod Figures
pub mod Regions
