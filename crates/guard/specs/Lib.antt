-- What the contracts of this crate speak of.
pub mod Tables
pub mod Registers
pub mod Refusals
pub mod Calls
pub mod Guarding
pub mod Packings
pub mod Scans
pub mod States
pub mod Orders
pub mod Steps
