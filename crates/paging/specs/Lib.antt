-- What the contracts of this crate speak of.
pub mod Entries
pub mod Addresses
pub mod Walks
pub mod Questions
pub mod Faults
