-- What the contracts of this crate speak of.
pub mod Spans
pub mod Policies
pub mod Kinds
pub mod Laws
pub mod Pairs
pub mod PairLaws
pub mod Histories
