-- What the contracts of the machine promise of every list of calls.
pub mod Guarantee
