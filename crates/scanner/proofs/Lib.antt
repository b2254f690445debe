pub mod Cleans
pub mod Means
pub mod Runs
