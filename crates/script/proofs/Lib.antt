pub mod Lines
pub mod Places
pub mod Frames
pub mod Told
pub mod NewPolicies
pub mod Copied
pub mod Numbers
