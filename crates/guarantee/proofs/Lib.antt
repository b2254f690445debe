-- Lemmas that functions of other crates name.
pub mod Places
pub mod Sounds
pub mod Frames
pub mod Keeping
pub mod Accepting
pub mod Walking
pub mod Stepping
pub mod Viewing
pub mod Happenings
pub mod Codes
pub mod Closings
pub mod Replays
pub mod Holding
