pub mod Finding
mod Hexadecimals
mod Pairing
mod Reading
mod ReadingBack
mod Writing
