-- Lemmas that functions of this crate and of crates above it name.
pub mod Tables
pub mod Puttings
pub mod Scanning
pub mod Packings
pub mod Laying
pub mod Copying
