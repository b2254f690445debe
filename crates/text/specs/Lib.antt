pub mod Outcomes
pub mod Numbers
pub mod Lines
pub mod Layout
pub mod Texts
pub mod RoundTrip
