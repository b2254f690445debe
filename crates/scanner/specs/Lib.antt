pub mod Rule
pub mod Classes
pub mod States
