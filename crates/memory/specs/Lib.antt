-- What the contracts of this crate speak of.
pub mod Memories
pub mod Items
pub mod ItemLaws
pub mod ByteOrder
pub mod WordLaws
pub mod ByteLaws
