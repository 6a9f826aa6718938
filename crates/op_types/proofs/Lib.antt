pub mod LeafTexts
pub mod Ops
pub mod Readers
