pub mod Cuts
pub mod CutWords
pub mod CutOpaques
pub mod Fields
pub mod Scans
pub mod Fronts
pub mod FieldTexts
