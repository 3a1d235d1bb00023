pub mod FileTexts
pub mod FileJudgements
pub mod FileUris
pub mod FileSources
pub mod Tallies
pub mod Lines
