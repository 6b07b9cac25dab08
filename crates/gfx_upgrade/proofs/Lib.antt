mod UpgradedExamples
pub mod UpgradedLaws
pub mod Meanings
pub mod Upgrading
