mod Opened
mod ListingExamples
mod ScriptExamples
pub mod Lists
pub mod WordLaws
pub mod ReaderLaws
pub mod ValueLaws
pub mod FieldLaws
pub mod EventLaws
pub mod StyleLaws
pub mod SpellingLaws
pub mod StatementLaws
pub mod ParseLaws
pub mod Graphic
pub mod SplitLaws
pub mod BlockLaws
pub mod SkippedLaws
pub mod EventLineLaws
pub mod LineLaws
pub mod HeaderLaws
pub mod ListingLaws
pub mod TextLaws
