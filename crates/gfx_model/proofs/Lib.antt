pub mod ExampleCaptures
mod SpellingExamples
mod FaultExamples
mod WordExamples
mod FrameExamples
pub mod SectionExamples
pub mod PageExamples
mod TextExamples
pub mod FileExamples
pub mod Stand
pub mod Steps
pub mod Covered
pub mod CoveredTurns
pub mod Lists
pub mod Following
pub mod Cutting
