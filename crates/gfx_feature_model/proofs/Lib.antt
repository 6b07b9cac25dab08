mod Opened
mod LeanExamples
mod ListingExamples
