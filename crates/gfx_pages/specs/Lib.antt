pub mod Fills
pub mod Lists
pub mod Page
pub mod Used
