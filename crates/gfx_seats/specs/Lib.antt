pub mod Entries
pub mod Stage
pub mod Hand
pub mod View
pub mod Rule
pub mod Steps
pub mod Seat
pub mod Desk
