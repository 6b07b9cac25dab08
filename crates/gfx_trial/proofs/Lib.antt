mod Picks
mod Files
mod Thirds
mod Answering
