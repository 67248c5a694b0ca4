mod Worked
mod Giving
mod Answering
mod Showing
mod Following
