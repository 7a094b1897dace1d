mod Orders
mod Walks
mod Steps
mod NewLabel
mod Searching
mod Bounds
