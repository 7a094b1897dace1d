mod Filters
mod Leasts
mod Repeats
mod Told
