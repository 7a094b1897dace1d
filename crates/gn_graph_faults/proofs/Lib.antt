mod Sorting
mod Ordered
mod Sentences
mod ToldMore
mod OneList
mod Leasts
