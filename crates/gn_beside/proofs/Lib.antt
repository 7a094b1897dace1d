mod Gathered
mod Placing
