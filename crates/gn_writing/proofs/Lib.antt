pub mod LeftSides
pub mod OneText
pub mod Named
