pub mod Whereabouts
pub mod Reports
