pub mod Tests
pub mod Orders
pub mod Results
pub mod Lists
pub mod Tables
pub mod Texts
