pub mod KindsOfCalls
pub mod RowsOfCalls
