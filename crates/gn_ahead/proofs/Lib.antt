pub mod Paths
pub mod AskedAhead
pub mod Rebased
pub mod EndsAhead
pub mod FirstReads
