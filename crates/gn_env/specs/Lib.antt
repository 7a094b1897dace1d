pub mod Origins
pub mod Conflicts
pub mod Defaults
pub mod Arguments
