pub mod Callers
pub mod Origins
