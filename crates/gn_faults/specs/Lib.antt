pub mod Numbers
pub mod Texts
pub mod Order
pub mod Printed
