pub mod Printed
pub mod Taken
