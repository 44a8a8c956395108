pub mod Asked
pub mod Faults
pub mod Found
pub mod Imported
pub mod Naming
pub mod Printed
