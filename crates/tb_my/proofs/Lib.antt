mod Changed
mod Fields
mod Floatless
mod Keys
mod Loops
mod Needed
mod Weekdays
