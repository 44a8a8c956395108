mod Following
mod Imports
mod Numbered
