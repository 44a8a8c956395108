pub mod Site
pub mod Page
