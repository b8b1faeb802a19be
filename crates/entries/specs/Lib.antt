pub mod Lookups
pub mod Says
