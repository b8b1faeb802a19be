pub mod ByRules
pub mod Choosing
