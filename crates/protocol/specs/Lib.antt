pub mod Updates
pub mod Members
pub mod Majorities
pub mod Views
pub mod Model
pub mod Guarantee
