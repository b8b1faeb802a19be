pub mod Counting
pub mod Majorities
pub mod Members
pub mod Order
pub mod Records
pub mod Refusals
pub mod Rows
pub mod Views
