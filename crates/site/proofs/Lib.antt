pub mod Copied
pub mod Delivering
pub mod Joining
pub mod Lent
pub mod Placing
pub mod Settling
