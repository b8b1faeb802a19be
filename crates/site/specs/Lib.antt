pub mod Faults
pub mod Making
pub mod States
pub mod Steps
