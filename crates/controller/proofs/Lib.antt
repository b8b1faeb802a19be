pub mod Actions
pub mod Forms
pub mod Places
pub mod Statuses
