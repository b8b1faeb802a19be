pub mod Counted
pub mod SameViews
