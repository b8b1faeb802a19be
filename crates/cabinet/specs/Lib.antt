pub mod Cells
pub mod Slots
pub mod Strips
pub mod Trays
