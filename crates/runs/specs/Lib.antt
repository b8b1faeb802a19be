pub mod ExampleRuns
pub mod Guarantee
pub mod History
pub mod Records
pub mod Runs
