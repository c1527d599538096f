pub mod CommandLine
pub mod Faults
pub mod Plans
pub mod Runs
pub mod Texts
