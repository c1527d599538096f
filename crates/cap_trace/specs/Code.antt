-- What values of the code mean, and what parts of a call do. The definitions beside this folder rest on nothing here.
pub mod Rows
pub mod Slots
pub mod FlagSteps
pub mod Runs
pub mod FastPath
pub mod Writing
pub mod Kept
pub mod Making
pub mod Escaping
