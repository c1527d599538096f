-- What values of the code mean, and what parts of a call do. The definitions beside this folder rest on nothing here.
pub mod Explained
pub mod Feeds
pub mod Gives
pub mod LineEnds
pub mod Performs
pub mod Queries
pub mod StartLines
pub mod StartParsed
pub mod Chunks
pub mod RunTable
pub mod Traced
pub mod Walked
pub mod Works
