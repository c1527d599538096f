-- What values of the code mean, and what parts of a call do. The definitions beside this folder rest on nothing here.
pub mod Wanted
pub mod LiveRights
pub mod Unknown
pub mod Rows
pub mod Singles
pub mod Made
