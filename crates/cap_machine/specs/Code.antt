-- What values of the code mean, and what parts of a call do. The definitions beside this folder rest on nothing here.
pub mod PlaceView
pub mod Composed
pub mod Cells
pub mod Table
pub mod Starts
pub mod Known
pub mod Checked
pub mod Touched
pub mod Passages
pub mod Walks
pub mod Following
pub mod MayHave
