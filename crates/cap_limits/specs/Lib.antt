pub mod Live
pub mod Standing
pub mod Limits
pub mod LimitsBefore
pub mod Makers
pub mod LimitLaws
pub mod Code
