pub mod Fitting
pub mod NeverFailing
