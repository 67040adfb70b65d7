pub mod Contents
pub mod Fitting
pub mod Deciding
