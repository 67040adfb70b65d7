mod Parts
pub mod Fitting
pub mod Numbered
pub mod Nodes
pub mod Demands
