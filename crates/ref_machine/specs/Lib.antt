pub mod Types
pub mod Step
pub mod Run
pub mod Standing
pub mod Machines
pub mod Laws
