pub mod unit_walk
