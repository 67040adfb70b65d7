pub mod covered_start
