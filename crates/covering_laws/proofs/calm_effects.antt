pub mod Calm
