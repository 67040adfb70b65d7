pub mod Reversed
mod Tops
