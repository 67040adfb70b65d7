pub mod Firsts
pub mod Ordered
pub mod Numbers
pub mod Known
