pub mod Origins
pub mod Ranges
