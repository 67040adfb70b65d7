pub mod Flagging
pub mod Placing
pub mod Running
pub mod Stand
