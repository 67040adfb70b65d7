pub mod declared
