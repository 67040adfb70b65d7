pub mod Views
pub mod Order
pub mod Senders
pub mod Calls
pub mod Settled
pub mod desk_rounds
