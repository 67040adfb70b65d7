pub mod Order
pub mod Graph
pub mod row_members
pub mod system_check
