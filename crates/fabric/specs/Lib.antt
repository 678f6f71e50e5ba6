pub mod Rows
pub mod Shares
pub mod Sizes
pub mod Inboxes
pub mod Parcels
pub mod Orders
pub mod Proposed
