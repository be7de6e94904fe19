pub mod Lent
pub mod Shown
pub mod Remaining
pub mod Changing
pub mod Shares
pub mod Plans
pub mod Replicas
pub mod Boxed
