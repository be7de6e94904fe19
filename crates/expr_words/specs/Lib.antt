pub mod Bytes
pub mod Number
pub mod Address
pub mod AddressViews
pub mod Names
pub mod Scan
pub mod ScanViews
pub mod Tokens
