pub mod Lists
pub mod Lookups
pub mod Maps
pub mod Powers
pub mod Prefixes
pub mod Splits
