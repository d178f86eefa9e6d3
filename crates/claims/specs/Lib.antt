pub mod Numerals
pub mod ReadElements
pub mod Valid
pub mod Agree
pub mod ReadBack
pub mod WrittenBytes
pub mod Terms
pub mod Claims
