pub mod ScannedToken
pub mod Capped
pub mod ScannedTokenLaws
pub mod TokenView
pub mod ScannedViewLaws
pub mod ChangeLaws
pub mod TokenLaws
