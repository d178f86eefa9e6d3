pub mod Blocks
pub mod BlockLaws
pub mod Spine
pub mod SpineLaws
pub mod Load
pub mod LoadLaws
