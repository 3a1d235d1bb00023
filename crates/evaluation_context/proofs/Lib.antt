pub mod RunningLaws
pub mod FrameLaws
pub mod PlannedLaws
pub mod EndLaws
pub mod LowerLaws
