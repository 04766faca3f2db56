pub mod Numbers
pub mod Lanes
pub mod NumbersEqual
pub mod LaneViews
pub mod Bounds
