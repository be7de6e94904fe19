pub mod Drawing
pub mod Svg
pub mod Text
