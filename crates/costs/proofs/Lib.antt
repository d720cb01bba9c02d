pub mod Order
pub mod WidthLaws
