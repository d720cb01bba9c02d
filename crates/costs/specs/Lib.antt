-- In the order of reading: what a cost kind is, the two kinds of numbers, what a line costs, then bandings.
pub mod Kind
pub mod Largest
pub mod Amounts
pub mod LineCost
pub mod Bands
pub mod AmountLaws
