pub mod Numbers
pub mod FiveLines
pub mod Costs
pub mod Sheets
pub mod Figures
