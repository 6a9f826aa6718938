pub mod AccessListDifference
pub mod Difference
pub mod NodeString
pub mod PrunedDifference
