pub mod AccessListDifferences
pub mod Differences
pub mod NodeStrings
pub mod PrunedDifferences
