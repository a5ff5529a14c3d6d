pub mod Named
pub mod Doubled
