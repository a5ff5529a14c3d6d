pub mod Turned
pub mod RowLaws
pub mod PartLaws
pub mod Outcomes
pub mod OneResult
pub mod ChosenLaws
pub mod CombineLaws
pub mod Combined
