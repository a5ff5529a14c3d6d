pub mod Gf
pub mod Tables
pub mod FieldLaws
pub mod Multiples
pub mod Quotient
