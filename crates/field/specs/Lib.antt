pub mod FieldOf
