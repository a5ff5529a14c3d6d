pub mod Choice
pub mod All
pub mod Rows
pub mod Pieces
pub mod Blocks
pub mod Engine
pub mod Buffer
