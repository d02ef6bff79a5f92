pub mod Kind
pub mod Cursor
pub mod Turn
