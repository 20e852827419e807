pub mod Cursor
pub mod Store
