pub mod Places
pub mod Mirror
pub mod Window
pub mod Node
pub mod Rows
pub mod Walks
pub mod Leaf
