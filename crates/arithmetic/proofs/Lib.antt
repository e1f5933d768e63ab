pub mod Tops
pub mod Gains
pub mod Walks
pub mod Boxes
pub mod LineSums
pub mod Tiles
