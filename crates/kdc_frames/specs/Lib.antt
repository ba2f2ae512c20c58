pub mod Exchanges
pub mod Frames
pub mod Moves
pub mod Notes
pub mod Pieces
pub mod Requests
