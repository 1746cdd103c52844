pub mod Heights
pub mod Rooms
pub mod Running
