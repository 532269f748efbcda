pub mod Agreement
pub mod Loops
pub mod Rooms
pub mod Heights
pub mod Expressions
pub mod Statements
pub mod Declarations
pub mod Units
