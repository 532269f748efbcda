pub mod Orders
mod Below
mod Firsts
mod Methods
mod Looks
mod Turns
