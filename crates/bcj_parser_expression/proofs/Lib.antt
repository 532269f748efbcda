mod Turns
mod Numbers
mod Shapes
