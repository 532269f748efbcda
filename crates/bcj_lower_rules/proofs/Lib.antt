mod Long
mod Measured
mod Placed
mod PlacedNodes
