mod Given
mod Missing
mod NothingHeld
mod Surviving
mod TwoNodes
