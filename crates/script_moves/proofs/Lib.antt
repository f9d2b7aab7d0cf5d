mod Cues
mod Scripts
mod Stops
mod Worked
