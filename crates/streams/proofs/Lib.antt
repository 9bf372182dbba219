mod Parts
mod Taken
mod Shown
