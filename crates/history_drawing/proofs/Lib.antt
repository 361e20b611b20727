mod Begins
mod Rising
mod Shown
