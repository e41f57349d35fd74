mod Pushes
mod Ready
mod Steps
