mod Lagging
mod Slower
