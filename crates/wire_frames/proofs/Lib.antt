mod Streams
mod Lengths
mod AsLong
