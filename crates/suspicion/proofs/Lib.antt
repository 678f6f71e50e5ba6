mod Doubting
mod Passed
mod Places
mod Sets
