mod Told
mod Moves
mod Joined
mod Views
mod Alone
mod Bytes
mod Forged
