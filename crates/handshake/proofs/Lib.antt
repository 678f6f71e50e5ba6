mod Cutting
mod Named
mod Meeting
mod Spoken
