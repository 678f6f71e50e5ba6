mod Lies
mod Numbers
mod Sharing
