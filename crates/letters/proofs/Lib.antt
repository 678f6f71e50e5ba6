mod Exact
mod OneText
