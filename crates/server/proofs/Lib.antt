mod Filling
mod Lending
mod Others
