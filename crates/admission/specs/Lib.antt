pub mod Admitted
pub mod Gathering
pub mod Inputs
pub mod Lacking
