pub mod Deployments
pub mod Fields
