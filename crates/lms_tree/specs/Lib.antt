pub mod Valid
pub mod Signer
