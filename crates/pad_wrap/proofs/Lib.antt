pub mod Pads
