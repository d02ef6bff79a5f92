pub mod Transmission
