pub mod Transmitted
