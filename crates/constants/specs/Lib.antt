pub mod Kernel
pub mod Errno
