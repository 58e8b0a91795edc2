pub mod Idled
