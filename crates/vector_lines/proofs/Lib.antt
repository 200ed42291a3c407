pub mod Lettered
pub mod Laying
pub mod Printing
