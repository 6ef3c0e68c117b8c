mod Asked
mod Locals
mod Values
