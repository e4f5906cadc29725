mod Numerals
mod Commas
