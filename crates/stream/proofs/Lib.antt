-- The bytes that reads bring and writes take.
pub mod Bytes
