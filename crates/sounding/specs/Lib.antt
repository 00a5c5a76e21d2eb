-- The test of a record in the parts in which the code makes it.
pub mod Parts
