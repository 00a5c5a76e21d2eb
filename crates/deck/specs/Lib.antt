-- What the functions of the program promise.
pub mod Run
pub mod RunLaws
