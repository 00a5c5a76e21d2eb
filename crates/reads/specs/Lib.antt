-- What the crate's contracts cite.
pub mod Answered
pub mod Read
pub mod Shot
