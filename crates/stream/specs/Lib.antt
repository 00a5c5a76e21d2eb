-- What arrives of a deck.
pub mod Arrival
