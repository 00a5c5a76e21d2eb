-- The lines of a deck, as lists of bytes.
pub mod Text
pub mod Line
-- laws
pub mod TextLaws
pub mod Decimal
pub mod LineLaws
