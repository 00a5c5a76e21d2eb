-- What the row calls ask and answer.
pub mod Given
pub mod Which
pub mod WhichLaws
pub mod Last
