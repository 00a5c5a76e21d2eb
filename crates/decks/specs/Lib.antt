-- What a deck means.
pub mod Deck
pub mod Stepped
pub mod Figure
-- what the functions promise
pub mod Step
pub mod Kind
-- laws
pub mod Refusal
pub mod State
pub mod OpeningLaws
pub mod AnswerLaws
pub mod DeckLaws
pub mod StepLaws
