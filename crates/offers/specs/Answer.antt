-- The number that an offer answers.
--
--   answer_of r     0 where the point is kept, 1 where it is surplus, otherwise the number of the refusal
use Rattle.std.specs.Prelude.{ℕ, Result, Ok, Err}
use Rattle.checks.specs.declared.Refusal.{Refusal}
use Rattle.checks.specs.Outcome.{number_of}
use Rattle.offers.specs.declared.Offer.{Offer}
use Rattle.offers.specs.declared.Offer.TheVariants.{Kept, Surplus}

abbrev pub answer_of : Result Offer Refusal → ℕ
answer_of (Ok Kept) = 0
answer_of (Ok Surplus) = 1
answer_of (Err r) = number_of r
