-- The number of a refusal, and of a call's outcome.
--
--   number_of r           what the scope's table lists for a refusal
--   wanted_of r           how many points are still wanted; 0 with any other refusal
--   outcome r             0 of a call that is not refused, otherwise the number of its refusal
--   kind r                a refusal without the count of points that it may carry
--   number_of_bounds      the number of a refusal is neither 0 nor 1, and at most 17
--   number_of_injective   refusals with one number are of one kind
--   outcome_zero          the outcome is 0 exactly of a call that is not refused
use Rattle.std.specs.Prelude.{ℕ, ◌-◌, ◌≤◌, List, [], ◌∷◌, ◌≡◌, ◌↔◌, refl, get_or, Result, Ok, Err, IsOk}
use Rattle.std.proofs.Common.{arith, sym, ap, ◌∙◌, lit≤}
use Rattle.std.proofs.lemmas.Bool.{false≢true}
use Rattle.checks.specs.declared.Refusal.{Refusal}
use Rattle.checks.specs.declared.Refusal.TheVariants.{Range, Composite, Degree, Length, Entry, Lead, Scarce, Room, Point, Unusable, Repeated, Disagrees, Wanted, Divisor, Unsound, Large}

abbrev pub number_of : Refusal → ℕ
number_of Range = 2
number_of Composite = 3
number_of Degree = 4
number_of Length = 5
number_of Entry = 6
number_of Lead = 7
number_of Scarce = 8
number_of Room = 9
number_of Point = 10
number_of Unusable = 11
number_of Repeated = 12
number_of Disagrees = 13
number_of (Wanted _) = 14
number_of Divisor = 15
number_of Unsound = 16
number_of Large = 17

abbrev pub wanted_of : Refusal → ℕ
wanted_of (Wanted w) = w
wanted_of r = 0

abbrev pub outcome : {A : Type 0} → Result A Refusal → ℕ
outcome (Ok _) = 0
outcome (Err r) = number_of r

abbrev pub kind : Refusal → Refusal
kind (Wanted _) = Wanted 0
kind r = r

pub number_of_bounds : (r : Refusal) → (2 ≤ number_of r) × (number_of r ≤ 17)
number_of_bounds Range = (lit≤ tt, lit≤ tt)
number_of_bounds r = (lit≤ tt, lit≤ tt)

-- the kinds in the order of their numbers, from 2 on
kinds : List Refusal
kinds = Range ∷ Composite ∷ Degree ∷ Length ∷ Entry ∷ Lead ∷ Scarce ∷ Room ∷ Point ∷ Unusable ∷ Repeated ∷ Disagrees ∷ Wanted 0 ∷ Divisor ∷ Unsound ∷ Large ∷ []

kind_listed : (r : Refusal) → get_or kinds (number_of r - 2) Range ≡ kind r
unfolding kinds
kind_listed Range = refl
kind_listed r = refl

pub number_of_injective : (r s : Refusal) → number_of r ≡ number_of s → kind r ≡ kind s
number_of_injective r s e = sym (kind_listed r) ∙ ap (λ (n : ℕ). get_or kinds (n - 2) Range) e ∙ kind_listed s

pub outcome_zero : {A : Type 0} (r : Result A Refusal) → (outcome r ≡ 0) ↔ IsOk r
outcome_zero (Ok x) = (λ _. refl, λ _. refl)
outcome_zero (Err r) = (λ e. absurd (omega (arith, (number_of_bounds r).0)), λ e. absurd (false≢true e))
