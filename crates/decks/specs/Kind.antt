-- The kinds of records and the refusals of a deck, by their numbers.
--
--   kind_number k        the kind byte of a record
--   side_number s        the first byte of a place's body
--   refusal_number r     the number that a refused record prints
--   Names k r            r is the kind of this number, or that there is none
--   Sides s r            r is the side of this number, or that there is none
--   Admits d k body r    what the test of a record answers: its kind, where it is not refused
use Rattle.std.specs.Prelude.{ℕ, ◌<◌, false, List, Result, Ok, Err, ◌≡◌}
use Rattle.decks.specs.declared.Deck.{Deck}
use Rattle.decks.specs.declared.records.Kind.{Kind}
use Rattle.decks.specs.declared.records.Kind.TheVariants.{Modulus, Degrees, Place, Open, Point, Read}
use Rattle.decks.specs.declared.records.Side.{Side}
use Rattle.decks.specs.declared.records.Side.TheVariants.{A, B}
use Rattle.decks.specs.declared.records.Refusal.{Refusal}
use Rattle.decks.specs.declared.records.Refusal.TheVariants.{Unknown, Cut, Disorder, Steep, Astray}
use Rattle.decks.specs.Deck.{known, deck_number}

abbrev pub kind_number : Kind → ℕ
kind_number Modulus = 1
kind_number Degrees = 2
kind_number Place = 3
kind_number Open = 4
kind_number Point = 5
kind_number Read = 6

abbrev pub side_number : Side → ℕ
side_number A = 0
side_number B = 1

abbrev pub refusal_number : Refusal → ℕ
refusal_number Unknown = 21
refusal_number Cut = 22
refusal_number Disorder = 23
refusal_number Steep = 4
refusal_number Astray = 24

abbrev pub Names : ℕ → Result Kind Refusal → Type 0
Names k (Ok kind) = kind_number kind ≡ k
Names k (Err r) = (r ≡ Unknown) × (known k ≡ false)

abbrev pub Sides : ℕ → Result Side Refusal → Type 0
Sides s (Ok side) = side_number side ≡ s
Sides s (Err r) = (r ≡ Astray) × (1 < s)

abbrev pub Admits : Deck → ℕ → List ℕ → Result Kind Refusal → Type 0
Admits d k body (Ok kind) = (kind_number kind ≡ k) × (deck_number d k body ≡ 0)
Admits d k body (Err r) = deck_number d k body ≡ refusal_number r
