-- One step of a run, as the code does it.
--
--   settled d k body      what the step of a record that is not refused leaves
--   Steps s d halt text   the state d, the text printed, and whether the run stops are those of the step s
--   Opens d r             r is what the opening of a state answers: the job, or what refuses it
use Rattle.std.specs.Prelude.{ℕ, Bool, List, Result, Ok, Err, ◌≡◌}
use Rattle.checks.specs.declared.Refusal.{Refusal}
use Rattle.checks.specs.Outcome.{number_of}
use Rattle.offers.specs.declared.SoundJob.{SoundJob}
use Rattle.decks.specs.declared.Deck.{Deck}
use Rattle.decks.specs.Deck.{opening, opened_job, taken, line_of, stops}
use Rattle.decks.specs.Stepped.{Stepped}

unfoldable pub settled : Deck → ℕ → List ℕ → Stepped
settled d k body = record { state = taken d k body; text = line_of d k body; halt = stops d k }

pub record Steps (s : Stepped) (d : Deck) (halt : Bool) (text : List ℕ) : Type 0 where
  pub state : d ≡ s.state
  pub halted : halt ≡ s.halt
  pub line : text ≡ s.text

abbrev pub Opens : Deck → Result SoundJob Refusal → Type 0
Opens d (Ok s) = (opening d ≡ 0) × (s.job ≡ opened_job d)
Opens d (Err r) = opening d ≡ number_of r
