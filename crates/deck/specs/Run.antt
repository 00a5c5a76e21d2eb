-- What a run of the program does with what arrives, and that what arrives is what was read. Two things are left out, since no
-- contract can say them: what the system's streams read and write, and that what is told as failed did fail.
--
--   message f            what is told on standard error
--   told d offset a      what an arrival does in the state d: a failed read stops the run, the end of input prints `end` and
--                        stops it, and a record is stepped
--   past a               how many bytes further the next record begins
--   Place                where a run stands: the state, the next record's place, the text printed, and whether it stopped
--   start, on w a        before the first record, and after an arrival
--   Turns w xs v         the arrivals xs lead from w to v; each comes while the run goes on
--   Unread a             a read failed
--   Goes run a ..        the code's step: state and place are those of the arrival a
--   Takes run a ..       so are stop and line; a failed read is told, and nothing else is; then the line stays as it was
--   Turned run ..        a turn: the same, of what arrived in it, which are the bytes that the reader gave, and the input is at
--                        its end where they ended there; unless the write failed the writer got the line
--   Ran r                a whole run: some arrivals lead from the start to its state, and unless a write failed or the turns
--                        were spent the run stopped there
--   delivered xs         the bytes of the deck that arrived
--   Unfailed xs          no read failed
--   AtEnd left a         where the input ended in the arrival a, nothing of it is left
--   AllAtEnd left xs     so it is for each of the arrivals xs
--   turn_limit           how many turns a run has at most
--   Played i i' o o' r   the same, of what a reader had left before and after and what a writer held: the arrivals are the bytes
--                        that the reader gave, and where one of them ended the input nothing of it is left; unless a write failed
--                        the writer got the text printed; a failed read is told, and nothing else is told as one; and only a run
--                        that goes on after all its turns has them spent
use Rattle.std.specs.Prelude.{ℕ, ◌+◌, ◌-◌, ◌^◌, Bool, true, false, List, [], ◌∷◌, ◌++◌, Option, Some, Result, Ok, Err, ◌≡◌, ◌↔◌, length, codes}
use Rattle.std.specs.Io.KnownBytes.{Consumes, Appends, IsAtEnd}
use Rattle.decks.specs.declared.Deck.{Deck}
use Rattle.lines.specs.Text.{line, end_word}
use Rattle.decks.specs.Deck.{body_length, fresh}
use Rattle.decks.specs.Stepped.{Stepped, stepped}
use Rattle.stream.specs.declared.Stop.TheVariants.{Ended, Failed}
use Rattle.stream.specs.declared.Arrival.{Arrival}
use Rattle.stream.specs.declared.Arrival.TheVariants.{Whole, Cut, Nothing}
use Rattle.stream.specs.Arrival.{Arrives, body_of, bytes_of, stop_of}
use Rattle.deck.specs.declared.Failure.{Failure}
use Rattle.deck.specs.declared.Failure.TheVariants.{Read, Write, Records}
use Rattle.deck.specs.declared.Run.{Run}
use Rattle.deck.specs.declared.Ending.{Ending}

abbrev pub message : Failure → List ℕ
message Read = codes "deck: reading failed"
message Write = codes "deck: writing failed"
message Records = codes "deck: too many records"

unfoldable pub told : Deck → ℕ → Arrival → Stepped
told d offset (Whole r) = stepped d r.kind (body_of r) offset
told d offset (Cut r Ended) = stepped d r.kind (body_of r) offset
told d offset (Cut r Failed) = record { state = d; text = []; halt = true }
told d offset (Nothing Ended) = record { state = d; text = line end_word []; halt = true }
told d offset (Nothing Failed) = record { state = d; text = []; halt = true }

unfoldable pub past : Arrival → ℕ
past (Whole r) = 1 + body_length r.kind
past (Cut r Ended) = 1 + body_length r.kind
past (Cut r Failed) = 0
past (Nothing stop) = 0

pub record Place : Type 0 where
  pub state : Deck
  pub offset : ℕ
  pub text : List ℕ
  pub halt : Bool

unfoldable pub start : Place
start = record { state = fresh; offset = 0; text = []; halt = false }

unfoldable pub on : Place → Arrival → Place
on w a =
    record {
      state = (told w.state w.offset a).state;
      offset = w.offset + past a;
      text = w.text ++ (told w.state w.offset a).text;
      halt = (told w.state w.offset a).halt;
    }

unfoldable pub Turns : Place → List Arrival → Place → Type 0
Turns w [] v = w ≡ v
Turns w (a ∷ xs) v = (w.halt ≡ false) × Arrives a × Turns (on w a) xs v

abbrev pub Unread : Arrival → Type 0
Unread a = stop_of a ≡ Some Failed

abbrev pub AtEnd : Option (List ℕ) → Arrival → Type 0
AtEnd left a = stop_of a ≡ Some Ended → IsAtEnd left

pub record Goes (run : Run) (a : Arrival) (run' : Run) : Type 0 where
  pub state : run'.deck.state ≡ (told run.deck.state run.offset a).state
  pub offset : run'.offset ≡ run.offset + past a

pub record Takes (run : Run) (a : Arrival) (run' : Run) (held text : List ℕ) (r : Result Bool Failure) : Type 0 where
  pub goes : Goes run a run'
  pub halt : (stops : Bool) → r ≡ Ok stops → stops ≡ (told run.deck.state run.offset a).halt
  pub line : (stops : Bool) → r ≡ Ok stops → text ≡ (told run.deck.state run.offset a).text
  pub unread : (r ≡ Err Read) ↔ Unread a
  pub kept : r ≡ Err Read → text ≡ held
  pub only : r ≡ Err Write → ⊥
  pub lasts : r ≡ Err Records → ⊥

pub record Turned (run : Run) (input input' output output' : Option (List ℕ)) (run' : Run) (held text : List ℕ) (r : Result Bool Failure) : Type 0 where
  pub arrival : Arrival
  pub arrived : Arrives arrival
  pub goes : Goes run arrival run'
  pub halt : (stops : Bool) → r ≡ Ok stops → stops ≡ (told run.deck.state run.offset arrival).halt
  pub line : (r ≡ Err Read → ⊥) → text ≡ (told run.deck.state run.offset arrival).text
  pub read : Consumes input input' (bytes_of arrival)
  pub end : AtEnd input' arrival
  pub printed : (r ≡ Err Write → ⊥) → Appends output output' (told run.deck.state run.offset arrival).text
  pub unread : (r ≡ Err Read) ↔ Unread arrival
  pub kept : r ≡ Err Read → text ≡ held
  pub lasts : r ≡ Err Records → ⊥

pub record Ran (r : Ending) : Type 0 where
  pub arrivals : List Arrival
  pub last : Place
  pub turns : Turns start arrivals last
  pub state : r.state ≡ last.state
  pub stopped : (r.result ≡ Err Write → ⊥) → (r.result ≡ Err Records → ⊥) → last.halt ≡ true

unfoldable pub delivered : List Arrival → List ℕ
delivered [] = []
delivered (a ∷ xs) = bytes_of a ++ delivered xs

unfoldable pub Unfailed : List Arrival → Type 0
Unfailed [] = Unit {0}
Unfailed (a ∷ xs) = (Unread a → ⊥) × Unfailed xs

unfoldable pub AllAtEnd : Option (List ℕ) → List Arrival → Type 0
AllAtEnd left [] = Unit {0}
AllAtEnd left (a ∷ xs) = AtEnd left a × AllAtEnd left xs

abbrev pub turn_limit : ℕ
turn_limit = 2 ^ 61 - 1

pub record Played (input input' output output' : Option (List ℕ)) (r : Ending) : Type 0 where
  pub ran : Ran r
  pub read : Consumes input input' (delivered ran.arrivals)
  pub end : AllAtEnd input' ran.arrivals
  pub printed : (r.result ≡ Err Write → ⊥) → Appends output output' ran.last.text
  pub unread : (r.result ≡ Err Read → ⊥) ↔ Unfailed ran.arrivals
  pub spent : r.result ≡ Err Records → (ran.last.halt ≡ false) × (length ran.arrivals ≡ turn_limit)
