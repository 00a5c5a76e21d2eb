-- What arrives of a deck: what one read, the reading of a stretch, and a record's arrival say of themselves.
--
--   Reads n r       one read into n bytes: it brought some, or the input ended, or it failed
--   Fills need r    so many bytes came, or fewer, and then the input ended or a read failed
--   body_of r       what arrived of a record's body
--   Arrives a       a record, whole or cut; cut, or none at all, only where the input ended or a read failed
--   bytes_of a      the bytes of the deck that arrived with it
--   stop_of a       why no more of them arrived, where it is not whole
use Rattle.std.specs.Prelude.{ℕ, ⊤, ◌≤◌, ◌<◌, ◌≡◌, List, [], ◌∷◌, Option, Some, None, Result, Ok, Err, length, take}
use Rattle.decks.specs.Deck.{body_length}
use Rattle.stream.specs.declared.Stop.{Stop}
use Rattle.stream.specs.declared.Short.{Short}
use Rattle.stream.specs.declared.records.Record.{Record}
use Rattle.stream.specs.declared.Arrival.{Arrival}
use Rattle.stream.specs.declared.Arrival.TheVariants.{Whole, Cut, Nothing}

abbrev pub Reads : ℕ → Result ℕ Stop → Type 0
Reads n (Ok count) = (0 < count) × (count ≤ n)
Reads n (Err stop) = ⊤

abbrev pub Fills : ℕ → Result (Unit {0}) Short → Type 0
Fills need (Ok _) = ⊤
Fills need (Err short) = short.count < need

abbrev pub body_of : Record → List ℕ
body_of r = take r.count r.body

abbrev pub Arrives : Arrival → Type 0
Arrives (Whole r) = length (body_of r) ≡ body_length r.kind
Arrives (Cut r stop) = length (body_of r) < body_length r.kind
Arrives (Nothing stop) = ⊤

abbrev pub bytes_of : Arrival → List ℕ
bytes_of (Whole r) = r.kind ∷ body_of r
bytes_of (Cut r stop) = r.kind ∷ body_of r
bytes_of (Nothing stop) = []

abbrev pub stop_of : Arrival → Option Stop
stop_of (Whole r) = None
stop_of (Cut r stop) = Some stop
stop_of (Nothing stop) = Some stop
