-- What a deck means: from its bytes to the lines that are printed and the state that is left.
--
--   known k                 k is a kind of the table
--   body_length k            how many bytes the body of a record of kind k has
--   byte body at            one byte of a body
--   number4 body at         the little-endian number in four bytes
--   fresh                   the state before the first record
--   in_order stage k         a record of kind k may stand here
--   astray d body           its side or place is outside the shape
--   deck_number d k body     the deck refusal of a record: 21, 22, 23, 4, 24, or 0; body is what arrived of it
--   tabled m e A            the table of degrees m and e with the coefficients A
--   table_a d, table_b d      the tables of the declared degrees: the values set so far, 0 at every other place
--   opening d               the number that opening them answers
--   opened_job d             the job that it gives
--   with_modulus d body      the state after a record of kind 1,
--   with_degrees d body      of kind 2,
--   with_place d body        of kind 3: the value stands at its place from now on
--   with_job d stage j       the state with another stage and job
--   taken d k body          the state after a record that is not refused
--   open_line d              the line of an opening,
--   point_line j a           of an offer,
--   read_line j              of a read
--   degree_word j            the degree in words: a dash for the zero polynomial
--   line_of d k body         the line that a record prints, or nothing
--   stops d k               the run stops after it
--   Outcome                 what a run leaves: the lines printed, and the state
--   before text o           a line in front of what follows
--   halted text d           a line at which the run stops
--   from fuel offset d bytes    the run from the record at `offset`, with `fuel` records at most
--   deck bytes              a whole deck
use Rattle.std.specs.Prelude.{ℕ, zero, suc, ◌+◌, ◌*◌, ◌/◌, ◌%◌, Bool, cond, not, ◌&&◌, ◌||◌, List, [], ◌∷◌, ◌++◌, ltb, leb, eqb, length, get_or, take, drop, set, replicate}
use Rattle.scope.specs.Pair.{place, size, term, bound}
use Rattle.scope.specs.Number.{◌gives◌otherwise◌, too_high}
use Rattle.scope.specs.Point.{tabulate, room}
use Rattle.job.specs.declared.Job.{Job}
use Rattle.job.specs.Job.{pair_of, blank}
use Rattle.job.specs.Calls.{offer_number, offered, reading, wanted, written, degree_of, is_zero}
use Rattle.job.specs.Public.{strict_number, strict_job}
use Rattle.decks.specs.declared.Stage.{Stage}
use Rattle.decks.specs.declared.Stage.TheVariants.{NoModulus, NoDegrees, Unopened, Opened}
use Rattle.decks.specs.declared.Deck.{Deck}
use Rattle.lines.specs.Text.{line, spaced, decimal, open_word, point_word, read_word, deck_word, end_word}

unfoldable pub known : ℕ → Bool
known k = leb 1 k && leb k 6

unfoldable pub body_length : ℕ → ℕ
body_length k = cond (eqb k 3) 7 (cond (eqb k 1 || eqb k 2 || eqb k 5) 4 0)

unfoldable pub byte : List ℕ → ℕ → ℕ
byte body at = get_or body at 0

unfoldable pub number4 : List ℕ → ℕ → ℕ
number4 body at = byte body at + 256 * byte body (at + 1) + 65536 * byte body (at + 2) + 16777216 * byte body (at + 3)

unfoldable pub fresh : Deck
fresh =
    record {
      stage = NoModulus;
      p = 0;
      m = 0;
      e = 0;
      n = 0;
      f = 0;
      a = replicate 289 0;
      b = replicate 289 0;
      job = blank;
    }

unfoldable pub in_order : Stage → ℕ → Bool
in_order NoModulus k = eqb k 1
in_order NoDegrees k = eqb k 2
in_order Unopened k = eqb k 3 || eqb k 4
in_order Opened k = eqb k 5 || eqb k 6

unfoldable pub astray : Deck → List ℕ → Bool
astray d body =
    ltb 1 (byte body 0)
    || cond (eqb (byte body 0) 0)
    (ltb d.m (byte body 1) || ltb d.e (byte body 2))
    (ltb d.n (byte body 1) || ltb d.f (byte body 2))

unfoldable pub deck_number : Deck → ℕ → List ℕ → ℕ
deck_number d k body =
    not (known k) gives 21 otherwise
    ltb (length body) (body_length k) gives 22 otherwise
    not (in_order d.stage k) gives 23 otherwise
    (eqb k 2 && (too_high (byte body 0) || too_high (byte body 1) || too_high (byte body 2) || too_high (byte body 3))) gives 4 otherwise
    (eqb k 3 && astray d body) gives 24 otherwise 0

unfoldable pub tabled : (m e : ℕ) → (ℕ → ℕ → ℕ) → List ℕ
tabled m e A = tabulate (size m e) (λ k. A (k / (e + 1)) (k % (e + 1)))

-- a state keeps 17 places for each power of x, whatever the declared degree in y
unfoldable pub table_a : Deck → List ℕ
table_a d = tabled d.m d.e (term 16 d.a)

unfoldable pub table_b : Deck → List ℕ
table_b d = tabled d.n d.f (term 16 d.b)

unfoldable pub opening : Deck → ℕ
opening d = strict_number d.p d.m d.e d.n d.f (table_a d) (table_b d)

unfoldable pub opened_job : Deck → Job
opened_job d = strict_job d.p d.m d.e d.n d.f (table_a d) (table_b d)

unfoldable pub with_modulus : Deck → List ℕ → Deck
with_modulus d body =
    record { stage = NoDegrees; p = number4 body 0; m = d.m; e = d.e; n = d.n; f = d.f; a = d.a; b = d.b; job = d.job }

unfoldable pub with_degrees : Deck → List ℕ → Deck
with_degrees d body =
    record { stage = Unopened; p = d.p; m = byte body 0; e = byte body 1; n = byte body 2; f = byte body 3; a = d.a; b = d.b; job = d.job }

unfoldable pub with_place : Deck → List ℕ → Deck
with_place d body =
    cond (eqb (byte body 0) 0)
    (record { stage = d.stage; p = d.p; m = d.m; e = d.e; n = d.n; f = d.f; a = set d.a (place 16 (byte body 1) (byte body 2)) (number4 body 3); b = d.b; job = d.job })
    (record { stage = d.stage; p = d.p; m = d.m; e = d.e; n = d.n; f = d.f; a = d.a; b = set d.b (place 16 (byte body 1) (byte body 2)) (number4 body 3); job = d.job })

unfoldable pub with_job : Deck → Stage → Job → Deck
with_job d stage j = record { stage = stage; p = d.p; m = d.m; e = d.e; n = d.n; f = d.f; a = d.a; b = d.b; job = j }

unfoldable pub taken : Deck → ℕ → List ℕ → Deck
taken d k body =
    cond (eqb k 1) (with_modulus d body)
    (cond (eqb k 2) (with_degrees d body)
    (cond (eqb k 3) (with_place d body)
    (cond (eqb k 4) (cond (eqb (opening d) 0) (with_job d Opened (opened_job d)) d)
    (cond (eqb k 5) (with_job d d.stage (offered d.job (number4 body 0))) d))))

unfoldable pub open_line : Deck → List ℕ
open_line d =
    cond (eqb (opening d) 0)
    (line open_word (0 ∷ bound (pair_of (opened_job d)) ∷ []))
    (line open_word (opening d ∷ []))

unfoldable pub point_line : Job → ℕ → List ℕ
point_line j a = line point_word (a ∷ offer_number j a ∷ [])

unfoldable pub degree_word : Job → List ℕ
degree_word j = cond (is_zero (pair_of j)) (45 ∷ []) (decimal (degree_of (pair_of j)))

-- a deck reads into as many entries as a read writes, so that only 14 refuses it
unfoldable pub read_line : Job → List ℕ
read_line j =
    cond (eqb (reading j (room (pair_of j))) 0)
    (read_word ++ (32 ∷ 48 ∷ 32 ∷ (degree_word j ++ (spaced (written (pair_of j)) ++ 10 ∷ []))))
    (line read_word (reading j (room (pair_of j)) ∷ wanted j ∷ []))

unfoldable pub line_of : Deck → ℕ → List ℕ → List ℕ
line_of d k body =
    cond (eqb k 4) (open_line d)
    (cond (eqb k 5) (point_line d.job (number4 body 0))
    (cond (eqb k 6) (read_line d.job) []))

unfoldable pub stops : Deck → ℕ → Bool
stops d k = eqb k 4 && not (eqb (opening d) 0)

pub record Outcome : Type 0 where
  pub text : List ℕ
  pub state : Deck

unfoldable pub before : List ℕ → Outcome → Outcome
before text o = record { text = text ++ o.text; state = o.state }

unfoldable pub halted : List ℕ → Deck → Outcome
halted text d = record { text = text; state = d }

unfoldable pub from : ℕ → ℕ → Deck → List ℕ → Outcome
from zero offset d bytes = halted [] d
from (suc fuel) offset d [] = halted (line end_word []) d
from (suc fuel) offset d (k ∷ rest) =
    let body = take (body_length k) rest in
    let on = before (line_of d k body) (from fuel (offset + 1 + body_length k) (taken d k body) (drop (body_length k) rest)) in
    cond (eqb (deck_number d k body) 0)
    (cond (stops d k) (halted (line_of d k body) d) on)
    (halted (line deck_word (deck_number d k body ∷ offset ∷ [])) d)

unfoldable pub deck : List ℕ → Outcome
deck bytes = from (suc (length bytes)) 0 fresh bytes
