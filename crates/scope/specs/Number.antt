-- The numbers that calls answer, each given exactly when the scope's table says, in the scope's order of refusal.
--
--   t gives r otherwise s     the number r where the test t holds, else what follows
--   outside p                 2: p < 2 or p >= 2^31
--   composite p               3: not prime
--   too_high d                 4: a declared degree above 16
--   too_long r                 4: a row longer than 17
--   empty r                   5: a row with no entry
--   misfit m e t              5: a table of another length than its degrees ask
--   over p t                  6: an entry >= p
--   no_lead m e t              7: the leading row of a table is zero
--   unended r                 7 and 15: the last entry is zero, or there is none
--   scarce P                  8: fewer usable points below p than are needed
--   open_number                opening: 2 to 8
--   one_shot_number             the one-shot: the same, then 9
--   row_number                 the row resultant: 2 to 7
--   plain_number               the plain determinant: the same, then 17
--   division_number            division in the work row: 2, 3, 4, 6, 15
--   point_number               a point offered to a sound job, before it is kept or surplus: 10, 12, 11
--   lot_number                 a lot on a sound job: 9
--   read_number                a read of a sound job: 14, 9
use Rattle.std.specs.Prelude.{ℕ, zero, suc, ◌+◌, Bool, true, false, not, ◌||◌, List, [], ◌∷◌, leb, ltb, eqb, length, get_or}
use Rattle.residue.specs.Prime.{limit, prime?}
use Rattle.euclid.specs.Row.{declared}
use Rattle.scope.specs.Pair.{Pair, tables, term, size, some}
use Rattle.scope.specs.Point.{usable, needed, room, enough}

infixr 20 ◌gives◌otherwise◌
unfoldable pub ◌gives◌otherwise◌ : Bool → ℕ → ℕ → ℕ
true gives r otherwise s = r
false gives r otherwise s = s

unfoldable pub outside : ℕ → Bool
outside p = ltb p 2 || leb limit p

unfoldable pub composite : ℕ → Bool
composite p = not (prime? p)

unfoldable pub too_high : ℕ → Bool
too_high d = ltb 16 d

unfoldable pub too_long : List ℕ → Bool
too_long r = ltb 17 (length r)

unfoldable pub empty : List ℕ → Bool
empty r = eqb (length r) 0

unfoldable pub misfit : ℕ → ℕ → List ℕ → Bool
misfit m e t = not (eqb (length t) (size m e))

unfoldable pub over : ℕ → List ℕ → Bool
over p [] = false
over p (x ∷ t) = leb p x || over p t

unfoldable pub no_lead : ℕ → ℕ → List ℕ → Bool
no_lead m e t = not (some (e + 1) (λ j. not (eqb (term e t m j) 0)))

unfoldable pub unended : List ℕ → Bool
unended r = eqb (get_or r (declared r) 0) 0

unfoldable pub scarce : Pair → Bool
scarce P = not (enough P)

unfoldable pub open_number : (p m e n f : ℕ) → List ℕ → List ℕ → ℕ
open_number p m e n f s t =
    outside p gives 2 otherwise
    composite p gives 3 otherwise
    (too_high m || too_high e || too_high n || too_high f) gives 4 otherwise
    (misfit m e s || misfit n f t) gives 5 otherwise
    (over p s || over p t) gives 6 otherwise
    (no_lead m e s || no_lead n f t) gives 7 otherwise
    scarce (tables p m e n f s t) gives 8 otherwise 0

-- r where it is a refusal, otherwise what is judged after it
unfoldable pub ◌then◌ : ℕ → ℕ → ℕ
zero then s = s
suc r then s = suc r

infixr 20 ◌then◌
unfoldable pub one_shot_number : (p m e n f : ℕ) → List ℕ → List ℕ → ℕ → ℕ
one_shot_number p m e n f s t entries =
    open_number p m e n f s t then
    ltb entries (room (tables p m e n f s t)) gives 9 otherwise 0

unfoldable pub row_number : ℕ → List ℕ → List ℕ → ℕ
row_number p a b =
    outside p gives 2 otherwise
    composite p gives 3 otherwise
    (too_long a || too_long b) gives 4 otherwise
    (empty a || empty b) gives 5 otherwise
    (over p a || over p b) gives 6 otherwise
    (unended a || unended b) gives 7 otherwise 0

unfoldable pub plain_number : ℕ → List ℕ → List ℕ → ℕ
plain_number p a b =
    row_number p a b then
    ltb 6 (declared a + declared b) gives 17 otherwise 0

unfoldable pub division_number : ℕ → List ℕ → List ℕ → ℕ
division_number p row b =
    outside p gives 2 otherwise
    composite p gives 3 otherwise
    (too_long row || too_long b) gives 4 otherwise
    (over p row || over p b) gives 6 otherwise
    unended b gives 15 otherwise 0

unfoldable pub among : ℕ → List ℕ → Bool
among a [] = false
among a (x ∷ s) = eqb a x || among a s

unfoldable pub point_number : Pair → List ℕ → ℕ → ℕ
point_number P points a =
    leb P.p a gives 10 otherwise
    among a points gives 12 otherwise
    not (usable P a) gives 11 otherwise 0

unfoldable pub lot_number : ℕ → ℕ → ℕ
lot_number points answers = ltb answers points gives 9 otherwise 0

unfoldable pub read_number : Pair → ℕ → ℕ → ℕ
read_number P points entries =
    ltb points (needed P) gives 14 otherwise
    ltb entries (room P) gives 9 otherwise 0
