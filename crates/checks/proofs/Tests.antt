-- What the code of the tests answers, in the terms of their definitions.
--
--   over-any            an entry is p or more where a test of each finds one
--   lead_end            where the leading row of a table ends
--   leading             a test that says whether its entries are all zero says whether there is no lead
--   last-unended        a test of the last entry, where there is one, says whether a row is unended
--   degrees_length      of rows that are not refused, m + n > 6 where they have more than 8 entries together
--   prime_test          a test that says true of exactly the primes is prime?
--   modulus_tested      what is made of exactly the primes from 2 on is refused as a modulus in range is
use Prim.Native.Nat.{ℕ, ◌+◌, ◌*◌, ◌-◌, ◌≤◌, ◌<◌}
use native.Mathlib.Nat.{add-mul, one-mul}
use native.Mathlib.Omega.{arith}
use native.Mathlib.Decide.{dec_lt}
use mathlib.Core.Bool.{Bool, true, false, cond, not, ◌||◌}
use mathlib.Core.List.{List, [], ◌∷◌}
use Rattle.std.specs.Prelude.{Option, Some, None, MatchOption, slice_get}
use Rattle.std.specs.Option.{option_copied, ok_or, is_some, IsSome}
use denote.Ref.{Bor}
use Rattle.std.specs.List.{list_any, AllWithin, HoldsAt}
use Rattle.std.specs.Bool.{MatchBool}
use Rattle.std.proofs.lemmas.Option.{slice_get-get_or}
use Rattle.std.proofs.lemmas.List.{get_or-drop, take_rest}
use Rattle.std.proofs.Common.{◌≢◌, length-drop, ltb-false}
use mathlib.Core.Logic.{◌↔◌}
use mathlib.Core.Path.{◌≡◌, refl, sym, ap, ◌∙◌}
use borrow.Author.Tests.{lt-ltb, le-ltb, le-leb, eq-eqb, ne_eqb}
use lib.Dec.{eqb, ltb, leb}
use lib.ListN.{length, take, get_or, drop}
use Rattle.residue.specs.Prime.{limit, Prime, prime?}
use Rattle.residue.specs.PrimeLaws.{prime?-right, prime?_all}
use Rattle.euclid.specs.Row.{declared}
use Rattle.euclid.specs.RowLaws.{declared-length}
use Rattle.scope.specs.Pair.{size, place, term, some}
use Rattle.scope.specs.Number.{◌gives◌otherwise◌, outside, over, no_lead, unended, composite, row_number}
use Rattle.scope.specs.Search.{or_false, none-some, one-some}
use Rattle.checks.specs.declared.Refusal.TheVariants.{Composite}
use Rattle.checks.specs.Outcome.{outcome}
use Rattle.checks.specs.Refusal.{gives_true, gives_false}
use Rattle.checks.specs.Parts.{modulus_number}
use Rattle.checks.specs.Facts.{row-facts}

pub over-any : (p : ℕ) (t : List ℕ) → over p t ≡ list_any (λ x. leb p x) t
unfolding over
over-any p [] = refl
over-any p (x ∷ t) = ap (λ (b : Bool). leb p x || b) (over-any p t)

pub lead_end : (m e : ℕ) → size m e ≡ m * (e + 1) + (e + 1)
unfolding size
lead_end m e = add-mul m 1 (e + 1) ∙ ap (λ (k : ℕ). m * (e + 1) + k) (one-mul (e + 1))

-- whether the coefficient of x^m y^j occurs, by the entry at its place
occurs_at : (m e : ℕ) (t : List ℕ) (j : ℕ) → j < e + 1 → {b : Bool} → eqb (get_or t (m * (e + 1) + j) 0) 0 ≡ b → not (eqb (term e t m j) 0) ≡ not b
unfolding term place
occurs_at m e t j h q = ap (λ (l : Bool). not (eqb (cond l (get_or t (m * (e + 1) + j) 0) 0) 0)) (le-leb j e (omega arith)) ∙ ap not q

pub leading : (m e : ℕ) (t : List ℕ) → length t ≡ size m e → (r : Bool) (row : List ℕ)
    → row ≡ take (length t - m * (e + 1)) (drop (m * (e + 1)) t)
    → MatchBool r (AllWithin (λ x. x ≡ 0) row 0 (length row)) ((k : ℕ) × (k < length row) × HoldsAt (λ x. x ≢ 0) row k) → r ≡ no_lead m e t
unfolding no_lead
leading m e t l r row q h = by_answer r h
  where
    start : ℕ
    start = m * (e + 1)

    rest : row ≡ drop start t
    rest = q ∙ take_rest t start

    whole : length row ≡ e + 1
    whole = ap length rest ∙ omega (arith, lead_end m e, length-drop start t)

    at : (j : ℕ) → get_or row j 0 ≡ get_or t (start + j) 0
    at j = ap (λ (s : List ℕ). get_or s j 0) rest ∙ get_or-drop start t j 0

    occurs : ℕ → Bool
    occurs j = not (eqb (term e t m j) 0)

    by_answer : (r : Bool) → MatchBool r (AllWithin (λ x. x ≡ 0) row 0 (length row)) ((k : ℕ) × (k < length row) × HoldsAt (λ x. x ≢ 0) row k) → r ≡ not (some (e + 1) occurs)
    by_answer true all =
        let zero : (j : ℕ) → j < e + 1 → occurs j ≡ false = λ j h. occurs_at m e t j h (eq-eqb _ 0 (sym (at j) ∙ all j 0 (omega arith) (omega (arith, whole)))) in
        ap not (sym (none-some (e + 1) occurs zero))
    by_answer false (k, h, other) =
        let below : k < e + 1 = omega (arith, whole) in
        let found : occurs k ≡ true = occurs_at m e t k below (ne_eqb _ 0 (λ z. other 0 (at k ∙ z))) in
        ap not (sym (one-some (e + 1) occurs k below found))

pub last-unended : (r : List ℕ) (o : Option (Bor ℕ)) → option_copied o ≡ slice_get r (length r - 1) → (b : Bool) →
    MatchOption o (b ≡ true) (λ x. b ≡ eqb x.now 0) → b ≡ unended r
unfolding unended
last-unended [] None e b h = h
last-unended [] (Some x) e b h = cc
last-unended (y ∷ r) None e b h = let last = slice_get-get_or (y ∷ r) (length (y ∷ r) - 1) 0 (omega arith) in cc
last-unended (y ∷ r) (Some x) e b h =
    let last = slice_get-get_or (y ∷ r) (length (y ∷ r) - 1) 0 (omega arith) in
    let same : length (y ∷ r) - 1 ≡ declared (y ∷ r) = omega (arith, declared-length (y ∷ r) (omega arith)) in
    let here : x.now ≡ get_or (y ∷ r) (length (y ∷ r) - 1) 0 = cc in
    h ∙ ap (λ (k : ℕ). eqb k 0) (here ∙ ap (λ (k : ℕ). get_or (y ∷ r) k 0) same)

pub degrees_length : (p : ℕ) (a b : List ℕ) → row_number p a b ≡ 0 → ltb 6 (declared a + declared b) ≡ ltb 8 (length a + length b)
degrees_length p a b h = by-size (dec_lt 6 (declared a + declared b))
  where
    whole : length a + length b ≡ declared a + declared b + 2
    whole = omega (arith, declared-length a (row-facts p a b h).ended_a.0, declared-length b (row-facts p a b h).ended_b.0)

    by-size : Dec (6 < declared a + declared b) → ltb 6 (declared a + declared b) ≡ ltb 8 (length a + length b)
    by-size (yes l) = lt-ltb 6 _ l ∙ sym (lt-ltb 8 (length a + length b) (omega (arith, whole)))
    by-size (no l) = le-ltb 6 (declared a + declared b) (omega arith) ∙ sym (le-ltb 8 (length a + length b) (omega (arith, whole)))

pub prime_test : (p : ℕ) (t : Bool) → (t ≡ true) ↔ Prime p → not t ≡ composite p
unfolding composite
prime_test p true h = ap not (sym (prime?_all p (h.0 refl)))
prime_test p false h = by_test (prime? p) refl
  where
    by_test : (b : Bool) → prime? p ≡ b → true ≡ not (prime? p)
    by_test true q = ap not (h.1 (prime?-right p q)) ∙ ap not (sym q)
    by_test false q = ap not (sym q)

pub modulus_tested : {A : Type 0} (p : ℕ) (o : Option A) → outside p ≡ false → IsSome o ↔ ((2 ≤ p) × Prime p) → outcome (ok_or o Composite) ≡ modulus_number p
unfolding outside modulus_number
modulus_tested {A} p o range h = by_case o (prime_test p (is_some o) ((λ s. (h.0 s).1), (λ q. h.1 (two, q))))
  where
    two : 2 ≤ p
    two = ltb-false p 2 (or_false (ltb p 2) (leb limit p) range).0

    by_case : (o : Option A) → not (is_some o) ≡ composite p → outcome (ok_or o Composite) ≡ (outside p gives 2 otherwise composite p gives 3 otherwise 0)
    by_case None e = sym (gives_false 2 _ range ∙ gives_true 3 0 (sym e))
    by_case (Some x) e = sym (gives_false 2 _ range ∙ gives_false 3 0 (sym e))
