-- What the parts of the test of a record say, as facts.
--
--   conj bs              every test of the list holds: the tests joined by `◌&&◌`
--   conj-each            then each of them is true
--   Every bs             evidence of each test in turn; every-conj: so they hold together
--   zeros-from           the entries from n on are all 0
--   same_true            two lists are equal
--   Good P before xs     the points xs are below p, usable, not among those before, and different
--   good_true            the test of the kept points says this
use Rattle.std.specs.Prelude.{ℕ, zero, suc, ◌+◌, ◌-◌, ◌≤◌, ◌<◌, Bool, true, false, ◌&&◌, List, [], ◌∷◌, ◌≡◌, refl, ◌↔◌, ◌≢◌, eqb, get_or, drop}
use Rattle.std.proofs.Common.{arith, sym, ap, ap₂, ◌∙◌, subst, get_or-drop, eqb-true, eq-eqb, ne_eqb}
use Rattle.std.proofs.Math.Bool.{and-eq-true_iff}
use Rattle.std.proofs.lemmas.Bool.{false≢true, eqb-false}
use Rattle.std.proofs.Math.ListN.{length}
use Rattle.scope.specs.Pair.{Pair}
use Rattle.scope.specs.Point.{usable}
use Rattle.scope.specs.Number.{among, point_number}
use Rattle.scope.specs.Search.{or_false}
use Rattle.job.specs.Sound.{zeros, same, good}
use Rattle.scope.specs.TestLaws.{both_false, point_number-zero}

infixr 20 ◌also◌
pub both_true : (a b : Bool) → a ≡ true → b ≡ true → (a && b) ≡ true
both_true a b ea eb = (and-eq-true_iff a b).1 (ea, eb)

-- tests joined from the left, as `◌&&◌` joins them
abbrev joined : Bool → List Bool → Bool
joined b [] = b
joined b (c ∷ bs) = joined (b && c) bs

abbrev pub conj : List Bool → Bool
conj [] = true
conj (b ∷ bs) = joined b bs

pub data Every : List Bool → Type 0 where
  done : Every []
  ◌also◌ : {b : Bool} {bs : List Bool} → b ≡ true → Every bs → Every (b ∷ bs)

joined-each : (b : Bool) (bs : List Bool) → joined b bs ≡ true → (k : ℕ) → get_or (b ∷ bs) k true ≡ true
joined-each b [] h zero = h
joined-each b [] h (suc k) = refl
joined-each b (c ∷ bs) h zero = ((and-eq-true_iff b c).0 (joined-each (b && c) bs h zero)).0
joined-each b (c ∷ bs) h (suc zero) = ((and-eq-true_iff b c).0 (joined-each (b && c) bs h zero)).1
joined-each b (c ∷ bs) h (suc (suc k)) = joined-each (b && c) bs h (suc k)

pub conj-each : (bs : List Bool) → conj bs ≡ true → (k : ℕ) → get_or bs k true ≡ true
conj-each [] h k = refl
conj-each (b ∷ bs) h k = joined-each b bs h k

every-joined : (b : Bool) {bs : List Bool} → b ≡ true → Every bs → joined b bs ≡ true
every-joined b h done = h
every-joined b h (◌also◌ {b = c} x e) = every-joined (b && c) (both_true b c h x) e

pub every-conj : {bs : List Bool} → Every bs → conj bs ≡ true
every-conj done = refl
every-conj (◌also◌ {b = b} x e) = every-joined b x e

zeros-each : (r : List ℕ) → zeros r ≡ true → (k : ℕ) → get_or r k 0 ≡ 0
unfolding zeros
zeros-each [] h k = refl
zeros-each (x ∷ r) h zero = eqb-true x 0 ((and-eq-true_iff (eqb x 0) (zeros r)).0 h).0
zeros-each (x ∷ r) h (suc k) = zeros-each r ((and-eq-true_iff (eqb x 0) (zeros r)).0 h).1 k

each-zeros : (r : List ℕ) → ((k : ℕ) → get_or r k 0 ≡ 0) → zeros r ≡ true
unfolding zeros
each-zeros [] h = refl
each-zeros (x ∷ r) h = both_true (eqb x 0) (zeros r) (eq-eqb x 0 (h zero)) (each-zeros r (λ k. h (suc k)))

pub zeros-from : (n : ℕ) (r : List ℕ) → (zeros (drop n r) ≡ true) ↔ ((k : ℕ) → n ≤ k → get_or r k 0 ≡ 0)
zeros-from n r = (there, λ h. each-zeros (drop n r) (λ k. get_or-drop n r k 0 ∙ h (n + k) (omega arith)))
  where
    there : zeros (drop n r) ≡ true → (k : ℕ) → n ≤ k → get_or r k 0 ≡ 0
    there h k l = let split : n + (k - n) ≡ k = omega arith in
        ap (λ (i : ℕ). get_or r i 0) (sym split) ∙ sym (get_or-drop n r (k - n) 0) ∙ zeros-each (drop n r) h (k - n)

same_path : (s t : List ℕ) → same s t ≡ true → s ≡ t
unfolding same
same_path [] [] h = refl
same_path [] (y ∷ t) h = absurd (false≢true h)
same_path (x ∷ s) [] h = absurd (false≢true h)
same_path (x ∷ s) (y ∷ t) h =
    let (e, r) = (and-eq-true_iff (eqb x y) (same s t)).0 h in
    ap₂ (λ (u : ℕ) (v : List ℕ). u ∷ v) (eqb-true x y e) (same_path s t r)

same_refl : (s : List ℕ) → same s s ≡ true
unfolding same
same_refl [] = refl
same_refl (x ∷ s) = both_true (eqb x x) (same s s) (eq-eqb x x refl) (same_refl s)

pub same_true : (s t : List ℕ) → (same s t ≡ true) ↔ (s ≡ t)
same_true s t = (same_path s t, λ e. subst (λ (u : List ℕ). same s u ≡ true) e (same_refl s))

pub record Good (P : Pair) (before xs : List ℕ) : Type 0 where
  pub below : (i : ℕ) → i < length xs → get_or xs i 0 < P.p
  pub new : (i : ℕ) → i < length xs → among (get_or xs i 0) before ≡ false
  pub usable : (i : ℕ) → i < length xs → usable P (get_or xs i 0) ≡ true
  pub apart : (i k : ℕ) → i < k → k < length xs → get_or xs i 0 ≢ get_or xs k 0

-- a list of good points, taken apart at its first
module _ (P : Pair) (before : List ℕ) (x : ℕ) (xs : List ℕ) where
  good_push : (x < P.p) × (among x before ≡ false) × (usable P x ≡ true) → Good P (x ∷ before) xs → Good P before (x ∷ xs)
  unfolding among
  good_push f g = record { below = below; new = new; usable = fine; apart = apart }
    where
      later : (i : ℕ) → i < length xs → (eqb (get_or xs i 0) x ≡ false) × (among (get_or xs i 0) before ≡ false)
      later i l = or_false (eqb (get_or xs i 0) x) (among (get_or xs i 0) before) (g.new i l)

      below : (i : ℕ) → i < length (x ∷ xs) → get_or (x ∷ xs) i 0 < P.p
      below zero l = f.0
      below (suc i) l = g.below i (omega arith)

      new : (i : ℕ) → i < length (x ∷ xs) → among (get_or (x ∷ xs) i 0) before ≡ false
      new zero l = f.1
      new (suc i) l = (later i (omega arith)).1

      fine : (i : ℕ) → i < length (x ∷ xs) → usable P (get_or (x ∷ xs) i 0) ≡ true
      fine zero l = f.2
      fine (suc i) l = g.usable i (omega arith)

      apart : (i k : ℕ) → i < k → k < length (x ∷ xs) → get_or (x ∷ xs) i 0 ≢ get_or (x ∷ xs) k 0
      apart i zero h l = absurd (omega arith)
      apart zero (suc k) h l = λ e. eqb-false (get_or xs k 0) x (later k (omega arith)).0 (sym e)
      apart (suc i) (suc k) h l = g.apart i k (omega arith) (omega arith)

  good_pop : Good P before (x ∷ xs) → ((x < P.p) × (among x before ≡ false) × (usable P x ≡ true)) × Good P (x ∷ before) xs
  unfolding among
  good_pop g = (
    (g.below 0 (omega arith), g.new 0 (omega arith), g.usable 0 (omega arith)),
    record {
      below = λ i l. g.below (suc i) (omega arith);
      new = λ i l.
          both_false (eqb (get_or xs i 0) x) (among (get_or xs i 0) before)
          (ne_eqb (get_or xs i 0) x (λ e. g.apart 0 (suc i) (omega arith) (omega arith) (sym e))) (g.new (suc i) (omega arith));
      usable = λ i l. g.usable (suc i) (omega arith);
      apart = λ i k h l. g.apart (suc i) (suc k) (omega arith) (omega arith);
    },
  )

good-each : (P : Pair) (before xs : List ℕ) → good P before xs ≡ true → Good P before xs
unfolding good
good-each P before [] h = record {
  below = λ i l. absurd (omega arith);
  new = λ i l. absurd (omega arith);
  usable = λ i l. absurd (omega arith);
  apart = λ i k _ l. absurd (omega arith);
}
good-each P before (x ∷ xs) h =
    let (first, rest) = (and-eq-true_iff (eqb (point_number P before x) 0) (good P (x ∷ before) xs)).0 h in
    good_push P before x xs ((point_number-zero P before x).0 (eqb-true (point_number P before x) 0 first)) (good-each P (x ∷ before) xs rest)

each-good : (P : Pair) (before xs : List ℕ) → Good P before xs → good P before xs ≡ true
unfolding good
each-good P before [] g = refl
each-good P before (x ∷ xs) g =
    let (first, rest) = good_pop P before x xs g in
    both_true (eqb (point_number P before x) 0) (good P (x ∷ before) xs) (eq-eqb (point_number P before x) 0 ((point_number-zero P before x).1 first)) (each-good P (x ∷ before) xs rest)

pub good_true : (P : Pair) (before xs : List ℕ) → (good P before xs ≡ true) ↔ Good P before xs
good_true P before xs = (good-each P before xs, each-good P before xs)
