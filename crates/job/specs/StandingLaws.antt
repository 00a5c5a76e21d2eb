-- What stands of a sound record, and what every offer and every lot keeps.
--
--   needed_low              degrees in x of at most 16 need at most 513 points
--   needed_fits             so a sound record has room for the points needed
--   count_fits              and for those kept
--   kept-length, kept_get_d  the kept points as a list
--   standing_different      the kept points are different numbers below p
--   offer-kept, kept_offer  an offer answers 0 exactly for a good point while fewer than needed are kept
--   offered-kept            then the point is stored; offered_else: after any other answer the job is as it was
--   stored_standing         a record that stands still stands when a kept point is stored
--   offered_standing        and after any offer; lotted_standing: after any lot
--   stored_pair             storing a point leaves the pair as it is; offered_pair, lotted_pair: so do an offer and a lot
--   lotted-append           it does not matter how offers are grouped into lots; lot_answers-append: nor for the answers
use Rattle.std.specs.Prelude.{ℕ, ◌+◌, ◌≤◌, ◌<◌, Bool, List, [], ◌∷◌, ◌++◌, ◌≢◌, ltb, length, set}
use Rattle.std.proofs.Common.{mul-le-mul, arith, sym, ◌∙◌, subst, length-take-le, get_or-take, get_or-set_same, get_or-set_other}
use Rattle.std.proofs.Math.Decide.{ℕ_discrete}
use Rattle.std.proofs.Math.Bool.{true, false, cond}
use Rattle.std.proofs.Math.Path.{◌≡◌, refl, ap}
use Rattle.std.proofs.Math.ListN.{get_or, length-set}
use borrow.Author.Tests.{ltb-true, lt-ltb, eq-eqb, ne_eqb}
use Rattle.scope.specs.Pair.{bound, degree_a, degree_b}
use Rattle.scope.specs.Point.{kept, needed, usable}
use Rattle.scope.specs.Number.{among, point_number}
use Rattle.scope.specs.Search.{largest-bound}
use Rattle.scope.specs.Recovery.{Different}
use Rattle.job.specs.declared.Job.{Job}
use Rattle.job.specs.Job.{pair_of, kept_points, stored}
use Rattle.job.specs.Calls.{agrees, offer_number, offered, lot_answers, lotted}
use Rattle.job.specs.Standing.{Standing}
use Rattle.scope.specs.TestLaws.{then-zero, among_false, point_number-zero}

pub needed_low : (j : Job) → j.m ≤ 16 → j.n ≤ 16 → needed (pair_of j) ≤ 513
unfolding needed bound degree_a degree_b pair_of
needed_low j low_m low_n =
    omega (
      arith,
      mul-le-mul {n₁ = j.n} {m₁ = degree_a (pair_of j)} {n₂ = 16} {m₂ = 16} low_n (largest-bound 16 _),
      mul-le-mul {n₁ = j.m} {m₁ = degree_b (pair_of j)} {n₂ = 16} {m₂ = 16} low_m (largest-bound 16 _),
    )

pub needed_fits : (j : Job) → Standing j → needed (pair_of j) ≤ 513
needed_fits j s = needed_low j s.low_m s.low_n

pub count_fits : (j : Job) → Standing j → j.count ≤ 513
count_fits j s = omega (arith, s.few, needed_fits j s)

-- the kept points as a list
pub kept-length : (j : Job) → j.count ≤ length j.points → length (kept_points j) ≡ j.count
unfolding kept_points
kept-length j h = length-take-le j.count j.points h

pub kept_get_d : (j : Job) (i : ℕ) → i < j.count → get_or (kept_points j) i 0 ≡ get_or j.points i 0
unfolding kept_points
kept_get_d j i l = get_or-take j.count j.points i 0 l

pub standing_different : (j : Job) → Standing j → Different j.p j.count (λ i. get_or j.points i 0)
standing_different j s = record { below = s.point-below; apart = s.point_apart }

module _ (j : Job) (a : ℕ) where
  pub offer-kept : offer_number j a ≡ 0 → (point_number (pair_of j) (kept_points j) a ≡ 0) × (j.count < needed (pair_of j))
  unfolding offer_number
  offer-kept h =
      let (point, rest) = (then-zero (point_number (pair_of j) (kept_points j) a) _).0 h in
      (point, ltb-true j.count (needed (pair_of j)) (low (ltb j.count (needed (pair_of j))) (agrees j a) rest))
    where
      -- a surplus point answers 1 or 13
      low : (t u : Bool) → ◌≡◌ {A = ℕ} (cond t 0 (cond u 1 13)) 0 → t ≡ true
      low true u e = refl
      low false true e = absurd (omega arith)
      low false false e = absurd (omega arith)

  pub kept_offer : point_number (pair_of j) (kept_points j) a ≡ 0 → j.count < needed (pair_of j) → offer_number j a ≡ 0
  unfolding offer_number
  kept_offer point few =
      (then-zero (point_number (pair_of j) (kept_points j) a) _).1
      (point, ap (λ (t : Bool). cond t 0 (cond (agrees j a) 1 13)) (lt-ltb j.count (needed (pair_of j)) few))

  pub offered-kept : offer_number j a ≡ 0 → offered j a ≡ stored j a
  unfolding offered
  offered-kept h = ap (λ (t : Bool). cond t (stored j a) j) (eq-eqb (offer_number j a) 0 h)

  pub offered_else : offer_number j a ≢ 0 → offered j a ≡ j
  unfolding offered
  offered_else h = ap (λ (t : Bool). cond t (stored j a) j) (ne_eqb (offer_number j a) 0 h)

  pub stored_pair : pair_of (stored j a) ≡ pair_of j
  unfolding pair_of stored
  stored_pair = refl

-- the entries up to and with the one that was set
set-upto : (l : List ℕ) (c x : ℕ) (Q : ℕ → ℕ → Type 0) → c < length l → Q c x → ((i : ℕ) → i < c → Q i (get_or l i 0))
    → (i : ℕ) → i < c + 1 → Q i (get_or (set l c x) i 0)
set-upto l c x Q long here before i h =
    elim (ℕ_discrete i c) [
      | yes q ↦ rw (q, get_or-set_same l c x 0 long) here
      | no q ↦ rw (get_or-set_other l c i x 0 q) (before i (omega arith))
    ]

-- the entries after it
set_after : (l : List ℕ) (c x : ℕ) → ((i : ℕ) → c ≤ i → get_or l i 0 ≡ 0) → (i : ℕ) → c + 1 ≤ i → get_or (set l c x) i 0 ≡ 0
set_after l c x h i b = get_or-set_other l c i x 0 (λ (q : i ≡ c). omega arith) ∙ h i (omega arith)

module _ (j : Job) (a : ℕ) (s : Standing j) (h : offer_number j a ≡ 0) where
  few : j.count < needed (pair_of j)
  few = (offer-kept j a h).1

  room_points : j.count < length j.points
  room_points = omega (arith, few, needed_fits j s, s.length_points)

  room_values : j.count < length j.values
  room_values = omega (arith, few, needed_fits j s, s.length_values)

  fits : (a < (pair_of j).p) × (among a (kept_points j) ≡ false) × (usable (pair_of j) a ≡ true)
  fits = (point_number-zero (pair_of j) (kept_points j) a).0 (offer-kept j a h).0

  -- a point before the one that is stored stays
  before : (i : ℕ) → i < j.count → get_or (set j.points j.count a) i 0 ≡ get_or j.points i 0
  before i l = get_or-set_other j.points j.count i a 0 (λ (q : i ≡ j.count). omega arith)

  fresh : (i : ℕ) → i < j.count → get_or j.points i 0 ≢ a
  fresh i l q =
      (among_false a (kept_points j)).0 fits.1 i (rw (kept-length j (omega (arith, room_points))) l) (sym q ∙ sym (kept_get_d j i l))

  pub stored_standing : Standing (stored j a)
  unfolding stored pair_of
  stored_standing = record {
    length_of_a = s.length_of_a;
    length_of_b = s.length_of_b;
    length_points = length-set j.points j.count a ∙ s.length_points;
    length_values = length-set j.values j.count (kept (pair_of j) a) ∙ s.length_values;
    modulus = s.modulus;
    low_m = s.low_m;
    low_n = s.low_n;
    below_of_a = s.below_of_a;
    below_of_b = s.below_of_b;
    outside_a = s.outside_a;
    outside_b = s.outside_b;
    lead_of_a = s.lead_of_a;
    lead_of_b = s.lead_of_b;
    real_a = s.real_a;
    real_b = s.real_b;
    plenty = s.plenty;
    few = omega (arith, few);
    point-below = set-upto j.points j.count a (λ i x. x < j.p) room_points fits.0 s.point-below;
    point-usable = set-upto j.points j.count a (λ i x. usable (pair_of j) x ≡ true) room_points fits.2 s.point-usable;
    point_apart = λ i k below last.
        set-upto j.points j.count a (λ k x. i < k → get_or (set j.points j.count a) i 0 ≢ x) room_points
        (λ l q. fresh i l (sym (before i l) ∙ q))
        (λ k lk l q. s.point_apart i k l lk (sym (before i (omega arith)) ∙ q)) k last below;
    value-kept =
        set-upto j.values j.count (kept (pair_of j) a) (λ i x. x ≡ kept (pair_of j) (get_or (set j.points j.count a) i 0)) room_values
        (ap (kept (pair_of j)) (sym (get_or-set_same j.points j.count a 0 room_points)))
        (λ i l. s.value-kept i l ∙ ap (kept (pair_of j)) (sym (before i l)));
    point-rest = set_after j.points j.count a s.point-rest;
    value-rest = set_after j.values j.count (kept (pair_of j) a) s.value-rest;
  }

-- what holds of a job and of the job with a point stored holds after an offer
offered_by : (j : Job) (a : ℕ) (Q : Job → Type 0) → Q j → (offer_number j a ≡ 0 → Q (stored j a)) → Q (offered j a)
offered_by j a Q same new =
    elim (ℕ_discrete (offer_number j a) 0) [
      | yes e ↦ subst Q (sym (offered-kept j a e)) (new e)
      | no e ↦ subst Q (sym (offered_else j a e)) same
    ]

pub offered_standing : (j : Job) → Standing j → (a : ℕ) → Standing (offered j a)
offered_standing j s a = offered_by j a Standing s (stored_standing j a s)

pub lotted_standing : (j : Job) → Standing j → (xs : List ℕ) → Standing (lotted j xs)
unfolding lotted
lotted_standing j s [] = s
lotted_standing j s (a ∷ xs) = lotted_standing (offered j a) (offered_standing j s a) xs

pub offered_pair : (j : Job) (a : ℕ) → pair_of (offered j a) ≡ pair_of j
offered_pair j a = offered_by j a (λ k. pair_of k ≡ pair_of j) refl (λ _. stored_pair j a)

pub lotted_pair : (j : Job) (xs : List ℕ) → pair_of (lotted j xs) ≡ pair_of j
unfolding lotted
lotted_pair j [] = refl
lotted_pair j (a ∷ xs) = lotted_pair (offered j a) xs ∙ offered_pair j a

pub lotted-append : (j : Job) (xs ys : List ℕ) → lotted j (xs ++ ys) ≡ lotted (lotted j xs) ys
unfolding lotted
lotted-append j [] ys = refl
lotted-append j (a ∷ xs) ys = lotted-append (offered j a) xs ys

pub lot_answers-append : (j : Job) (xs ys : List ℕ) → lot_answers j (xs ++ ys) ≡ lot_answers j xs ++ lot_answers (lotted j xs) ys
unfolding lotted lot_answers
lot_answers-append j [] ys = refl
lot_answers-append j (a ∷ xs) ys = ap (λ (r : List ℕ). offer_number j a ∷ r) (lot_answers-append (offered j a) xs ys)
