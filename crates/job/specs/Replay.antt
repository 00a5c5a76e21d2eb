-- The opening and the offers that leave a given record, of which only what a sound record holds is known.
--
--   upto i l               the first i entries of l, then zeros
--   early j i              the record j as it was with its first i points kept
--   early-offered          offering the next kept point to it gives the record with one point more
--   early-lotted           so offering the first i points to the record without points gives the one with i
--   early_all              with all points it is the record itself
--   front m a              the table that an opening with degree 16 in y reads the coefficients from
--   front_accepted         that opening is accepted
--   front-opened           and gives the record without points
use Prim.Native.Nat.{ℕ, zero, suc, ◌+◌, ◌*◌, ◌/◌, ◌%◌, ◌≤◌, ◌<◌}
use Rattle.std.proofs.Math.Numerals.{add-one}
use native.Mathlib.Omega.{arith}
use Rattle.std.proofs.Math.Decide.{dec_le}
use Rattle.std.specs.Prelude.{false, ◌≡◌, ◌≢◌, leb, take}
use Rattle.std.proofs.Math.Bool.{cond}
use mathlib.Core.List.{List, [], ◌∷◌}
use Rattle.std.proofs.Math.Path.{refl, sym, ap}
use Rattle.std.proofs.Common.{ap₂, ◌∙◌, take-suc}
use Rattle.std.proofs.Math.ListN.{length, get_or, set, replicate, get_or-eq_default}
use Rattle.std.proofs.Math.Seq.{length-take-le, get_or-take, ext_get_or}
use Rattle.scope.specs.Pair.{place, size, term, tables}
use Rattle.scope.specs.Point.{kept}
use Rattle.scope.specs.Number.{open_number, among}
use Rattle.job.specs.declared.Job.{Job}
use Rattle.job.specs.Job.{pair_of, spread, opened, kept_points, stored}
use Rattle.job.specs.Calls.{offer_number, offered, lotted}
use Rattle.job.specs.Standing.{Standing}
use Rattle.job.specs.SamePair.{SamePair, same-degree_a, same-degree_b, same-enough}
use Rattle.scope.specs.TestLaws.{among_false, point_number-zero}
use Rattle.scope.specs.TableLaws.{term_inside, no_lead-same}
use Rattle.job.specs.OpenLaws.{accepting, spread-length, spread-get_or, tables-same}
use Rattle.job.specs.StandingLaws.{count_fits, kept_offer, offered-kept, lotted-append}

abbrev upto : ℕ → List ℕ → List ℕ
upto i [] = []
upto zero (x ∷ l) = 0 ∷ upto zero l
upto (suc i) (x ∷ l) = x ∷ upto i l

upto-set : (i : ℕ) (l : List ℕ) → set (upto i l) i (get_or l i 0) ≡ upto (suc i) l
upto-set i [] = refl
upto-set zero (x ∷ l) = refl
upto-set (suc i) (x ∷ l) = ap (λ (r : List ℕ). x ∷ r) (upto-set i l)

upto_take : (i : ℕ) (l : List ℕ) → take i (upto i l) ≡ take i l
upto_take zero l = refl
upto_take (suc i) [] = refl
upto_take (suc i) (x ∷ l) = ap (λ (r : List ℕ). x ∷ r) (upto_take i l)

upto_none : (l : List ℕ) → upto zero l ≡ replicate (length l) 0
upto_none [] = refl
upto_none (x ∷ l) = ap (λ (r : List ℕ). 0 ∷ r) (upto_none l)

upto_all : (i : ℕ) (l : List ℕ) → ((k : ℕ) → i ≤ k → get_or l k 0 ≡ 0) → upto i l ≡ l
upto_all i [] h = refl
upto_all zero (x ∷ l) h = ap₂ (λ (y : ℕ) (r : List ℕ). y ∷ r) (sym (h zero (omega arith))) (upto_all zero l (λ k _. h (suc k) (omega arith)))
upto_all (suc i) (x ∷ l) h = ap (λ (r : List ℕ). x ∷ r) (upto_all i l (λ k b. h (suc k) (omega arith)))

unfoldable early : Job → ℕ → Job
early j i = record {
  p = j.p;
  m = j.m;
  n = j.n;
  da = j.da;
  db = j.db;
  count = i;
  a = j.a;
  b = j.b;
  points = upto i j.points;
  values = upto i j.values;
}

module _ (j : Job) (s : Standing j) where
  -- the next kept point is one that the record with i points keeps
  early_number : (i : ℕ) → i < j.count → offer_number (early j i) (get_or j.points i 0) ≡ 0
  unfolding early kept_points pair_of
  early_number i l =
      kept_offer (early j i) x
      ((point_number-zero (pair_of j) (kept_points (early j i)) x).1 (s.point-below i l, fresh, s.point-usable i l))
      (omega (arith, s.few))
    where
      x : ℕ
      x = get_or j.points i 0

      long : i ≤ length j.points
      long = omega (arith, count_fits j s, s.length_points)

      fresh : among x (kept_points (early j i)) ≡ false
      fresh =
          ap (among x) (upto_take i j.points)
          ∙ (among_false x (take i j.points)).1
          (λ k h e. apart k (omega (arith, length-take-le i j.points long)) e)
        where
          apart : (k : ℕ) → k < i → x ≢ get_or (take i j.points) k 0
          apart k h e = s.point_apart k i h l (sym (e ∙ get_or-take i j.points k 0 h))

  early-stored : (i : ℕ) → i < j.count → stored (early j i) (get_or j.points i 0) ≡ early j (suc i)
  unfolding early stored pair_of
  early-stored i l = λ k. record {
    p = j.p;
    m = j.m;
    n = j.n;
    da = j.da;
    db = j.db;
    count = add-one i k;
    a = j.a;
    b = j.b;
    points = upto-set i j.points k;
    values = value k;
  }
    where
      value : set (upto i j.values) i (kept (pair_of j) (get_or j.points i 0)) ≡ upto (suc i) j.values
      value = ap (λ (v : ℕ). set (upto i j.values) i v) (sym (s.value-kept i l)) ∙ upto-set i j.values

  early-offered : (i : ℕ) → i < j.count → offered (early j i) (get_or j.points i 0) ≡ early j (suc i)
  early-offered i l = offered-kept (early j i) (get_or j.points i 0) (early_number i l) ∙ early-stored i l

  early-lotted : (i : ℕ) → i ≤ j.count → lotted (early j 0) (take i j.points) ≡ early j i
  unfolding lotted
  early-lotted zero h = refl
  early-lotted (suc i) h =
      ap (lotted (early j 0)) (take-suc j.points i 0 (omega (arith, count_fits j s, s.length_points)))
      ∙ lotted-append (early j 0) (take i j.points) (get_or j.points i 0 ∷ [])
      ∙ ap (λ (k : Job). offered k (get_or j.points i 0)) (early-lotted i (omega arith))
      ∙ early-offered i h

  early_all : early j j.count ≡ j
  unfolding early
  early_all = λ k. record {
    p = j.p;
    m = j.m;
    n = j.n;
    da = j.da;
    db = j.db;
    count = j.count;
    a = j.a;
    b = j.b;
    points = upto_all j.count j.points s.point-rest k;
    values = upto_all j.count j.values s.value-rest k;
  }

abbrev pub front : ℕ → List ℕ → List ℕ
front m a = take ((m + 1) * 17) a

-- one side of the opening
module _ (m : ℕ) (a : List ℕ) (low : m ≤ 16) (len : length a ≡ 289) (outside : (k : ℕ) → (m + 1) * 17 ≤ k → get_or a k 0 ≡ 0) where
  front_length : length (front m a) ≡ size m 16
  unfolding size
  front_length = length-take-le ((m + 1) * 17) a (omega arith)

  front-get_or : (k : ℕ) → get_or (front m a) k 0 ≡ get_or a k 0
  unfolding size
  front-get_or k =
      elim (dec_le ((m + 1) * 17) k) [
        | yes l ↦ get_or-eq_default (front m a) 0 (omega (arith, front_length)) ∙ sym (outside k l)
        | no l ↦ get_or-take ((m + 1) * 17) a k 0 (omega arith)
      ]

  front-term : (i j : ℕ) → term 16 (front m a) i j ≡ term 16 a i j
  unfolding term
  front-term i j = ap (λ (x : ℕ). cond (leb j 16) x 0) (front-get_or (place 16 i j))

  front-spread : spread 16 (front m a) ≡ a
  unfolding place
  front-spread = ext_get_or 0 (spread 16 (front m a)) a (spread-length 16 (front m a) ∙ sym len) (λ k _. entry k)
    where
      again : (k : ℕ) → k / 17 * 17 + k % 17 ≡ k
      again k = omega arith

      entry : (k : ℕ) → get_or (spread 16 (front m a)) k 0 ≡ get_or a k 0
      entry k =
          spread-get_or m 16 (front m a) low (omega arith) front_length k
          ∙ term_inside 16 (front m a) (k / 17) (k % 17) (omega arith)
          ∙ ap (λ (i : ℕ). get_or (front m a) i 0) (again k)
          ∙ front-get_or k

module _ (j : Job) (s : Standing j) where
  front_same : SamePair (tables j.p j.m 16 j.n 16 (front j.m j.a) (front j.n j.b)) (pair_of j)
  unfolding tables pair_of
  front_same =
      tables-same j.p j.m j.n 16 16 16 16 (front j.m j.a) j.a (front j.n j.b) j.b
      (front-term j.m j.a s.low_m s.length_of_a s.outside_a) (front-term j.n j.b s.low_n s.length_of_b s.outside_b)

  pub front_accepted : open_number j.p j.m 16 j.n 16 (front j.m j.a) (front j.n j.b) ≡ 0
  front_accepted = accepting j.p j.m 16 j.n 16 (front j.m j.a) (front j.n j.b) (record {
    modulus = s.modulus;
    low_m = s.low_m;
    low_e = omega arith;
    low_n = s.low_n;
    low_f = omega arith;
    length_s = front_length j.m j.a s.low_m s.length_of_a s.outside_a;
    length_t = front_length j.n j.b s.low_n s.length_of_b s.outside_b;
    below_s = λ k. rw (front-get_or j.m j.a s.low_m s.length_of_a s.outside_a k) (s.below_of_a k);
    below_t = λ k. rw (front-get_or j.n j.b s.low_n s.length_of_b s.outside_b k) (s.below_of_b k);
    lead_s = no_lead-same j.m 16 16 j.a (front j.m j.a)
        (λ i. sym (front-term j.m j.a s.low_m s.length_of_a s.outside_a j.m i)) s.lead_of_a;
    lead_t = no_lead-same j.n 16 16 j.b (front j.n j.b)
        (λ i. sym (front-term j.n j.b s.low_n s.length_of_b s.outside_b j.n i)) s.lead_of_b;
    plenty = same-enough _ _ front_same ∙ s.plenty;
  })

  front-opened : opened j.p j.m 16 j.n 16 (front j.m j.a) (front j.n j.b) ≡ early j 0
  unfolding opened early
  front-opened = λ k. record {
    p = j.p;
    m = j.m;
    n = j.n;
    da = (same-degree_a _ _ front_same ∙ sym s.real_a) k;
    db = (same-degree_b _ _ front_same ∙ sym s.real_b) k;
    count = 0;
    a = front-spread j.m j.a s.low_m s.length_of_a s.outside_a k;
    b = front-spread j.n j.b s.low_n s.length_of_b s.outside_b k;
    points = empty j.points s.length_points k;
    values = empty j.values s.length_values k;
  }
    where
      empty : (l : List ℕ) → length l ≡ 513 → replicate 513 0 ≡ upto zero l
      empty l e = sym (upto_none l ∙ ap (λ (n : ℕ). replicate n 0) e)

  -- the record is what that opening and the kept points in order leave
  pub replayed : lotted (opened j.p j.m 16 j.n 16 (front j.m j.a) (front j.n j.b)) (kept_points j) ≡ j
  unfolding kept_points
  replayed =
      ap (λ (k : Job). lotted k (take j.count j.points)) front-opened ∙ early-lotted j s j.count (omega arith) ∙ early_all j s
