-- The test of a record says exactly that it is sound.
--
--   standing_test           the test holds exactly where the facts of a sound record stand
--   kept-good, kept_values  its kept points and values, as the test reads them
--   sound_standing          what an accepted opening and offers leave has these facts
--   standing_sound          and a record with these facts is left by some accepted opening and some offers
--   sound_test              so the test holds of the sound records and of no other
--   blank_unsound           the record that a refused opening hands back is not sound
use Rattle.std.specs.Prelude.{ℕ, zero, suc, ◌+◌, ◌*◌, ◌≤◌, ◌<◌, Bool, true, false, not, List, [], ◌∷◌, map, ◌≡◌, refl, ◌↔◌, leb, eqb, length, get_or, take, drop}
use Rattle.std.proofs.Common.{arith, sym, ap, ◌∙◌, subst, length-take-le, get_or-take, ext_get_or, leb-true, le-leb, eqb-true, eq-eqb}
use Rattle.std.proofs.lemmas.List.{length-map}
use Rattle.std.proofs.lemmas.Bool.{not-true}
use Rattle.residue.specs.Prime.{Modulus}
use Rattle.scope.specs.Pair.{degree_a, degree_b}
use Rattle.scope.specs.Point.{kept, needed, enough}
use Rattle.scope.specs.Number.{outside, composite, too_high, over, no_lead, among}
use Rattle.job.specs.declared.Job.{Job}
use Rattle.job.specs.Job.{pair_of, opened, blank, kept_points}
use Rattle.job.specs.Sound.{Sound, zeros, same, good, sound_pair, sound_points, shaped, sound?}
use Rattle.job.specs.Standing.{Standing}
use Rattle.scope.specs.TestLaws.{modulus_tests, too_high_false, over_false}
use Rattle.job.specs.OpenLaws.{opened_standing}
use Rattle.job.specs.StandingLaws.{needed_low, count_fits, kept-length, kept_get_d, lotted_standing}
use Rattle.job.specs.Replay.{front, front_accepted, replayed}
use Rattle.job.specs.SoundTests.{Every, done, ◌also◌, conj-each, every-conj, zeros-from, same_true, Good, good_true}

get_or-map_in : (f : ℕ → ℕ) (l : List ℕ) (i : ℕ) → i < length l → get_or (map f l) i 0 ≡ f (get_or l i 0)
get_or-map_in f [] i h = absurd (omega arith)
get_or-map_in f (x ∷ l) zero h = refl
get_or-map_in f (x ∷ l) (suc i) h = get_or-map_in f l i (omega arith)

-- the tests of a record, one to a place
abbrev shape_tests : Job → List Bool
shape_tests j = eqb (length j.a) 289 ∷ eqb (length j.b) 289 ∷ eqb (length j.points) 513 ∷ eqb (length j.values) 513 ∷ []

abbrev pair_tests : Job → List Bool
pair_tests j =
    not (outside j.p)
    ∷ not (composite j.p)
    ∷ not (too_high j.m)
    ∷ not (too_high j.n)
    ∷ not (over j.p j.a)
    ∷ not (over j.p j.b)
    ∷ zeros (drop ((j.m + 1) * 17) j.a)
    ∷ zeros (drop ((j.n + 1) * 17) j.b)
    ∷ not (no_lead j.m 16 j.a)
    ∷ not (no_lead j.n 16 j.b)
    ∷ eqb j.da (degree_a (pair_of j))
    ∷ eqb j.db (degree_b (pair_of j))
    ∷ enough (pair_of j)
    ∷ []

abbrev point_tests : Job → List Bool
point_tests j =
    leb j.count (needed (pair_of j))
    ∷ zeros (drop j.count j.points)
    ∷ zeros (drop j.count j.values)
    ∷ good (pair_of j) [] (kept_points j)
    ∷ same (take j.count j.values) (map (kept (pair_of j)) (kept_points j))
    ∷ []

test_standing : (j : Job) → sound? j ≡ true → Standing j
unfolding sound? shaped sound_pair sound_points kept_points pair_of
test_standing j h =
    let parts : (k : ℕ) → get_or (shaped j ∷ sound_pair j ∷ sound_points j ∷ []) k true ≡ true = conj-each (shaped j ∷ sound_pair j ∷ sound_points j ∷ []) h in
    let shape : (k : ℕ) → get_or (shape_tests j) k true ≡ true = conj-each (shape_tests j) (parts 0) in
    let pair : (k : ℕ) → get_or (pair_tests j) k true ≡ true = conj-each (pair_tests j) (parts 1) in
    let point : (k : ℕ) → get_or (point_tests j) k true ≡ true = conj-each (point_tests j) (parts 2) in
    let modulus : Modulus j.p = (modulus_tests j.p).0 (not-true _ (pair 0), not-true _ (pair 1)) in
    let low_m : j.m ≤ 16 = (too_high_false j.m).0 (not-true _ (pair 2)) in
    let low_n : j.n ≤ 16 = (too_high_false j.n).0 (not-true _ (pair 3)) in
    let pos : 0 < j.p = omega (arith, modulus.least) in
    let few : j.count ≤ needed (pair_of j) = leb-true j.count (needed (pair_of j)) (point 0) in
    let long : length j.points ≡ 513 = eqb-true (length j.points) 513 (shape 2) in
    let wide : length (kept_points j) ≡ j.count = kept-length j (omega (arith, needed_low j low_m low_n)) in
    let fine : Good (pair_of j) [] (kept_points j) = (good_true (pair_of j) [] (kept_points j)).0 (point 3) in
    let values : take j.count j.values ≡ map (kept (pair_of j)) (kept_points j) = (same_true _ _).0 (point 4) in
    record {
      length_of_a = eqb-true (length j.a) 289 (shape 0);
      length_of_b = eqb-true (length j.b) 289 (shape 1);
      length_points = long;
      length_values = eqb-true (length j.values) 513 (shape 3);
      modulus = modulus;
      low_m = low_m;
      low_n = low_n;
      below_of_a = (over_false j.p j.a pos).0 (not-true _ (pair 4));
      below_of_b = (over_false j.p j.b pos).0 (not-true _ (pair 5));
      outside_a = (zeros-from ((j.m + 1) * 17) j.a).0 (pair 6);
      outside_b = (zeros-from ((j.n + 1) * 17) j.b).0 (pair 7);
      lead_of_a = not-true _ (pair 8);
      lead_of_b = not-true _ (pair 9);
      real_a = eqb-true j.da (degree_a (pair_of j)) (pair 10);
      real_b = eqb-true j.db (degree_b (pair_of j)) (pair 11);
      plenty = pair 12;
      few = few;
      point-below = λ i l. rw (← kept_get_d j i l) (fine.below i (omega arith));
      point-usable = λ i l. rw (← kept_get_d j i l) (fine.usable i (omega arith));
      point_apart = λ i k h l e. fine.apart i k h (omega arith) (kept_get_d j i (omega arith) ∙ e ∙ sym (kept_get_d j k l));
      value-kept = λ i l.
          sym (get_or-take j.count j.values i 0 l)
          ∙ ap (λ (r : List ℕ). get_or r i 0) values
          ∙ get_or-map_in (kept (pair_of j)) (kept_points j) i (omega arith)
          ∙ ap (kept (pair_of j)) (kept_get_d j i l);
      point-rest = (zeros-from j.count j.points).0 (point 1);
      value-rest = (zeros-from j.count j.values).0 (point 2);
    }

-- the kept points and values of a record that stands
module _ (j : Job) (s : Standing j) where
  long : length (kept_points j) ≡ j.count
  long = kept-length j (omega (arith, count_fits j s, s.length_points))

  pub kept-good : Good (pair_of j) [] (kept_points j)
  unfolding pair_of among
  kept-good = record {
    below = λ i l. rw (kept_get_d j i (omega (arith, long))) (s.point-below i (omega (arith, long)));
    new = λ i l. refl;
    usable = λ i l. rw (kept_get_d j i (omega (arith, long))) (s.point-usable i (omega (arith, long)));
    apart = λ i k h l e.
        s.point_apart i k h (omega (arith, long)) (sym (kept_get_d j i (omega (arith, long))) ∙ e ∙ kept_get_d j k (omega (arith, long)));
  }

  values_length : length (take j.count j.values) ≡ j.count
  values_length = length-take-le j.count j.values (omega (arith, count_fits j s, s.length_values))

  pub kept_values : take j.count j.values ≡ map (kept (pair_of j)) (kept_points j)
  kept_values =
      ext_get_or 0 (take j.count j.values) (map (kept (pair_of j)) (kept_points j))
      (values_length ∙ sym long ∙ sym (length-map (kept_points j) (kept (pair_of j))))
      (λ i l. each i (omega (arith, values_length)))
    where
      each : (i : ℕ) → i < j.count → get_or (take j.count j.values) i 0 ≡ get_or (map (kept (pair_of j)) (kept_points j)) i 0
      each i l =
          get_or-take j.count j.values i 0 l
          ∙ s.value-kept i l
          ∙ ap (kept (pair_of j)) (sym (kept_get_d j i l))
          ∙ sym (get_or-map_in (kept (pair_of j)) (kept_points j) i (omega (arith, long)))

  shape-every : Every (shape_tests j)
  shape-every =
      eq-eqb (length j.a) 289 s.length_of_a
      also eq-eqb (length j.b) 289 s.length_of_b
      also eq-eqb (length j.points) 513 s.length_points
      also eq-eqb (length j.values) 513 s.length_values
      also done

  pair-every : Every (pair_tests j)
  pair-every =
      ap not ((modulus_tests j.p).1 s.modulus).0
      also ap not ((modulus_tests j.p).1 s.modulus).1
      also ap not ((too_high_false j.m).1 s.low_m)
      also ap not ((too_high_false j.n).1 s.low_n)
      also ap not ((over_false j.p j.a (omega (arith, s.modulus.least))).1 s.below_of_a)
      also ap not ((over_false j.p j.b (omega (arith, s.modulus.least))).1 s.below_of_b)
      also (zeros-from ((j.m + 1) * 17) j.a).1 s.outside_a
      also (zeros-from ((j.n + 1) * 17) j.b).1 s.outside_b
      also ap not s.lead_of_a
      also ap not s.lead_of_b
      also eq-eqb j.da (degree_a (pair_of j)) s.real_a
      also eq-eqb j.db (degree_b (pair_of j)) s.real_b
      also s.plenty
      also done

  point-every : Every (point_tests j)
  point-every =
      le-leb j.count (needed (pair_of j)) s.few
      also (zeros-from j.count j.points).1 s.point-rest
      also (zeros-from j.count j.values).1 s.value-rest
      also (good_true (pair_of j) [] (kept_points j)).1 kept-good
      also (same_true (take j.count j.values) (map (kept (pair_of j)) (kept_points j))).1 kept_values
      also done

  standing_tested : sound? j ≡ true
  unfolding sound? shaped sound_pair sound_points
  standing_tested = every-conj every
    where
      every : Every (shaped j ∷ sound_pair j ∷ sound_points j ∷ [])
      every = every-conj shape-every also every-conj pair-every also every-conj point-every also done

pub standing_test : (j : Job) → (sound? j ≡ true) ↔ Standing j
standing_test j = (test_standing j, standing_tested j)

pub sound_standing : (j : Job) → Sound j → Standing j
sound_standing j s =
    subst Standing (sym s.left)
    (lotted_standing (opened s.p s.m s.e s.n s.f s.s s.t) (opened_standing s.p s.m s.e s.n s.f s.s s.t s.accepted) s.offers)

pub standing_sound : (j : Job) → Standing j → Sound j
standing_sound j s = record {
  p = j.p;
  m = j.m;
  e = 16;
  n = j.n;
  f = 16;
  s = front j.m j.a;
  t = front j.n j.b;
  offers = kept_points j;
  accepted = front_accepted j s;
  left = sym (replayed j s);
}

pub sound_test : (j : Job) → (sound? j ≡ true) ↔ Sound j
sound_test j = (λ h. standing_sound j (test_standing j h), λ h. standing_tested j (sound_standing j h))

pub blank_unsound : sound? blank ≡ false
unfolding blank
blank_unsound = go (sound? blank) refl
  where
    go : (t : Bool) → sound? blank ≡ t → t ≡ false
    go true e = let two : 2 ≤ 0 = (test_standing blank e).modulus.least in absurd (omega arith)
    go false e = refl
