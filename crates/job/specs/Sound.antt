-- Which records are sound.
--
--   Sound j          some accepted opening followed by some offers leaves exactly this record
--   zeros r          every entry is 0
--   good P xs        the points xs are below p, usable and different
--   sound? j         the test that offers, lots and reads make once per call
use Rattle.std.specs.Prelude.{ℕ, ◌+◌, ◌*◌, Bool, true, false, not, ◌&&◌, List, [], ◌∷◌, map, ◌≡◌, leb, eqb, length, drop, take}
use Rattle.scope.specs.Pair.{Pair, degree_a, degree_b}
use Rattle.scope.specs.Point.{kept, needed, enough}
use Rattle.scope.specs.Number.{open_number, outside, composite, too_high, over, no_lead, point_number}
use Rattle.job.specs.declared.Job.{Job}
use Rattle.job.specs.Job.{pair_of, opened, kept_points}
use Rattle.job.specs.Calls.{lotted}

pub record Sound (j : Job) : Type 0 where
  pub p : ℕ
  pub m : ℕ
  pub e : ℕ
  pub n : ℕ
  pub f : ℕ
  pub s : List ℕ
  pub t : List ℕ
  pub offers : List ℕ
  pub accepted : open_number p m e n f s t ≡ 0
  pub left : j ≡ lotted (opened p m e n f s t) offers

unfoldable pub zeros : List ℕ → Bool
zeros [] = true
zeros (x ∷ r) = eqb x 0 && zeros r

unfoldable pub same : List ℕ → List ℕ → Bool
same [] [] = true
same [] (y ∷ t) = false
same (x ∷ s) [] = false
same (x ∷ s) (y ∷ t) = eqb x y && same s t

-- the points kept after those before them would each have been kept
unfoldable pub good : Pair → List ℕ → List ℕ → Bool
good P before [] = true
good P before (x ∷ xs) = eqb (point_number P before x) 0 && good P (x ∷ before) xs

-- modulus, degrees and coefficients are those of an accepted opening
unfoldable pub sound_pair : Job → Bool
sound_pair j =
    not (outside j.p)
    && not (composite j.p)
    && not (too_high j.m)
    && not (too_high j.n)
    && not (over j.p j.a)
    && not (over j.p j.b)
    && zeros (drop ((j.m + 1) * 17) j.a)
    && zeros (drop ((j.n + 1) * 17) j.b)
    && not (no_lead j.m 16 j.a)
    && not (no_lead j.n 16 j.b)
    && eqb j.da (degree_a (pair_of j))
    && eqb j.db (degree_b (pair_of j))
    && enough (pair_of j)

-- the kept pairs are points that were kept with their values, and the other slots are empty
unfoldable pub sound_points : Job → Bool
sound_points j =
    leb j.count (needed (pair_of j))
    && zeros (drop j.count j.points)
    && zeros (drop j.count j.values)
    && good (pair_of j) [] (kept_points j)
    && same (take j.count j.values) (map (kept (pair_of j)) (kept_points j))

unfoldable pub shaped : Job → Bool
shaped j = eqb (length j.a) 289 && eqb (length j.b) 289 && eqb (length j.points) 513 && eqb (length j.values) 513

unfoldable pub sound? : Job → Bool
sound? j = shaped j && sound_pair j && sound_points j
