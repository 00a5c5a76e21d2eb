-- What the test of a record says, as facts.
--
--   Standing j       modulus, degrees, coefficients, kept pairs and empty slots of a sound record
use Rattle.std.specs.Prelude.{ℕ, ◌+◌, ◌*◌, ◌<◌, ◌≤◌, true, false, ◌≡◌, ◌≢◌, length, get_or}
use Rattle.residue.specs.Prime.{Modulus}
use Rattle.scope.specs.Pair.{degree_a, degree_b}
use Rattle.scope.specs.Point.{usable, kept, needed, enough}
use Rattle.scope.specs.Number.{no_lead}
use Rattle.job.specs.declared.Job.{Job}
use Rattle.job.specs.Job.{pair_of}

pub record Standing (j : Job) : Type 0 where
  pub length_of_a : length j.a ≡ 289
  pub length_of_b : length j.b ≡ 289
  pub length_points : length j.points ≡ 513
  pub length_values : length j.values ≡ 513
  pub modulus : Modulus j.p
  pub low_m : j.m ≤ 16
  pub low_n : j.n ≤ 16
  pub below_of_a : (k : ℕ) → get_or j.a k 0 < j.p
  pub below_of_b : (k : ℕ) → get_or j.b k 0 < j.p
  pub outside_a : (k : ℕ) → (j.m + 1) * 17 ≤ k → get_or j.a k 0 ≡ 0
  pub outside_b : (k : ℕ) → (j.n + 1) * 17 ≤ k → get_or j.b k 0 ≡ 0
  pub lead_of_a : no_lead j.m 16 j.a ≡ false
  pub lead_of_b : no_lead j.n 16 j.b ≡ false
  pub real_a : j.da ≡ degree_a (pair_of j)
  pub real_b : j.db ≡ degree_b (pair_of j)
  pub plenty : enough (pair_of j) ≡ true
  pub few : j.count ≤ needed (pair_of j)
  pub point-below : (i : ℕ) → i < j.count → get_or j.points i 0 < j.p
  pub point-usable : (i : ℕ) → i < j.count → usable (pair_of j) (get_or j.points i 0) ≡ true
  pub point_apart : (i k : ℕ) → i < k → k < j.count → get_or j.points i 0 ≢ get_or j.points k 0
  pub value-kept : (i : ℕ) → i < j.count → get_or j.values i 0 ≡ kept (pair_of j) (get_or j.points i 0)
  pub point-rest : (i : ℕ) → j.count ≤ i → get_or j.points i 0 ≡ 0
  pub value-rest : (i : ℕ) → j.count ≤ i → get_or j.values i 0 ≡ 0
