-- What the fields of a sound record are to the functions on slices.
--
--   standing             what a sound job holds, as facts
--   sound_as             an offer leaves a sound job
--   opened               what lending its polynomials asks
--   table_of_a, table_of_b     the tables hold no power of y above the true degrees
--   positive             its modulus is not 0
--   count_below          the points kept have slots; few_kept: no more are kept than are needed; slots: which have slots
--   kept_count           the points kept as a list
--   room                 these, for the slices of the slots
use Rattle.std.proofs.Common.{ℕ, ◌<◌, ◌≤◌, true, ◌≡◌, length, arith, sym, subst}
use Rattle.scope.specs.Pair.{degree_a, degree_b}
use Rattle.scope.specs.Point.{needed}
use Rattle.points.specs.Table.{IsTable, table_of}
use Rattle.job.specs.declared.Job.{Job}
use Rattle.job.specs.Job.{pair_of, kept_points}
use Rattle.job.specs.Calls.{offered}
use Rattle.job.specs.Sound.{sound?}
use Rattle.job.specs.Standing.{Standing}
use Rattle.job.specs.SoundLaws.{standing_test}
use Rattle.job.specs.StandingLaws.{needed_fits, count_fits, kept-length, offered_standing}
use Rattle.offers.specs.Lent.{IsOpened}

pub standing : {j : Job} → sound? j ≡ true → Standing j
standing {j} h = (standing_test j).0 h

pub sound_as : (j : Job) (a : ℕ) {k : Job} → k ≡ offered j a → sound? j ≡ true → sound? k ≡ true
sound_as j a {k} e h = (standing_test k).1 (subst Standing (sym e) (offered_standing j (standing h) a))

module _ (j : Job) (h : sound? j ≡ true) where
  pub opened : IsOpened j
  opened = let s = standing h in record {
    modulus = s.modulus;
    length_a = s.length_of_a;
    length_b = s.length_of_b;
    low_m = s.low_m;
    low_n = s.low_n;
    real_a = s.real_a;
    real_b = s.real_b;
  }

  pub positive : 0 < j.p
  positive = omega (arith, (standing h).modulus.least)

  pub count_below : j.count ≤ 513
  count_below = count_fits j (standing h)

  pub few_kept : j.count ≤ needed (pair_of j)
  few_kept = (standing h).few

  pub slots : needed (pair_of j) ≤ 513
  slots = needed_fits j (standing h)

  pub kept_count : length (kept_points j) ≡ j.count
  kept_count = kept-length j (omega (arith, count_below, (standing h).length_points))

pub ruleset room = (positive, count_below, few_kept, slots, kept_count)

module _ (j : Job) (o : IsOpened j) where
  pub table_of_a : IsTable j.m j.da j.a
  unfolding degree_a pair_of
  table_of_a = table_of j.m j.da j.a o.length_a o.low_m o.real_a

  pub table_of_b : IsTable j.n j.db j.b
  unfolding degree_b pair_of
  table_of_b = table_of j.n j.db j.b o.length_b o.low_n o.real_b
