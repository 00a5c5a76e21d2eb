-- A record's two polynomials, lent where they stand.
--
--   IsOpened j        what lending them asks of a record: a modulus of the kernel, and tables with the degrees that it says
--   IsPairOf j P      P is the modulus and the two tables of j, with its degrees
--   lent_pair         so it holds the pair of j
--   lent_needed       and as many points are needed as its degrees say
use Rattle.std.specs.Prelude.{◌+◌, ◌*◌, ◌≤◌, ◌≡◌, length}
use Rattle.std.proofs.Common.{◌∙◌}
use Rattle.residue.specs.Prime.{Modulus}
use Rattle.scope.specs.Pair.{tables, bound, degree_a, degree_b}
use Rattle.scope.specs.Point.{needed}
use Rattle.points.specs.declared.Pair.{Pair}
use Rattle.points.specs.Lent.{pair_at}
use Rattle.job.specs.declared.Job.{Job}
use Rattle.job.specs.Job.{pair_of}

pub record IsOpened (j : Job) : Type 0 where
  pub modulus : Modulus j.p
  pub length_a : length j.a ≡ 289
  pub length_b : length j.b ≡ 289
  pub low_m : j.m ≤ 16
  pub low_n : j.n ≤ 16
  pub real_a : j.da ≡ degree_a (pair_of j)
  pub real_b : j.db ≡ degree_b (pair_of j)

pub record IsPairOf (j : Job) (P : Pair) : Type 0 where
  pub p : P.p.value ≡ j.p
  pub m : P.a.m ≡ j.m
  pub n : P.b.m ≡ j.n
  pub da : P.a.d ≡ j.da
  pub db : P.b.d ≡ j.db
  pub a : P.a.entries.now ≡ j.a
  pub b : P.b.entries.now ≡ j.b

pub lent_pair : {j : Job} {P : Pair} → IsPairOf j P → pair_at P ≡ pair_of j
unfolding pair_of tables
lent_pair {j} {P} h = λ i. tables (h.p i) (h.m i) 16 (h.n i) 16 (h.a i) (h.b i)

pub lent_needed : {j : Job} {P : Pair} → IsPairOf j P → IsOpened j → P.b.m * P.a.d + P.a.m * P.b.d + 1 ≡ needed (pair_of j)
unfolding needed bound pair_of
lent_needed {j} h o = λ i. h.n i * (h.da ∙ o.real_a) i + h.m i * (h.db ∙ o.real_b) i + 1
