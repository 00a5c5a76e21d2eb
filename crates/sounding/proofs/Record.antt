-- The test of a record in its parts.
--
--   low_m, low_n                    where the numbers pass, the degrees in x are at most 16
--   pair_tables                     the pair of the record is that of its tables
--   opening                         these, for the test of the tables
--   pair_parts                      the test of the pair is that of the numbers, then that of the tables
--   tables_opened, pair_opened      where they pass, the pair can be lent
--   lent_enough                     as many points are usable as are needed where the lent pair has as many as it needs
--   lent_points                     the test of the kept points in its parts, on the lent pair
--   record_parts                    the whole test is that of the pair, then that of the points
use Rattle.std.proofs.Common.{ℕ, ◌+◌, ◌*◌, ◌≤◌, Bool, true, false, not, ◌&&◌, List, [], map, ◌≡◌, refl, arith, sym, ap, ◌∙◌, leb, eqb, length, take, drop}
use Rattle.std.proofs.Math.Bool.{and_assoc}
use Rattle.std.proofs.lemmas.Grind.{common_steps}
use Rattle.residue.specs.Prime.{Modulus}
use Rattle.scope.specs.Pair.{term, occurs, largest, degree_a, degree_b, tables}
use Rattle.scope.specs.Point.{kept, needed, usables, enough}
use Rattle.scope.specs.Number.{over, no_lead}
use Rattle.scope.specs.TestLaws.{modulus_tests, too_high_false}
use Rattle.points.specs.declared.Pair.{Pair}
use Rattle.points.specs.Lent.{pair_at}
use Rattle.job.specs.declared.Job.{Job}
use Rattle.job.specs.Job.{pair_of, kept_points}
use Rattle.job.specs.Sound.{zeros, same, good, sound_pair, sound_points, shaped, sound?}
use Rattle.offers.specs.Lent.{IsOpened, IsPairOf, lent_pair, lent_needed}
use Rattle.sounding.specs.Parts.{sound_numbers, sound_table, sound_tables, kept_pairs}

and_left_comm : (a b c : Bool) → (a && (b && c)) ≡ (b && (a && c))
and_left_comm true b c = refl
and_left_comm false true c = refl
and_left_comm false false c = refl

-- the tests of the two tables, joined test by test and table by table
by_table : (x o o' z z' l l' d d' e : Bool)
    → (x && o && o' && z && z' && l && l' && d && d' && e) ≡ (x && ((o && z && l && d) && (o' && z' && l' && d') && e))
by_table x o o' z z' l l' d d' e = simp (and_assoc, and_left_comm)

module _ (p m n : ℕ) (h : sound_numbers p m n ≡ true) where
  modulus : Modulus p
  unfolding sound_numbers
  modulus = (modulus_tests p).0 (grind (arith, common_steps), grind (arith, common_steps))

  pub low_m : m ≤ 16
  unfolding sound_numbers
  low_m = (too_high_false m).0 (grind (arith, common_steps))

  pub low_n : n ≤ 16
  unfolding sound_numbers
  low_n = (too_high_false n).0 (grind (arith, common_steps))

table-degree : (p m d : ℕ) (t : List ℕ) → sound_table p m d t ≡ true → d ≡ largest 16 (occurs m (term 16 t))
unfolding sound_table
table-degree p m d t h = grind (arith, common_steps)

module _ (j : Job) where
  pub pair_tables : pair_of j ≡ tables j.p j.m 16 j.n 16 j.a j.b
  unfolding pair_of tables
  pair_tables = refl

  pub pair_parts : sound_pair j ≡ (sound_numbers j.p j.m j.n && sound_tables j.p j.m j.da j.n j.db j.a j.b)
  unfolding sound_pair sound_numbers sound_tables sound_table degree_a degree_b pair_of tables
  pair_parts =
      by_table (sound_numbers j.p j.m j.n)
      (not (over j.p j.a)) (not (over j.p j.b))
      (zeros (drop ((j.m + 1) * 17) j.a)) (zeros (drop ((j.n + 1) * 17) j.b))
      (not (no_lead j.m 16 j.a)) (not (no_lead j.n 16 j.b))
      (eqb j.da (degree_a (pair_of j))) (eqb j.db (degree_b (pair_of j)))
      (enough (pair_of j))

  pub tables_opened : length j.a ≡ 289 → length j.b ≡ 289 → sound_numbers j.p j.m j.n ≡ true
      → sound_table j.p j.m j.da j.a ≡ true → sound_table j.p j.n j.db j.b ≡ true → IsOpened j
  unfolding degree_a degree_b pair_of
  tables_opened long_a long_b numbers a b = record {
    modulus = modulus j.p j.m j.n numbers;
    length_a = long_a;
    length_b = long_b;
    low_m = low_m j.p j.m j.n numbers;
    low_n = low_n j.p j.m j.n numbers;
    real_a = table-degree j.p j.m j.da j.a a;
    real_b = table-degree j.p j.n j.db j.b b;
  }

  pub pair_opened : length j.a ≡ 289 → length j.b ≡ 289 → sound_pair j ≡ true → IsOpened j
  unfolding sound_tables
  pair_opened long_a long_b h =
      let e : (sound_numbers j.p j.m j.n && sound_tables j.p j.m j.da j.n j.db j.a j.b) ≡ true = sym pair_parts ∙ h in
      tables_opened long_a long_b (grind (arith, common_steps)) (grind (arith, common_steps)) (grind (arith, common_steps))

  pub record_parts : shaped j ≡ true → sound? j ≡ (sound_pair j && sound_points j)
  unfolding sound?
  record_parts shape = ap (λ (b : Bool). b && sound_pair j && sound_points j) shape

pub ruleset opening = (low_m, low_n, pair_tables)

pub lent_enough : (j : Job) (P : Pair) (wanted : ℕ) → IsOpened j → IsPairOf j P → wanted ≡ P.b.m * P.a.d + P.a.m * P.b.d + 1
    → leb wanted (length (usables (pair_at P) P.p.value)) ≡ enough (pair_of j)
unfolding enough pair_of
lent_enough j P wanted o h e =
    (λ i. leb (e i) (length (usables (lent_pair h i) (h.p i)))) ∙ ap (λ (k : ℕ). leb k (length (usables (pair_of j) j.p))) (lent_needed h o)

pub lent_points : {j : Job} {P : Pair} → IsPairOf j P → length j.a ≡ 289 → length j.b ≡ 289 → sound_pair j ≡ true
    → sound_points j ≡ (leb j.count (P.b.m * P.a.d + P.a.m * P.b.d + 1) && zeros (drop j.count j.points) && zeros (drop j.count j.values)
    && kept_pairs (pair_at P) (take j.count j.points) (take j.count j.values))
unfolding sound_points kept_pairs kept_points
lent_points {j} {P} h long_a long_b s =
    and_assoc (leb j.count (needed (pair_of j)) && zeros (drop j.count j.points) && zeros (drop j.count j.values))
    (good (pair_of j) [] (kept_points j)) (same (take j.count j.values) (map (kept (pair_of j)) (kept_points j)))
    ∙ sym (λ i. leb j.count (lent_needed h (pair_opened j long_a long_b s) i) && zeros (drop j.count j.points) && zeros (drop j.count j.values)
    && kept_pairs (lent_pair h i) (take j.count j.points) (take j.count j.values))
