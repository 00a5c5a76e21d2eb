-- What a read of a sound job answers, by the tests that the code makes.
--
--   some_ext, largest_ext   tests that agree find the same
--   read_refused            a refusal leaves the output as it was
--   read-early              14: points are still wanted
--   read_short              9: the output is short
--   written-interpolant     the interpolated polynomial's coefficients are the determinant's
--   read_complete           0: the output holds the determinant
use Prim.Native.Nat.{ℕ, zero, suc, ◌-◌, ◌<◌, ◌≤◌}
use native.Mathlib.Omega.{arith}
use Rattle.std.proofs.Common.{Option, Some, None, Ok, ◌+◌}
use Rattle.scope.specs.Search.{some_false, largest_is}
use Rattle.scope.specs.Degree.{tabulate-length, tabulate-get_or}
use mathlib.Core.Bool.{Bool, true, false, cond, not, ◌||◌}
use mathlib.Core.List.{List, ◌++◌}
use mathlib.Core.Path.{◌≡◌, refl, sym, ap, ap₂, ◌∙◌}
use lib.Dec.{eqb}
use lib.ListN.{length, get_or, drop}
use borrow.Author.Tests.{lt-ltb, le-ltb, ne_eqb}
use Rattle.residue.specs.Residue.{val}
use Rattle.scope.specs.Pair.{bound, some, largest, coefficient}
use Rattle.scope.specs.Point.{tabulate, needed, room}
use Rattle.scope.specs.Number.{read_number, ◌gives◌otherwise◌}
use Rattle.scope.specs.Answers.{only_done}
use Rattle.points.proofs.Stores.{tabulate_ext}
use Rattle.job.specs.declared.Job.{Job}
use Rattle.job.specs.Job.{pair_of}
use Rattle.job.specs.Calls.{interpolant, reading, wanted, written, nonzero, degree_of, is_zero}
use Rattle.job.specs.Public.{out_after, zero_flag}
use Rattle.job.specs.Standing.{Standing}
use Rattle.job.specs.Complete.{interpolant-determinant}
use Rattle.reads.specs.Answered.{answered}
use Rattle.reads.specs.Read.{ReadSound}

some_ext : (n : ℕ) (o q : ℕ → Bool) → ((k : ℕ) → k < n → o k ≡ q k) → some n o ≡ some n q
unfolding some
some_ext zero o q h = refl
some_ext (suc n) o q h = ap₂ (λ (a b : Bool). a || b) (h n (omega arith)) (some_ext n o q (λ k l. h k (omega arith)))

largest_ext : (e : ℕ) (o q : ℕ → Bool) → ((k : ℕ) → k ≤ e → o k ≡ q k) → largest e o ≡ largest e q
unfolding largest
largest_ext zero o q h = refl
largest_ext (suc e) o q h =
    ap₂ (λ (t : Bool) (below : ℕ). cond t (suc e) below) (h (suc e) (omega arith)) (largest_ext e o q (λ k l. h k (omega arith)))

read_refused : (j : Job) (out : List ℕ) (r w : ℕ) → reading j (length out) ≡ r → (r ≡ 0 → ⊥) → w ≡ cond (eqb r 14) (wanted j) 0
    → ReadSound j out (record { number = r; wanted = w; degree = 0; zero = 0 }) out
unfolding out_after only_done
read_refused j out r w answer h still =
    record {
      number = sym answer;
      wanted = rw answer still;
      degree = rw (answer, ne_eqb r 0 h) refl;
      zero = rw (answer, ne_eqb r 0 h) refl;
      output = rw (answer, ne_eqb r 0 h) refl;
    }

-- the code's number of points needed is k
module _ (j : Job) (out : List ℕ) (k : ℕ) (at : k ≡ needed (pair_of j)) where
  pub read-early : j.count < k → ReadSound j out (record { number = 14; wanted = k - j.count; degree = 0; zero = 0 }) out
  unfolding wanted
  read-early l =
      read_refused j out 14 (k - j.count)
      (unfold reading read_number ◌gives◌otherwise◌ in rw (lt-ltb j.count (needed (pair_of j)) (omega (arith, at))) refl)
      (omega arith) (rw at refl)

  pub read_short : k ≤ j.count → length out < k → ReadSound j out (record { number = 9; wanted = 0; degree = 0; zero = 0 }) out
  read_short full l =
      read_refused j out 9 0
      (unfold reading read_number ◌gives◌otherwise◌ needed room in
      rw (le-ltb j.count (needed (pair_of j)) (omega (arith, at)), lt-ltb (length out) (room (pair_of j)) (omega (arith, at))) refl)
      (omega arith) refl

module _ (j : Job) (s : Standing j) (full : j.count ≡ needed (pair_of j)) where
  pub written-interpolant : tabulate (needed (pair_of j)) (λ i. val j.p (interpolant j i)) ≡ written (pair_of j)
  unfolding written coefficient needed room pair_of
  written-interpolant =
      tabulate_ext (needed (pair_of j)) (λ i. val j.p (interpolant j i)) (coefficient (pair_of j))
      (λ i l. ap (val j.p) (interpolant-determinant j s full i l))

-- a read of a job with all its points: the front of the output holds the polynomial through them
module _ (j : Job) (s : Standing j) (out w : List ℕ) (k : ℕ) (at : k ≡ needed (pair_of j)) (full : k ≤ j.count) (fits : k ≤ length out)
    (e : w ≡ tabulate j.count (λ i. val j.p (interpolant j i))) where
  answer : reading j (length out) ≡ 0
  unfolding reading read_number ◌gives◌otherwise◌ needed room
  answer = rw (le-ltb j.count (needed (pair_of j)) (omega (arith, at)), le-ltb (length out) (room (pair_of j)) (omega (arith, at))) refl

  whole : j.count ≡ needed (pair_of j)
  whole = omega (arith, at, s.few)

  front : w ≡ written (pair_of j)
  front = e ∙ ap (λ (n : ℕ). tabulate n (λ i. val j.p (interpolant j i))) whole ∙ written-interpolant j s whole

  holds : w ++ drop k out ≡ written (pair_of j) ++ drop (room (pair_of j)) out
  unfolding needed room
  holds = ap₂ (λ (l : List ℕ) (n : ℕ). l ++ drop n out) front at

  width : length w ≡ bound (pair_of j) + 1
  unfolding written room
  width = ap length front ∙ tabulate-length (room (pair_of j)) (coefficient (pair_of j))

  tested : (i : ℕ) → i < bound (pair_of j) + 1 → not (eqb (get_or w i 0) 0) ≡ nonzero (pair_of j) i
  unfolding written room nonzero
  tested i l =
      ap (λ (c : ℕ). not (eqb c 0)) (ap (λ (r : List ℕ). get_or r i 0) front ∙ tabulate-get_or (room (pair_of j)) (coefficient (pair_of j)) i l)

  -- whether a coefficient is not 0, and the last that is not
  some_same : some (length w) (λ i. not (eqb (get_or w i 0) 0)) ≡ some (bound (pair_of j) + 1) (nonzero (pair_of j))
  some_same =
      ap (λ (n : ℕ). some n (λ i. not (eqb (get_or w i 0) 0))) width ∙ some_ext (bound (pair_of j) + 1) _ (nonzero (pair_of j)) tested

  degree_same : largest (length w - 1) (λ i. not (eqb (get_or w i 0) 0)) ≡ degree_of (pair_of j)
  unfolding degree_of
  degree_same =
      let last : length w - 1 ≡ bound (pair_of j) = omega (arith, width) in
      ap (λ (n : ℕ). largest n (λ i. not (eqb (get_or w i 0) 0))) last
      ∙ largest_ext (bound (pair_of j)) _ (nonzero (pair_of j)) (λ i l. tested i (omega arith))

  done : (t : Bool) → some (bound (pair_of j) + 1) (nonzero (pair_of j)) ≡ t
      → ReadSound j out (answered (Ok (cond t (Some (degree_of (pair_of j))) None))) (w ++ drop k out)
  unfolding out_after only_done zero_flag is_zero degree_of
  done true q =
      record { number = sym answer; wanted = rw answer refl; degree = rw answer refl; zero = rw (answer, q) refl; output = rw answer holds }
  done false q =
      record { number = sym answer; wanted = rw answer refl; degree = rw answer (zero-degree q); zero = rw (answer, q) refl; output = rw answer holds }
    where
      zero-degree : some (bound (pair_of j) + 1) (nonzero (pair_of j)) ≡ false → 0 ≡ degree_of (pair_of j)
      zero-degree q = largest_is (bound (pair_of j)) (nonzero (pair_of j)) 0 (omega arith) (λ i b _. some_false (bound (pair_of j) + 1) (nonzero (pair_of j)) q i (omega arith)) (λ l. absurd (omega arith))

  pub read_complete : (r : Option ℕ)
      → r ≡ cond (some (length w) (λ i. not (eqb (get_or w i 0) 0))) (Some (largest (length w - 1) (λ i. not (eqb (get_or w i 0) 0)))) None
      → ReadSound j out (answered (Ok r)) (w ++ drop k out)
  read_complete r found =
      rw (found ∙ ap₂ (λ (t : Bool) (d : ℕ). cond t (Some d) None) some_same degree_same)
      (done (some (bound (pair_of j) + 1) (nonzero (pair_of j))) refl)
