-- A table's rows as polynomials in y.
--
--   term_at       a term of a table of 289 entries is the entry at 17 i + j
--   row-value     the value of a row up to the largest power that occurs is the value of the whole row
--   row-stored    the values of the rows 0 to m, stored one by one
use Prim.Native.Nat.{ℕ, suc, ◌+◌, ◌*◌, ◌<◌, ◌≤◌}
use native.Mathlib.Numerals.{add-one}
use native.Mathlib.Omega.{arith}
use mathlib.Core.List.{List}
use mathlib.Core.Path.{◌≡◌, sym, ap, ◌∙◌}
use lib.ListN.{length, get_or, take, drop, length-drop}
use Rattle.std.proofs.Common.{length-take-le}
use lib.Seq.{get_or-drop}
use Rattle.std.proofs.lemmas.List.{get_or-take}
use Rattle.ring.specs.Ring.{Ring}
use Rattle.residue.specs.Residue.{residues, res, val}
use Rattle.residue.specs.ResidueLaws.{res-zero}
use Rattle.polynomial.specs.Value.{value}
use Rattle.polynomial.specs.ValueLaws.{value_ext, value_more}
use Rattle.scope.specs.Pair.{place, term, polynomial}
use Rattle.scope.specs.TableLaws.{term_inside}
use Rattle.scope.specs.Point.{tabulate, value_at, row_at}
use Rattle.points.specs.Table.{IsTable}
use Rattle.points.specs.Step.{value_of}
use Rattle.points.proofs.Stores.{Stored, stored_all}

pub term_at : (t : List ℕ) (i j : ℕ) → j ≤ 16 → term 16 t i j ≡ get_or t (i * 17 + j) 0
unfolding place
term_at t i j h = term_inside 16 t i j h

pub row-value : (p a : ℕ) {m d : ℕ} {t : List ℕ} → IsTable m d t → (i : ℕ) → i ≤ m → (n : ℕ) → n ≡ suc d → {r : ℕ}
    → r ≡ value_of p (length (take n (drop (i * 17) t))) (take n (drop (i * 17) t)) a → r ≡ value_at p 16 (term 16 t) i a
unfolding value_at polynomial value_of
row-value p a {m} {d} {t} h i l n e at =
    at
    ∙ ap (λ (k : ℕ). val p (value (residues p) k (λ j. res p (get_or row j 0)) (res p a))) long
    ∙ ap (val p) (value_ext (residues p) (suc d) (λ j. res p (get_or row j 0)) (λ j. res p (term 16 t i j)) (res p a) entry
    ∙ sym (value_more (residues p) d 16 (λ j. res p (term 16 t i j)) (res p a) high h.powers))
  where
    row : List ℕ
    row = take n (drop (i * 17) t)

    long : length row ≡ suc d
    long = length-take-le n (drop (i * 17) t) (omega (arith, length-drop (i * 17) t, h.entries, h.rows, h.powers)) ∙ e

    entry : (j : ℕ) → j < suc d → res p (get_or row j 0) ≡ res p (term 16 t i j)
    entry j b = ap (res p) (get_or-take n (drop (i * 17) t) j 0 (omega arith) ∙ get_or-drop (i * 17) t j 0 ∙ sym (term_at t i j (omega (arith, h.powers))))

    high : (j : ℕ) → d < j → res p (term 16 t i j) ≡ Ring.𝟘 (residues p)
    high j b = ap (res p) (h.above i j l b) ∙ res-zero p

pub row-stored : (p m a : ℕ) (A : ℕ → ℕ → ℕ) {i : ℕ} {l k : List ℕ} → Stored (λ r. value_at p 16 A r a) 0 i l k → i ≡ length l → length l ≡ m + 1
    → k ≡ row_at p m 16 A a
unfolding row_at
row-stored p m a A h e long = stored_all (λ r. value_at p 16 A r a) h e ∙ ap (λ (n : ℕ). tabulate n (λ r. value_at p 16 A r a)) (long ∙ add-one m)
