-- Columns of a table: the first of them, and without one.
--
--   skip_low, skip_high       skip j k is k before j, and one more from j on
--   every                     all six columns in their order
--   first_at                  the column at each place of the first n of them
--   removed                   without the column at place j, place k holds the one at skip j k
--   one_fewer, fewer_columns  the other columns are one fewer, and columns of a table
use Rattle.std.proofs.Common.{inl, inr, ◌⊎◌, ℕ, zero, suc, ◌+◌, ◌-◌, ◌<◌, ◌≤◌, List, [], ◌∷◌, ◌≡◌, length, get_or, take, refl, sym, ap, subst, ◌∙◌, add-one, arith}
use Rattle.std.proofs.Math.Seq.{get_or-take}
use Rattle.std.specs.List.{remove}
use Rattle.std.proofs.lemmas.Bool.{cases_lt}
use Rattle.std.proofs.lemmas.List.Edits.{length-remove, get_or-remove_below, get_or-remove_above}
use Rattle.ring.specs.Det.{skip}
use Rattle.ring.specs.DetLaws.{skip-lt}
use Rattle.plain.specs.Expansion.{Columns}

pub skip_low : (j k : ℕ) → k < j → skip j k ≡ k
unfolding skip
skip_low zero k h = absurd (omega arith)
skip_low (suc j) zero h = refl
skip_low (suc j) (suc k) h = ap suc (skip_low j k (omega arith))

pub skip_high : (j k : ℕ) → j ≤ k → skip j k ≡ suc k
unfolding skip
skip_high zero k h = refl
skip_high (suc j) zero h = absurd (omega arith)
skip_high (suc j) (suc k) h = ap suc (skip_high j k (omega arith))

abbrev pub every : List ℕ
every = 0 ∷ 1 ∷ 2 ∷ 3 ∷ 4 ∷ 5 ∷ []

pub every_at : (k : ℕ) → k < 6 → get_or every k 0 ≡ k
every_at zero h = refl
every_at (suc zero) h = refl
every_at (suc (suc zero)) h = refl
every_at (suc (suc (suc zero))) h = refl
every_at (suc (suc (suc (suc zero)))) h = refl
every_at (suc (suc (suc (suc (suc zero))))) h = refl
every_at (suc (suc (suc (suc (suc (suc k)))))) h = absurd (omega arith)

pub first_at : (n k : ℕ) → n ≤ 6 → k < n → get_or (take n every) k 0 ≡ k
first_at n k most l = get_or-take n every k 0 l ∙ every_at k (omega arith)

module _ (cols : List ℕ) (j : ℕ) (inside : j < length cols) where
  pub removed : (k : ℕ) → get_or (remove cols j) k 0 ≡ get_or cols (skip j k) 0
  removed k = by_place (cases_lt k j)
    where
      by_place : (k < j) ⊎ (j ≤ k) → get_or (remove cols j) k 0 ≡ get_or cols (skip j k) 0
      by_place (inl l) = get_or-remove_below cols j 0 k l inside ∙ ap (λ (z : ℕ). get_or cols z 0) (sym (skip_low j k l))
      by_place (inr past) =
          get_or-remove_above cols j 0 k past inside
          ∙ ap (λ (z : ℕ). get_or cols z 0) (add-one k ∙ sym (skip_high j k past))

  pub one_fewer : {others : List ℕ} → others ≡ remove cols j → length others + 1 ≡ length cols
  one_fewer e = rw e (length-remove cols j inside)

  pub fewer_columns : {others : List ℕ} → others ≡ remove cols j → Columns (length cols) cols → Columns (length others) others
  fewer_columns {others} e all k l =
      subst (λ (z : ℕ). z < 6) (sym (ap (λ (c : List ℕ). get_or c k 0) e ∙ removed k))
      (all (skip j k) (omega (arith, skip-lt j k (length cols - 1) (omega (arith, one_fewer e)))))
