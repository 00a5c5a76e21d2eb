-- Trimming.
--
--   trim_zeros         a row of zeros has no true row
--   trim-last          the true row ends with the last entry that is not 0
--   trim-front         the true row is the front of r of its length
--   trim-front-length  and that front is so long
use Rattle.std.proofs.Common.{ℕ, zero, suc, ◌+◌, ◌<◌, ◌≤◌, List, [], ◌∷◌, ◌≡◌, ◌≢◌, refl, sym, ap, ◌∙◌, arith, length, get_or, take, ext_get_or}
use Rattle.std.proofs.Math.Seq.{length-take-le, get_or-take}
use Rattle.euclid.specs.Row.{joined, trim}
use Rattle.euclid.specs.RowLaws.{trim-get_or, trim-length}

-- where every entry is 0, nothing is left
trim-none : (r : List ℕ) → ((j : ℕ) → j < length r → get_or r j 0 ≡ 0) → trim r ≡ []
unfolding trim joined
trim-none [] zeros = refl
trim-none (x ∷ r) zeros =
    ap (joined x) (trim-none r (λ j l. zeros (suc j) (omega arith))) ∙ ap (λ (n : ℕ). joined n []) (zeros zero (omega arith))

pub trim_zeros : (r : List ℕ) → ((j : ℕ) → j < length r → get_or r j 0 ≡ 0) → 0 ≡ length (trim r)
trim_zeros r zeros = sym (ap length (trim-none r zeros))

-- what stands in front of a true row, or of nothing, adds an entry
joined_one : (x : ℕ) → x ≢ 0 → length (joined x []) ≡ 1
unfolding joined
joined_one zero some = absurd (some refl)
joined_one (suc x) some = refl

joined_more : (x : ℕ) (r : List ℕ) → 0 < length r → length (joined x r) ≡ length r + 1
unfolding joined
joined_more x [] some = absurd (omega arith)
joined_more x (y ∷ r) some = omega arith

pub trim-last : (r : List ℕ) (i : ℕ) → i < length r → get_or r i 0 ≢ 0 → ((k : ℕ) → i + 1 ≤ k → k < length r → get_or r k 0 ≡ 0)
    → i + 1 ≡ length (trim r)
unfolding trim
trim-last [] i inside some after = absurd (omega arith)
trim-last (x ∷ r) zero inside some after =
    sym (ap (λ (l : List ℕ). length (joined x l)) (trim-none r (λ j l. after (suc j) (omega arith) (omega arith))) ∙ joined_one x some)
trim-last (x ∷ r) (suc i) inside some after =
    let rest = trim-last r i (omega arith) some (λ k l h. after (suc k) (omega arith) (omega arith)) in
    omega (arith, rest, joined_more x (trim r) (omega (arith, rest)))

module _ (r : List ℕ) {k : ℕ} (e : k ≡ length (trim r)) where
  pub trim-front-length : k ≡ length (take k r)
  trim-front-length = sym (length-take-le k r (omega (arith, trim-length r)))

  pub trim-front : take k r ≡ trim r
  trim-front =
      ext_get_or 0 (take k r) (trim r) (sym trim-front-length ∙ e) (λ i l. get_or-take k r i 0 (omega (arith, trim-front-length)) ∙ sym (trim-get_or r i))
