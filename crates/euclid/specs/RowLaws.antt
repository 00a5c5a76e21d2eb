-- Laws of rows: trimming keeps the coefficients, and a row is trimmed exactly when its last entry is not 0.
--
--   Below p r             every entry is below p
--   Ended r               the last entry is not 0 (so the row is not empty)
--   coef_out              past its end a row's coefficients are 𝟘
--   row_path              rows of one length are equal where their coefficients are
--   trim-coef             trimming keeps every coefficient; trim-get_or: every entry
--   trim-length           a trimmed row is no longer; trim-below: its entries are residues where they were
--   trim-ended            a trimmed row is empty or ended
--   ended-trim            an ended row is trimmed already
--   declared-length       the length of a row that is not empty is one more than its declared degree
--   declared_same         rows of one length have one declared degree
--   declared_most, declared_least   the declared degree against the length of any row
--   ended-degree, ended-lead        true degree and lead of an ended row
use Rattle.std.specs.Prelude.{ℕ, zero, suc, ◌<◌, ◌≤◌, List, [], ◌∷◌, ◌≡◌, refl, ◌≢◌, ◌⊎◌, length, get_or}
use Rattle.std.proofs.Common.{arith, sym, ap, ◌∙◌, inl, inr, ext_get_or}
use Rattle.std.proofs.Math.ListN.{get_or-eq_default}
use Rattle.ring.specs.Ring.{Ring}
use Rattle.residue.specs.Residue.{residues, res, val}
use Rattle.residue.specs.ResidueLaws.{val-res_small, val-𝟘, res-zero}
use Rattle.euclid.specs.Row.{coef, joined, trim, declared, degree, lead}

abbrev pub Below : ℕ → List ℕ → Type 0
Below p r = (j : ℕ) → get_or r j 0 < p

abbrev pub Ended : List ℕ → Type 0
Ended r = (0 < length r) × (get_or r (declared r) 0 ≢ 0)

pub coef_out : (p : ℕ) (r : List ℕ) (j : ℕ) → length r ≤ j → coef p r j ≡ Ring.𝟘 (residues p)
unfolding coef
coef_out p r j h = ap (res p) (get_or-eq_default r 0 h) ∙ res-zero p

pub coef_cons-suc : (p x : ℕ) (r : List ℕ) (j : ℕ) → coef p (x ∷ r) (suc j) ≡ coef p r j
unfolding coef
coef_cons-suc p x r j = refl

pub coef_cons-zero : (p x : ℕ) (r : List ℕ) → coef p (x ∷ r) zero ≡ res p x
unfolding coef
coef_cons-zero p x r = refl

-- rows with the same entries have the same coefficients
pub coef-same : (p : ℕ) (r s : List ℕ) (i j : ℕ) → get_or r i 0 ≡ get_or s j 0 → coef p r i ≡ coef p s j
unfolding coef
coef-same p r s i j e = ap (res p) e

-- an entry below p that is not 0 is not 0 modulo p
pub coef-nonzero : (p : ℕ) (r : List ℕ) (j : ℕ) → get_or r j 0 < p → get_or r j 0 ≢ 0 → coef p r j ≢ Ring.𝟘 (residues p)
unfolding coef
coef-nonzero p r j h n e = n (sym (val-res_small h) ∙ ap (val p) e ∙ val-𝟘 p)

-- rows of one length whose entries are residues are equal where their coefficients are
pub row_path : (p : ℕ) (r s : List ℕ) → Below p r → Below p s → length r ≡ length s → ((j : ℕ) → j < length r → coef p r j ≡ coef p s j) → r ≡ s
unfolding coef
row_path p r s hr hs e same =
    ext_get_or 0 r s e (λ j l. sym (val-res_small (hr j)) ∙ ap (val p) (same j l) ∙ val-res_small (hs j))

joined-get_or : (x : ℕ) (r : List ℕ) (j : ℕ) → get_or (joined x r) j 0 ≡ get_or (x ∷ r) j 0
unfolding joined
joined-get_or zero [] zero = refl
joined-get_or zero [] (suc j) = refl
joined-get_or (suc x) [] j = refl
joined-get_or x (y ∷ r) j = refl

pub trim-get_or : (r : List ℕ) (j : ℕ) → get_or (trim r) j 0 ≡ get_or r j 0
unfolding trim
trim-get_or [] j = refl
trim-get_or (x ∷ r) zero = joined-get_or x (trim r) zero
trim-get_or (x ∷ r) (suc j) = joined-get_or x (trim r) (suc j) ∙ trim-get_or r j

pub trim-coef : (p : ℕ) (r : List ℕ) (j : ℕ) → coef p (trim r) j ≡ coef p r j
trim-coef p r j = coef-same p (trim r) r j j (trim-get_or r j)

pub trim-below : (p : ℕ) (r : List ℕ) → Below p r → Below p (trim r)
trim-below p r h j = rw (trim-get_or r j) (h j)

joined_length : (x : ℕ) (r : List ℕ) → length (joined x r) ≤ suc (length r)
unfolding joined
joined_length zero [] = omega arith
joined_length (suc x) [] = omega arith
joined_length x (y ∷ r) = omega arith

pub trim-length : (r : List ℕ) → length (trim r) ≤ length r
unfolding trim
trim-length [] = omega arith
trim-length (x ∷ r) = omega (arith, joined_length x (trim r), trim-length r)

joined-ended : (x : ℕ) (r : List ℕ) → (r ≡ []) ⊎ Ended r → (joined x r ≡ []) ⊎ Ended (joined x r)
unfolding joined declared
joined-ended zero [] h = inl refl
joined-ended (suc x) [] h = inr (omega arith, omega arith)
joined-ended x (y ∷ r) (inl e) = let z : ◌≡◌ {A = ℕ} 0 1 = cc in absurd (omega arith)
joined-ended x (y ∷ r) (inr h) = inr (omega arith, h.1)

pub trim-ended : (r : List ℕ) → (trim r ≡ []) ⊎ Ended (trim r)
unfolding trim
trim-ended [] = inl refl
trim-ended (x ∷ r) = joined-ended x (trim r) (trim-ended r)

pub ended-trim : (r : List ℕ) → Ended r → trim r ≡ r
unfolding trim joined declared
ended-trim [] h = absurd (omega arith)
ended-trim (zero ∷ []) h = absurd (h.1 refl)
ended-trim (suc x ∷ []) h = refl
ended-trim (x ∷ y ∷ r) h = ap (joined x) (ended-trim (y ∷ r) (omega arith, h.1))

pub declared-length : (r : List ℕ) → 0 < length r → suc (declared r) ≡ length r
unfolding declared
declared-length [] h = absurd (omega arith)
declared-length (x ∷ r) h = refl

pub declared_same : (r s : List ℕ) → length r ≡ length s → declared r ≡ declared s
unfolding declared
declared_same [] [] e = refl
declared_same [] (y ∷ s) e = absurd (omega arith)
declared_same (x ∷ r) [] e = absurd (omega arith)
declared_same (x ∷ r) (y ∷ s) e = omega arith

pub declared_most : (r : List ℕ) → declared r ≤ length r
unfolding declared
declared_most [] = omega arith
declared_most (x ∷ r) = omega arith

pub declared_least : (r : List ℕ) → length r ≤ suc (declared r)
unfolding declared
declared_least [] = omega arith
declared_least (x ∷ r) = omega arith

-- of an ended row the true degree is the declared one, and the lead is the last entry
pub ended-degree : (r : List ℕ) → Ended r → degree r ≡ declared r
unfolding degree
ended-degree r h = ap declared (ended-trim r h)

pub ended-lead : (r : List ℕ) → Ended r → lead r ≡ get_or r (declared r) 0
unfolding lead
ended-lead r h = ap (λ (j : ℕ). get_or r j 0) (ended-degree r h)
