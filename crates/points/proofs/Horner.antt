-- Horner's rule on numbers: from the highest coefficient down, r becomes r * a + x modulo p.
--
--   horner          over a whole list, that is the value at a of the polynomial with these coefficients
--   value_front     the first coefficients stand in a front of the list
--   front-value     so the value of a front is that of as many coefficients
use Rattle.std.proofs.Common.{ℕ, suc, ◌+◌, ◌*◌, ◌%◌, ◌<◌, List, [], ◌∷◌, ◌≡◌, reverse, length, get_or, take, length-take-le, ◌≤◌, arith, sym, ap, ◌∙◌}
use Rattle.std.specs.List.{fold}
use Rattle.std.proofs.lemmas.List.Sums.{fold-append}
use Rattle.std.proofs.lemmas.List.{reverse-append, get_or-take}
use Rattle.ring.specs.Sum.{sum}
use Rattle.residue.specs.Residue.{residues, res, val}
use Rattle.residue.specs.ResidueLaws.{res-val, val-res, val-𝟘, res-+, res-*}
use Rattle.polynomial.specs.Value.{value}
use Rattle.polynomial.specs.ValueLaws.{value_step, value_ext}
use Rattle.points.specs.Step.{value_of}

module _ (p a : ℕ) (pos : 0 < p) where
  open residues p use {C, ◌⊕◌, ◌⊗◌, ⊕_comm, ⊗_comm}

  abbrev turn : ℕ → ℕ → ℕ
  turn r x = (r * a + x) % p

  -- one coefficient more, below the others
  lower : (x : ℕ) (l : List ℕ) → (value_of p (length l) l a * a + x) % p ≡ value_of p (suc (length l)) (x ∷ l) a
  unfolding value_of
  lower x l =
      sym (val-res p pos (val p v * a + x))
      ∙ ap (val p)
      (res-+ p (val p v * a) x
      ∙ ap (λ (t : C). t ⊕ res p x) (res-* p (val p v) a ∙ ap (λ (t : C). t ⊗ res p a) (res-val p v) ∙ ⊗_comm v (res p a))
      ∙ ⊕_comm (res p a ⊗ v) (res p x)
      ∙ sym (value_step (residues p) (length l) (λ j. res p (get_or (x ∷ l) j 0)) (res p a)))
    where
      v : C
      v = value (residues p) (length l) (λ j. res p (get_or l j 0)) (res p a)

  pub horner : (l : List ℕ) → fold turn 0 (reverse l) ≡ value_of p (length l) l a
  unfolding value_of value sum
  horner [] = sym (val-𝟘 p)
  horner (x ∷ l) =
      ap (fold turn 0) (reverse-append (x ∷ []) l)
      ∙ fold-append turn 0 (reverse l) (x ∷ [])
      ∙ ap (λ (r : ℕ). turn r x) (horner l)
      ∙ lower x l

pub value_front : (p x n k : ℕ) (l : List ℕ) → n ≤ k → value_of p n (take k l) x ≡ value_of p n l x
unfolding value_of
value_front p x n k l fits =
    ap (val p) (value_ext (residues p) n (λ j. res p (get_or (take k l) j 0)) (λ j. res p (get_or l j 0)) (res p x) (λ j b. ap (res p) (get_or-take k l j 0 (omega arith))))

pub front-value : (p x n : ℕ) (l : List ℕ) → n ≤ length l → {r : ℕ} → r ≡ value_of p (length (take n l)) (take n l) x → r ≡ value_of p n l x
front-value p x n l fits e = e ∙ ap (λ (k : ℕ). value_of p k (take n l) x) (length-take-le n l fits) ∙ value_front p x n n l (omega arith)
