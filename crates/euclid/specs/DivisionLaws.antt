-- Laws of division modulo a prime.
--
--   res-inverse                  modulo a prime, the inverse times the number is 𝟙
--   less-length, less-coef       what the multiply-and-subtract gives
--   less-below                   and that its entries are residues
--   rest-length, rest-coef       one turn: the row is its remainder plus the quotient's entry times the divisor
--   divide-length, divide-count  how long remainder and quotient are
--   divide-equation              dividend = remainder plus quotient times divisor
--   divide-below, divide-quotient-below   the entries of remainder and quotient are residues
--   division-right               remainder p a b and quotient p a b are a division of a by b
--   remainder-length             the remainder has as many entries as b's degree, or as a where a is shorter
--   remainder-below, quotient-below       their entries are residues
use Prim.Native.Nat.{ℕ, zero, suc, ◌+◌, ◌-◌, ◌*◌, ◌%◌, ◌<◌, ◌≤◌, min}
use Rattle.std.proofs.Math.Nat.{mod-lt}
use Rattle.std.proofs.Common.{le_of_lt, ◌∙◌, subst, take-append-drop, get_or-take, get_or-drop}
use native.Mathlib.Omega.{arith}
use Rattle.std.proofs.Math.Decide.{dec_lt, ℕ_discrete}
use mathlib.Core.List.{List, [], ◌∷◌, ◌++◌}
use Rattle.std.specs.Prelude.{◌≡◌, ◌≢◌, take, drop}
use Rattle.std.proofs.Math.Path.{refl, sym, ap}
use Rattle.std.proofs.Math.ListN.{length, get_or, length-take, length-drop}
use Rattle.ring.specs.Ring.{Ring}
use Rattle.ring.specs.RingLaws.{zero-⊕, ⊗-zero, neg-zero, neg-⊕}
use Rattle.ring.specs.Sum.{sum}
use Rattle.ring.specs.SumLaws.{sum-zero}
use Rattle.residue.specs.Prime.{Prime}
use Rattle.residue.specs.Residue.{residues, res}
use Rattle.residue.specs.ResidueLaws.{res-mod, res-sub, res-*, res-zero, res_one}
use Rattle.residue.specs.Inverse.{inverse}
use Rattle.residue.specs.InverseLaws.{inverse-right}
use Rattle.sylvester.specs.Sylvester.{moved}
use Rattle.euclid.specs.Row.{coef, declared}
use Rattle.euclid.specs.RowLaws.{Below, coef_out, coef-same, declared_most, declared_least}
use Rattle.euclid.specs.Division.{less, entry, rest, divide, remainder, quotient, IsDivision}

pub res-inverse : (p : ℕ) → 2 ≤ p → Prime p → (l : ℕ) → l % p ≢ 0
    → Ring.◌⊗◌ (residues p) (res p (inverse p l)) (res p l) ≡ Ring.𝟙 (residues p)
res-inverse p two prime l some =
    Ring.⊗_comm (residues p) (res p (inverse p l)) (res p l)
    ∙ sym (res-* p l (inverse p l))
    ∙ sym (res-mod p (omega arith) (l * inverse p l))
    ∙ ap (res p) (inverse-right two prime l some)
    ∙ res_one p

pub less-length : (p q : ℕ) (s t : List ℕ) → length (less p q s t) ≡ length s
unfolding less
less-length p q [] t = refl
less-length p q (x ∷ s) [] = refl
less-length p q (x ∷ s) (y ∷ t) = ap suc (less-length p q s t)

module _ (p : ℕ) (pos : 0 < p) where
  open residues p use {C, ◌⊕◌, ◌⊗◌, ⊖◌, ⊕-zero}

  -- x less q y, as residues
  pub less-entry : (q x y : ℕ) → res p ((x + (p - q * y % p)) % p) ≡ res p x ⊕ (⊖ (res p q ⊗ res p y))
  less-entry q x y =
      res-mod p pos (x + (p - q * y % p))
      ∙ res-sub p x (le_of_lt (mod-lt (q * y) pos))
      ∙ ap (λ (z : C). res p x ⊕ (⊖ z)) (res-mod p pos (q * y) ∙ res-* p q y)

  pub less-coef : (q : ℕ) (s t : List ℕ) (j : ℕ) → length s ≡ length t
      → coef p (less p q s t) j ≡ coef p s j ⊕ (⊖ (res p q ⊗ coef p t j))
  unfolding less coef
  less-coef q [] [] j e =
      sym (⊕-zero (res p 0))
      ∙ ap (λ (z : C). res p 0 ⊕ z)
      (sym (ap (λ (z : C). ⊖ (res p q ⊗ z)) (res-zero p) ∙ ap (λ (z : C). ⊖ z) (⊗-zero (residues p) (res p q)) ∙ neg-zero (residues p)))
  less-coef q [] (y ∷ t) j e = absurd (omega arith)
  less-coef q (x ∷ s) [] j e = absurd (omega arith)
  less-coef q (x ∷ s) (y ∷ t) zero e = less-entry q x y
  less-coef q (x ∷ s) (y ∷ t) (suc j) e = less-coef q s t j (omega arith)

  pub less-below : (q : ℕ) (s t : List ℕ) → length s ≡ length t → Below p (less p q s t)
  unfolding less
  less-below q [] t e j = pos
  less-below q (x ∷ s) [] e j = absurd (omega arith)
  less-below q (x ∷ s) (y ∷ t) e zero = mod-lt (x + (p - q * y % p)) pos
  less-below q (x ∷ s) (y ∷ t) e (suc j) = less-below q s t (omega arith) j

-- Lengths and bounds ask nothing of the divisor.
module _ (p : ℕ) (b : List ℕ) where
  pub rest-length : (s : List ℕ) → length s ≡ suc (declared b) → length (rest p b s) ≡ declared b
  unfolding rest
  rest-length s h =
      less-length p (entry p b s) (take (declared b) s) (take (declared b) b)
      ∙ length-take (declared b) s
      ∙ omega arith

  -- the row and the divisor, cut at the divisor's degree, are of one length
  rest-same : (s : List ℕ) → length s ≡ suc (declared b) → length (take (declared b) s) ≡ length (take (declared b) b)
  rest-same s h = omega (arith, length-take (declared b) s, length-take (declared b) b, declared_most b)

  pub rest_below : 0 < p → (s : List ℕ) → length s ≡ suc (declared b) → Below p (rest p b s)
  unfolding rest
  rest_below pos s h = less-below p pos (entry p b s) (take (declared b) s) (take (declared b) b) (rest-same s h)

  -- the quotient has as many entries as there were turns
  pub divide-count : (low up : List ℕ) → length (divide p b low up).1 ≡ length low
  unfolding divide
  divide-count [] up = refl
  divide-count (x ∷ low) up = ap suc (divide-count low up)

  pub divide-length : (low up : List ℕ) → (0 < length low → length up ≡ declared b) → length (divide p b low up).0 ≡ length up
  unfolding divide
  divide-length [] up fits = refl
  divide-length (x ∷ low) up fits =
      let e : length up ≡ declared b = fits (omega arith) in
      rest-length (x ∷ (divide p b low up).0) (ap suc (divide-length low up (λ _. e) ∙ e)) ∙ sym e

  pub divide-below : 0 < p → (low up : List ℕ) → (0 < length low → length up ≡ declared b) → Below p up → Below p (divide p b low up).0
  unfolding divide
  divide-below pos [] up fits h = h
  divide-below pos (x ∷ low) up fits h =
      let e : length up ≡ declared b = fits (omega arith) in
      rest_below pos (x ∷ (divide p b low up).0) (ap suc (divide-length low up (λ _. e) ∙ e))

  pub divide-quotient-below : 0 < p → (low up : List ℕ) → Below p (divide p b low up).1
  unfolding divide entry
  divide-quotient-below pos [] up j = pos
  divide-quotient-below pos (x ∷ low) up zero = mod-lt (get_or (x ∷ (divide p b low up).0) (declared b) 0 * inverse p (get_or b (declared b) 0)) pos
  divide-quotient-below pos (x ∷ low) up (suc j) = divide-quotient-below pos low up j

module _ (p : ℕ) (two : 2 ≤ p) (prime : Prime p) (b : List ℕ) (last : get_or b (declared b) 0 % p ≢ 0) where
  open residues p use {C, ◌⊕◌, ◌⊗◌, ⊖◌, ⊕_assoc, ⊕-zero, ⊗_assoc, ⊗-one}

  pos : 0 < p
  pos = omega arith

  -- the quotient's entry times the divisor's last is the dividend's
  entry-lead : (s : List ℕ) → res p (entry p b s) ⊗ coef p b (declared b) ≡ coef p s (declared b)
  unfolding entry coef
  entry-lead s =
      ap (λ (z : C). z ⊗ res p l) (res-mod p pos (x * inverse p l) ∙ res-* p x (inverse p l))
      ∙ ⊗_assoc (res p x) (res p (inverse p l)) (res p l)
      ∙ ap (λ (z : C). res p x ⊗ z) (res-inverse p two prime l last)
      ∙ ⊗-one (res p x)
    where
      l : ℕ
      l = get_or b (declared b) 0

      x : ℕ
      x = get_or s (declared b) 0

  pub rest-coef : (s : List ℕ) (j : ℕ) → length s ≡ suc (declared b)
      → coef p s j ≡ coef p (rest p b s) j ⊕ res p (entry p b s) ⊗ coef p b j
  unfolding rest
  rest-coef s j h = elim (dec_lt j (declared b)) [ yes l ↦ before l | no l ↦ after l ]
    where
      e : C
      e = res p (entry p b s)

      cut : (x y : C) → (x ⊕ (⊖ y)) ⊕ y ≡ x
      cut x y = ⊕_assoc x (⊖ y) y ∙ ap (λ (z : C). x ⊕ z) (neg-⊕ (residues p) y) ∙ ⊕-zero x

      before : j < declared b → coef p s j ≡ coef p (rest p b s) j ⊕ e ⊗ coef p b j
      before l =
          sym (ap (λ (z : C). z ⊕ e ⊗ coef p b j)
          (less-coef p pos (entry p b s) (take (declared b) s) (take (declared b) b) j (rest-same p b s h)
          ∙ ap (λ (z : C). z ⊕ (⊖ (e ⊗ coef p (take (declared b) b) j))) (taken s)
          ∙ ap (λ (z : C). coef p s j ⊕ (⊖ (e ⊗ z))) (taken b))
          ∙ cut (coef p s j) (e ⊗ coef p b j))
        where
          taken : (t : List ℕ) → coef p (take (declared b) t) j ≡ coef p t j
          taken t = coef-same p (take (declared b) t) t j j (get_or-take (declared b) t j 0 l)

      -- past the remainder
      gone : (j < declared b → ⊥) → coef p (rest p b s) j ⊕ e ⊗ coef p b j ≡ e ⊗ coef p b j
      gone l =
          ap (λ (z : C). z ⊕ e ⊗ coef p b j) (coef_out p (rest p b s) j (omega (arith, rest-length p b s h)))
          ∙ zero-⊕ (residues p) (e ⊗ coef p b j)

      after : (j < declared b → ⊥) → coef p s j ≡ coef p (rest p b s) j ⊕ e ⊗ coef p b j
      after l = at (ℕ_discrete (declared b) j) ∙ sym (gone l)
        where
          at : Dec (declared b ≡ j) → coef p s j ≡ e ⊗ coef p b j
          at (yes same) = subst (λ (j : ℕ). coef p s j ≡ e ⊗ coef p b j) same (sym (entry-lead s))
          at (no other) =
              coef_out p s j (omega arith)
              ∙ sym (ap (λ (z : C). e ⊗ z) (coef_out p b j (omega (arith, declared_least b))) ∙ ⊗-zero (residues p) e)

  pub divide-equation : (low up : List ℕ) (j : ℕ) → (0 < length low → length up ≡ declared b)
      → coef p (low ++ up) j
      ≡ coef p (divide p b low up).0 j ⊕ sum (residues p) (length low) (λ k. coef p (divide p b low up).1 k ⊗ moved (residues p) k (coef p b) j)
  unfolding divide sum coef moved
  divide-equation [] up j fits = sym (⊕-zero (coef p up j))
  divide-equation (x ∷ low) up j fits =
      let e : length up ≡ declared b = fits (omega arith) in
      turn j (ap suc (divide-length p b low up (λ _. e) ∙ e)) (λ j. divide-equation low up j (λ _. e))
    where
      r : List ℕ
      r = (divide p b low up).0

      q : List ℕ
      q = (divide p b low up).1

      s : List ℕ
      s = x ∷ r

      product : ℕ → C
      product j = sum (residues p) (length low) (λ k. coef p q k ⊗ moved (residues p) k (coef p b) j)

      here : ℕ → C
      here j = res p (entry p b s) ⊗ coef p b j

      -- the later entries move the divisor at least one place
      later : ℕ → C
      later j = sum (residues p) (length low) (λ k. coef p q k ⊗ moved (residues p) (suc k) (coef p b) j)

      turn : (j : ℕ) → length s ≡ suc (declared b) → ((j : ℕ) → coef p (low ++ up) j ≡ coef p r j ⊕ product j)
          → coef p (x ∷ low ++ up) j ≡ coef p (rest p b s) j ⊕ (here j ⊕ later j)
      turn zero e before =
          rest-coef s zero e
          ∙ ap (λ (z : C). coef p (rest p b s) zero ⊕ z)
          (sym (ap (λ (z : C). here zero ⊕ z) (sum-zero (residues p) (length low) _ (λ k _. ⊗-zero (residues p) (coef p q k))) ∙ ⊕-zero (here zero)))
      turn (suc j) e before =
          before j
          ∙ ap (λ (z : C). z ⊕ product j) (rest-coef s (suc j) e)
          ∙ ⊕_assoc (coef p (rest p b s) (suc j)) (here (suc j)) (product j)

module _ (p : ℕ) (a b : List ℕ) where
  open residues p use {C, ◌⊕◌, ◌⊗◌}

  -- where the work row is cut
  seam : ℕ
  seam = length a - declared b

  fits : 0 < length (take seam a) → length (drop seam a) ≡ declared b
  unfolding seam
  fits h = omega (arith, length-take seam a, length-drop seam a)

  pub quotient-length : length (quotient p a b) ≡ length a - declared b
  unfolding quotient seam
  quotient-length = divide-count p b (take seam a) (drop seam a) ∙ length-take seam a ∙ omega arith

  pub remainder-length : length (remainder p a b) ≡ min (length a) (declared b)
  unfolding remainder seam
  remainder-length = divide-length p b (take seam a) (drop seam a) fits ∙ length-drop seam a ∙ omega arith

  pub remainder-below : 0 < p → Below p a → Below p (remainder p a b)
  unfolding remainder seam
  remainder-below pos h =
      divide-below p b pos (take seam a) (drop seam a) fits (λ j. rw (get_or-drop seam a j 0) (h (seam + j)))

  pub quotient-below : 0 < p → Below p (quotient p a b)
  unfolding quotient
  quotient-below pos = divide-quotient-below p b pos (take (length a - declared b) a) (drop (length a - declared b) a)

  pub division-right : 2 ≤ p → Prime p → get_or b (declared b) 0 % p ≢ 0 → IsDivision p a b (quotient p a b) (remainder p a b)
  unfolding remainder quotient seam
  division-right two prime last =
      record {
        quotient-length = quotient-length;
        remainder-length = remainder-length ∙ omega (arith, quotient-length);
        equation = equation;
      }
    where
      product : ℕ → ℕ → C
      product j n = sum (residues p) n (λ k. coef p (quotient p a b) k ⊗ moved (residues p) k (coef p b) j)

      equation : (j : ℕ) → coef p a j ≡ coef p (remainder p a b) j ⊕ product j (length (quotient p a b))
      equation j =
          ap (λ (l : List ℕ). coef p l j) (sym (take-append-drop seam a))
          ∙ divide-equation p two prime b last (take seam a) (drop seam a) j fits
          ∙ ap (λ (n : ℕ). coef p (remainder p a b) j ⊕ product j n) (sym (divide-count p b (take seam a) (drop seam a)))
