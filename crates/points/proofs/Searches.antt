-- The degree of a polynomial, by how many coefficients are left when the zeros at the end are cut off.
--
--   some-nonzero      f i is not 0, so some f k is not
--   none-nonzero      every f k is 0
--   trimmed_degree    the degree is one less than that; there is none where nothing is left
--   trimmed_bound     and it is a place of the list
use Rattle.std.proofs.Common.{ℕ, ◌+◌, ◌-◌, ◌<◌, ◌≤◌, Bool, true, false, cond, not, List, [], ◌≡◌, ◌≢◌, ◌⊎◌, inl, inr, Option, Some, None, refl, sym, ap, ◌∙◌, arith, eqb, length, get_or, eq-eqb, ne_eqb}
use Rattle.std.proofs.lemmas.Grind.{common_steps}
use Rattle.std.specs.Option.{IfSome}
use Rattle.euclid.specs.Row.{trim, declared}
use Rattle.euclid.specs.RowLaws.{Ended, trim-ended, trim-length, trim-get_or, declared-length}
use Rattle.scope.specs.Pair.{some, largest}
use Rattle.scope.specs.Search.{none-some, one-some, largest_is}

pub some-nonzero : (n : ℕ) (f : ℕ → ℕ) (i : ℕ) → i < n → f i ≢ 0 → some n (λ k. not (eqb (f k) 0)) ≡ true
some-nonzero n f i l h = one-some n (λ k. not (eqb (f k) 0)) i l (ap not (ne_eqb (f i) 0 h))

pub none-nonzero : (n : ℕ) (f : ℕ → ℕ) → ((k : ℕ) → k < n → f k ≡ 0) → some n (λ k. not (eqb (f k) 0)) ≡ false
none-nonzero n f h = none-some n (λ k. not (eqb (f k) 0)) (λ k l. ap not (eq-eqb (f k) 0 (h k l)))

module _ (l : List ℕ) where
  -- past what is left stand zeros
  past : (k : ℕ) → length (trim l) ≤ k → get_or l k 0 ≡ 0
  past k b = sym (trim-get_or l k) ∙ grind (arith, common_steps)

  -- and what is left ends with another number
  last : (i : ℕ) → length (trim l) ≡ i + 1 → get_or l i 0 ≢ 0
  last i e = by_end (trim-ended l)
    where
      by_end : (trim l ≡ []) ⊎ Ended (trim l) → get_or l i 0 ≢ 0
      by_end (inl none) = let n : length (trim l) ≡ 0 = ap length none in absurd (omega arith)
      by_end (inr (some, here)) =
          let place : declared (trim l) ≡ i = omega (arith, declared-length (trim l) some) in
          λ z. here (ap (λ (j : ℕ). get_or (trim l) j 0) place ∙ trim-get_or l i ∙ z)

  -- where one coefficient more is left than r says, or none is
  pub trimmed_bound : (r : Option ℕ) → ((i : ℕ) → r ≡ Some i → length (trim l) ≡ i + 1) → IfSome r (λ k. k < length l)
  trimmed_bound None found = tt
  trimmed_bound (Some i) found = omega (arith, found i refl, trim-length l)

  pub trimmed_degree : (r : Option ℕ) → (r ≡ None → length (trim l) ≡ 0) → ((i : ℕ) → r ≡ Some i → length (trim l) ≡ i + 1)
      → r ≡ cond (some (length l) (λ k. not (eqb (get_or l k 0) 0))) (Some (largest (length l - 1) (λ k. not (eqb (get_or l k 0) 0)))) None
  trimmed_degree None none found =
      ap (λ (b : Bool). cond b (Some (largest (length l - 1) (λ k. not (eqb (get_or l k 0) 0)))) None)
      (sym (none-nonzero (length l) (λ k. get_or l k 0) (λ k b. past k (omega (arith, none refl)))))
  trimmed_degree (Some i) none found =
      let inside : i < length l = omega (arith, found i refl, trim-length l) in
      let here : get_or l i 0 ≢ 0 = last i (found i refl) in
      ap Some (largest_is (length l - 1) (λ k. not (eqb (get_or l k 0) 0)) i (omega arith)
      (λ k b a. ap not (eq-eqb (get_or l k 0) 0 (past k (omega (arith, found i refl))))) (λ _. ap not (ne_eqb (get_or l i 0) 0 here)))
      ∙ ap (λ (b : Bool). cond b (Some (largest (length l - 1) (λ k. not (eqb (get_or l k 0) 0)))) None) (sym (some-nonzero (length l) (λ k. get_or l k 0) i inside here))
