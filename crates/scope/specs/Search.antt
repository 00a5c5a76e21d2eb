-- Laws of `some` and `largest`: what a test that fails everywhere, or holds somewhere, says.
--
--   some_false, some_true     some n o is false: o fails below n; it is true: o holds at some k below n
--   none-some, one-some       the other way round
--   largest-bound             the largest is at most e
--   largest_most              no index above it passes
--   largest_here              where it is not 0, it passes itself
--   largest_is                it is the only such number
use Rattle.std.specs.Prelude.{ℕ, zero, suc, ◌<◌, ◌≤◌, Bool, true, false, cond, ◌||◌, ◌≡◌, refl}
use Rattle.std.proofs.Common.{arith, sym, ap, ◌∙◌}
use Rattle.std.proofs.Math.Decide.{ℕ_discrete, dec_lt}
use Rattle.scope.specs.Pair.{some, largest}

pub or_false : (a b : Bool) → (a || b) ≡ false → (a ≡ false) × (b ≡ false)
or_false true b e = let z : ◌≡◌ {A = ℕ} 0 1 = cc in absurd (omega arith)
or_false false b e = (refl, e)

pub some_false : (n : ℕ) (o : ℕ → Bool) → some n o ≡ false → (k : ℕ) → k < n → o k ≡ false
unfolding some
some_false zero o e k h = absurd (omega arith)
some_false (suc n) o e k h = elim (ℕ_discrete k n) [ yes q ↦ ap o q ∙ (or_false (o n) (some n o) e).0 | no q ↦ some_false n o (or_false (o n) (some n o) e).1 k (omega arith) ]

pub none-some : (n : ℕ) (o : ℕ → Bool) → ((k : ℕ) → k < n → o k ≡ false) → some n o ≡ false
unfolding some
none-some zero o h = refl
none-some (suc n) o h = rw (h n (omega arith)) (none-some n o (λ k l. h k (omega arith)))

pub some_true : (n : ℕ) (o : ℕ → Bool) → some n o ≡ true → (k : ℕ) × (k < n) × (o k ≡ true)
unfolding some
some_true zero o e = let z : ◌≡◌ {A = ℕ} 0 1 = cc in absurd (omega arith)
some_true (suc n) o e = go (o n) refl e (some_true n o)
  where
    go : (t : Bool) → o n ≡ t → (t || some n o) ≡ true → (some n o ≡ true → (k : ℕ) × (k < n) × (o k ≡ true))
        → (k : ℕ) × (k < suc n) × (o k ≡ true)
    go true q _ _ = (n, omega arith, q)
    go false q s ih = let (k, l, r) = ih s in (k, omega arith, r)

pub one-some : (n : ℕ) (o : ℕ → Bool) (k : ℕ) → k < n → o k ≡ true → some n o ≡ true
one-some n o k h e = go (some n o) refl
  where
    go : (t : Bool) → some n o ≡ t → t ≡ true
    go true q = refl
    go false q = sym (some_false n o q k h) ∙ e

pub largest-bound : (e : ℕ) (o : ℕ → Bool) → largest e o ≤ e
unfolding largest
largest-bound zero o = omega arith
largest-bound (suc e) o = go (o (suc e)) (largest-bound e o)
  where
    go : (t : Bool) → largest e o ≤ e → cond t (suc e) (largest e o) ≤ suc e
    go true h = omega arith
    go false h = omega arith

pub largest_most : (e : ℕ) (o : ℕ → Bool) (j : ℕ) → j ≤ e → largest e o < j → o j ≡ false
unfolding largest
largest_most zero o j h l = absurd (omega arith)
largest_most (suc e) o j h l = go (o (suc e)) refl l (largest_most e o j)
  where
    go : (t : Bool) → o (suc e) ≡ t → cond t (suc e) (largest e o) < j → (j ≤ e → largest e o < j → o j ≡ false) → o j ≡ false
    go true q l _ = absurd (omega arith)
    go false q l ih = elim (ℕ_discrete j (suc e)) [ yes s ↦ ap o s ∙ q | no s ↦ ih (omega arith) l ]

pub largest_here : (e : ℕ) (o : ℕ → Bool) → 0 < largest e o → o (largest e o) ≡ true
unfolding largest
largest_here zero o h = absurd (omega arith)
largest_here (suc e) o h = go (o (suc e)) refl h (largest_here e o)
  where
    go : (t : Bool) → o (suc e) ≡ t → 0 < cond t (suc e) (largest e o) → (0 < largest e o → o (largest e o) ≡ true)
        → o (cond t (suc e) (largest e o)) ≡ true
    go true q l _ = q
    go false q l ih = ih l

-- the number that no index above passes, and that is 0 or passes itself, is the largest
pub largest_is : (e : ℕ) (o : ℕ → Bool) (d : ℕ) → d ≤ e → ((j : ℕ) → j ≤ e → d < j → o j ≡ false) → (0 < d → o d ≡ true)
    → d ≡ largest e o
largest_is e o d b most here = elim (dec_lt d (largest e o)) [ yes l ↦ low l | no l ↦ high l ]
  where
    clash : {t : Bool} → t ≡ false → t ≡ true → d ≡ largest e o
    clash p q = let z : ◌≡◌ {A = ℕ} 0 1 = cc in absurd (omega arith)

    low : d < largest e o → d ≡ largest e o
    low l = clash (most (largest e o) (largest-bound e o) l) (largest_here e o (omega arith))

    high : (d < largest e o → ⊥) → d ≡ largest e o
    high l = elim (dec_lt (largest e o) d) [ yes g ↦ clash (largest_most e o d b g) (here (omega arith)) | no g ↦ omega arith ]
