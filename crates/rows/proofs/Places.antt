-- The multiply-and-subtract, one place at a time.
--
--   less_none     nothing is taken away
--   less-read     a place past those of t holds what s has there
--   less-more     one place more
--   less_cut      the places from d on stay, where t has no more than d
use Rattle.std.proofs.Common.{ℕ, zero, suc, ◌+◌, ◌-◌, ◌*◌, ◌%◌, ◌<◌, ◌≤◌, List, [], ◌∷◌, ◌++◌, ◌≡◌, length, get_or, set, take, drop, refl, sym, ap, arith, add-one, take-append-drop}
use Rattle.euclid.specs.Division.{less}

module _ (p q : ℕ) where
  pub less_none : (s : List ℕ) → s ≡ less p q s []
  unfolding less
  less_none [] = refl
  less_none (x ∷ s) = refl

  pub less-read : (i : ℕ) (s t : List ℕ) → get_or (less p q s (take i t)) i 0 ≡ get_or s i 0
  unfolding less
  less-read zero s t = ap (λ (l : List ℕ). get_or l 0 0) (sym (less_none s))
  less-read (suc i) [] t = refl
  less-read (suc i) (x ∷ s) [] = refl
  less-read (suc i) (x ∷ s) (y ∷ t) = less-read i s t

  more : (i : ℕ) (s t : List ℕ) → i < length s → i < length t
      → set (less p q s (take i t)) i ((get_or s i 0 + (p - q * get_or t i 0 % p)) % p) ≡ less p q s (take (suc i) t)
  unfolding less
  more i [] t hs ht = absurd (omega arith)
  more i (x ∷ s) [] hs ht = absurd (omega arith)
  more zero (x ∷ s) (y ∷ t) hs ht = ap (λ (l : List ℕ). (x + (p - q * y % p)) % p ∷ l) (less_none s)
  more (suc i) (x ∷ s) (y ∷ t) hs ht =
      ap (λ (l : List ℕ). (x + (p - q * y % p)) % p ∷ l) (more i s t (omega arith) (omega arith))

  pub less-more : (s t : List ℕ) {part : List ℕ} {i x : ℕ} → part ≡ less p q s (take i t) → i < length s → i < length t
      → x ≡ (get_or part i 0 + (p - q * get_or t i 0 % p)) % p → set part i x ≡ less p q s (take (i + 1) t)
  less-more s t {part} {i} {x} is hs ht e = rw (add-one i, e, is, less-read i s t) (more i s t hs ht)

  pub less_cut : (d : ℕ) (s t : List ℕ) → length t ≤ d → less p q s t ≡ less p q (take d s) t ++ drop d s
  unfolding less
  less_cut zero s [] h = sym (less_none s)
  less_cut zero s (y ∷ t) h = absurd (omega arith)
  less_cut (suc d) [] t h = refl
  less_cut (suc d) (x ∷ s) [] h = ap (λ (l : List ℕ). x ∷ l) (sym (take-append-drop d s))
  less_cut (suc d) (x ∷ s) (y ∷ t) h = ap (λ (l : List ℕ). (x + (p - q * y % p)) % p ∷ l) (less_cut d s t (omega arith))
