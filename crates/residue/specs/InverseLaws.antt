-- Laws of inverses: modulo a prime every residue not 0 has one, and no product of two residues not 0 is 0.
--
--   inverse-lt          an inverse is below p
--   inverse_found       any b < p with a*b = 1 modulo p shows that inverse p a is one
--   inverse-right       modulo a prime, a * inverse p a = 1 for every a that is not 0 modulo p
--   inverse_unique      any y < p with a*y = 1 modulo p is inverse p a
--   inv_right           modulo a prime, x times inv p x is 1 for every residue x that is not 0
--   domain              a product of residues that is 0 has a factor 0
use Prim.Native.Nat.{ℕ, zero, suc, ◌+◌, ◌*◌, ◌-◌, ◌%◌, ◌/◌, ◌≤◌, ◌<◌}
use Rattle.std.proofs.Math.Nat.{div-add-mod, add-mod_right, mul-add-mod_self_right}
use Rattle.std.proofs.Common.{div-le_self, sub-add_cancel, mul-add, mul_assoc, mul_comm, mul-one, one-mul, pos_of_ne-zero, le_of_lt, mod-lt, mod-eq_of_lt, arith, ◌∙◌}
use Rattle.std.proofs.Math.Decide.{ℕ_discrete, dec_le}
use Rattle.std.proofs.Math.Arith.{lt_of_le-ne}
use Rattle.std.specs.Prelude.{◌≡◌, refl, ◌≢◌}
use Rattle.std.proofs.Math.Path.{sym, ap}
use Rattle.ring.specs.RingLaws.{one-⊗, ⊗-zero}
use Rattle.residue.specs.Prime.{Prime}
use Rattle.residue.specs.PrimeLaws.{prime_no_divisor}
use Rattle.residue.specs.Remainder.{mod-mul-mod, mul-mod-mod}
use Rattle.residue.specs.Residue.{residues, val, res}
use Rattle.residue.specs.ResidueLaws.{val_inj, val-lt, res-val, res-*, res_one, res_path, val-𝟘}
use Rattle.residue.specs.Inverse.{choose, among, inverse, inv}

among-lt : (k y p a : ℕ) → 0 < p → k + y ≤ p → among k y p a < p
unfolding among choose
among-lt zero y p a pos fits = pos
among-lt (suc k) y p a pos fits = pick (ℕ_discrete ((a * y) % p) 1) (among-lt k (suc y) p a pos (omega arith))
  where
    pick : {A : Type 0} (t : Dec A) → among k (suc y) p a < p → choose t y (among k (suc y) p a) < p
    pick (yes _) later = omega arith
    pick (no _) later = later

among-right : (k y p a b : ℕ) → y ≤ b → b < k + y → (a * b) % p ≡ 1 → (a * among k y p a) % p ≡ 1
unfolding among choose
among-right zero y p a b from less e = absurd (omega arith)
among-right (suc k) y p a b from less e = pick (ℕ_discrete ((a * y) % p) 1) (λ (later : suc y ≤ b). among-right k (suc y) p a b later (omega arith) e)
  where
    pick : (t : Dec ((a * y) % p ≡ 1)) → (suc y ≤ b → (a * among k (suc y) p a) % p ≡ 1) → (a * choose t y (among k (suc y) p a)) % p ≡ 1
    pick (yes here) later = here
    pick (no f) later = later (lt_of_le-ne from (λ (same : y ≡ b). f (ap (λ (t : ℕ). (a * t) % p) same ∙ e)))

pub inverse-lt : {p : ℕ} → 0 < p → (a : ℕ) → inverse p a < p
unfolding inverse
inverse-lt {p} pos a = among-lt p 0 p a pos (omega arith)

-- an inverse below p shows that the search finds one
pub inverse_found : {p : ℕ} (a : ℕ) {b : ℕ} → b < p → (a * b) % p ≡ 1 → (a * inverse p a) % p ≡ 1
unfolding inverse
inverse_found {p} a {b} less e = among-right p 0 p a b (omega arith) (omega arith) e

-- p = q*a + r makes -q times an inverse of r one of a
step : (p a z : ℕ) → (p % a * z) % p ≡ 1 → (a * (((p - p / a) * z) % p)) % p ≡ 1
step p a z e =
    mul-mod-mod a p (s * z)
    ∙ ap (λ (t : ℕ). t % p) (sym (mul_assoc a s z))
    ∙ sym (mod-mul-mod (a * s) p z)
    ∙ ap (λ (t : ℕ). (t * z) % p) turn
    ∙ mod-mul-mod r p z
    ∙ e
  where
    q : ℕ
    q = p / a

    r : ℕ
    r = p % a

    s : ℕ
    s = p - q

    whole : s + q ≡ p
    whole = sub-add_cancel (div-le_self p a)

    turn : (a * s) % p ≡ r % p
    turn = sym (add-mod_right (a * s) p) ∙ ap (λ (t : ℕ). t % p) sums ∙ mul-add-mod_self_right a p r
      where
        sums : a * s + p ≡ a * p + r
        sums = omega (arith, div-add-mod p a, mul-add a s q, ap (λ (t : ℕ). a * t) whole)

-- what an inverse of a below p is
abbrev Inverted : ℕ → ℕ → Type 0
Inverted p a = (b : ℕ) × (b < p) × ((a * b) % p ≡ 1)

-- by induction on a bound of a, from the remainder of p by a to a
exists : (k : ℕ) {p a : ℕ} → 2 ≤ p → Prime p → 0 < a → a < p → a ≤ k → Inverted p a
exists zero two prime pos less small = absurd (omega arith)
exists (suc k) {p} {a} two prime pos less small =
    by-size (dec_le a 1) (λ more below. exists k two prime (pos_of_ne-zero (prime_no_divisor more less prime)) (omega arith) (omega arith)) (mod-lt p pos)
  where
    by-size : Dec (a ≤ 1) → (1 < a → p % a < a → Inverted p (p % a)) → p % a < a → Inverted p a
    by-size (yes one) rest below = (1, two, ap (λ (t : ℕ). t % p) (mul-one a) ∙ mod-eq_of_lt less ∙ omega arith)
    by-size (no more) rest below = let (z, _, e) = rest (omega arith) below in (((p - p / a) * z) % p, mod-lt ((p - p / a) * z) (omega arith), step p a z e)

-- modulo a prime there is one
pub inverse-right : {p : ℕ} → 2 ≤ p → Prime p → (a : ℕ) → a % p ≢ 0 → (a * inverse p a) % p ≡ 1
inverse-right {p} two prime a some =
    let (b, less, e) = exists p two prime (pos_of_ne-zero some) below (le_of_lt below) in
    inverse_found a less (sym (mod-mul-mod a p b) ∙ e)
  where
    below : a % p < p
    below = mod-lt a (omega arith)

-- there is no other
pub inverse_unique : {p : ℕ} (a : ℕ) {b : ℕ} → b < p → (a * b) % p ≡ 1 → b ≡ inverse p a
inverse_unique {p} a {b} less e =
    sym (mod-eq_of_lt less)
    ∙ ap (λ (t : ℕ). t % p) (sym (mul-one b))
    ∙ ap (λ (t : ℕ). (b * t) % p) (sym found)
    ∙ mul-mod-mod b p (a * i)
    ∙ ap (λ (t : ℕ). t % p) (sym (mul_assoc b a i) ∙ ap (λ (t : ℕ). t * i) (mul_comm b a))
    ∙ sym (mod-mul-mod (a * b) p i)
    ∙ ap (λ (t : ℕ). (t * i) % p) e
    ∙ ap (λ (t : ℕ). t % p) (one-mul i)
    ∙ mod-eq_of_lt (inverse-lt (omega arith) a)
  where
    i : ℕ
    i = inverse p a

    found : (a * i) % p ≡ 1
    found = inverse_found a less e

module _ (p : ℕ) where
  open residues p use {C, ◌⊗◌, 𝟘, 𝟙, ⊗_assoc, ⊗_comm, ⊗-one}

  module _ (two : 2 ≤ p) (prime : Prime p) where
    pub inv_right : (x : C) → x ≢ 𝟘 → x ⊗ inv p x ≡ 𝟙
    unfolding inv
    inv_right x some =
        ap (λ (t : C). t ⊗ res p i) (sym (res-val p x))
        ∙ sym (res-* p n i)
        ∙ res_path p (omega arith) (n * i) 1 (inverse-right two prime n (λ (e : n % p ≡ 0). some (val_inj p x 𝟘 (sym (mod-eq_of_lt below) ∙ e ∙ sym (val-𝟘 p)))) ∙ sym (mod-eq_of_lt two))
        ∙ res_one p
      where
        n : ℕ
        n = val p x

        i : ℕ
        i = inverse p n

        below : n < p
        below = val-lt p (omega arith) x

    pub domain : (x y : C) → x ⊗ y ≡ 𝟘 → x ≢ 𝟘 → y ≡ 𝟘
    domain x y product some =
        sym (one-⊗ (residues p) y)
        ∙ ap (λ (t : C). t ⊗ y) (sym (inv_right x some) ∙ ⊗_comm x (inv p x))
        ∙ ⊗_assoc (inv p x) x y
        ∙ ap (λ (t : C). inv p x ⊗ t) product
        ∙ ⊗-zero (residues p) (inv p x)

-- the search on numbers: 3 * 5 = 1 modulo 7, and 2 has no inverse modulo 4
inverse_examples : (inverse 7 3 ≡ 5) × (inverse 4 2 ≡ 0)
unfolding inverse
inverse_examples = (refl, refl)
