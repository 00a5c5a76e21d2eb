-- Laws of residues and the numbers that they are.
--
--   modulus_pos     modulus p is p, where p is not 0
--   val_inj         residues with one number are one
--   res-val, val-res    there and back: x itself, and the remainder of n
--   res-..          the residue of a sum, a product, a difference, a remainder, 0, 1, p
--   val-..          the number of a sum, a product, a negative, 0, 1; it is below p
--   res_path, path-res  numbers have one residue where they have one remainder, and only there
--   val-res_small   a number below p is that of its residue
--   res_inj         numbers below p are told apart by their residues
--   res-nonzero     a number below p that is not 0 has a residue that is not 0
use Rattle.std.specs.Prelude.{ℕ, zero, suc, ◌+◌, ◌*◌, ◌-◌, ◌%◌, ◌≤◌, ◌<◌, ◌≢◌, ◌≡◌}
use Rattle.std.proofs.Common.{mod-eq_of_lt, sub-add_cancel, arith, ◌∙◌}
use Rattle.std.proofs.Math.Nat.{mod-mod, mod_self, add-mod, zero-mod}
use Rattle.std.proofs.Math.Path.{refl, sym, ap}
use Rattle.ring.specs.Ring.{Ring}
use Rattle.ring.specs.RingLaws.{neg_unique}
use Rattle.residue.specs.Remainder.{mul-mod}
use Rattle.residue.specs.Cut.{modulus, cut}
use Rattle.residue.specs.ResidueRing.{number_path, both}
use Rattle.residue.specs.Residue.{residues, val, res}

pub modulus_pos : {p : ℕ} → 0 < p → modulus p ≡ p
unfolding modulus
modulus_pos {p = zero} h = absurd (omega arith)
modulus_pos {p = suc q} h = refl

pub res_self : (p : ℕ) → res p p ≡ Ring.𝟘 (residues p)
unfolding residues res modulus
res_self zero = refl
res_self (suc q) = both (suc q) (suc q) 0 (mod_self (suc q) ∙ sym (zero-mod (suc q)))

module _ (p : ℕ) where
  open residues p use {C, ◌⊕◌, ◌⊗◌, ⊖◌, 𝟘, 𝟙}

  pub val_inj : (x y : C) → val p x ≡ val p y → x ≡ y
  unfolding residues val
  val_inj x y = number_path p x y

  pub res-val : (x : C) → res p (val p x) ≡ x
  unfolding residues val res cut
  res-val x = number_path p (cut p x.0) x (mod-eq_of_lt x.1)

  pub res-zero : res p 0 ≡ 𝟘
  unfolding residues res
  res-zero = refl

  pub res_one : res p 1 ≡ 𝟙
  unfolding residues res
  res_one = refl

  pub res-+ : (a b : ℕ) → res p (a + b) ≡ res p a ⊕ res p b
  unfolding residues res cut
  res-+ a b = both p _ _ (add-mod a b (modulus p))

  pub res-* : (a b : ℕ) → res p (a * b) ≡ res p a ⊗ res p b
  unfolding residues res cut
  res-* a b = both p _ _ (mul-mod a b (modulus p))

  -- the residue of p - b is the negative of b's
  pub res-neg : {b : ℕ} → b ≤ p → res p (p - b) ≡ ⊖ (res p b)
  res-neg {b} h = neg_unique (residues p) (res p (p - b)) (res p b) (sym (res-+ (p - b) b) ∙ ap (res p) (sub-add_cancel h) ∙ res_self p)

  pub res-sub : (a : ℕ) {b : ℕ} → b ≤ p → res p (a + (p - b)) ≡ res p a ⊕ (⊖ (res p b))
  res-sub a {b} h = res-+ a (p - b) ∙ ap (λ (t : C). res p a ⊕ t) (res-neg h)

  pub val-𝟘 : val p 𝟘 ≡ 0
  unfolding residues val cut
  val-𝟘 = zero-mod (modulus p)

module _ (p : ℕ) (pos : 0 < p) where
  open residues p use {C, ◌⊕◌, ◌⊗◌, ⊖◌, 𝟘, 𝟙}

  pub val-lt : (x : C) → val p x < p
  unfolding residues val
  val-lt x = rw (modulus_pos pos) at x.1

  pub val-res : (n : ℕ) → val p (res p n) ≡ n % p
  unfolding residues val res cut
  val-res n = rw (modulus_pos pos) refl

  -- numbers have one residue where they have one remainder, and only there
  pub res_path : (a b : ℕ) → a % p ≡ b % p → res p a ≡ res p b
  res_path a b e = val_inj p (res p a) (res p b) (val-res a ∙ e ∙ sym (val-res b))

  pub path-res : (a b : ℕ) → res p a ≡ res p b → a % p ≡ b % p
  path-res a b e = sym (val-res a) ∙ ap (val p) e ∙ val-res b

  pub res-mod : (n : ℕ) → res p (n % p) ≡ res p n
  res-mod n = res_path (n % p) n (mod-mod n p)

  pub val-⊕ : (x y : C) → val p (x ⊕ y) ≡ (val p x + val p y) % p
  unfolding residues val cut
  val-⊕ x y = rw (modulus_pos pos) refl

  pub val-⊗ : (x y : C) → val p (x ⊗ y) ≡ (val p x * val p y) % p
  unfolding residues val cut
  val-⊗ x y = rw (modulus_pos pos) refl

  pub val-⊖ : (x : C) → val p (⊖ x) ≡ (p - val p x) % p
  unfolding residues val cut
  val-⊖ x = rw (modulus_pos pos) refl

pub val-res_small : {p n : ℕ} → n < p → val p (res p n) ≡ n
val-res_small {p} {n} h = val-res p (omega arith) n ∙ mod-eq_of_lt h

-- numbers below p are told apart by their residues
pub res_inj : {p a b : ℕ} → a < p → b < p → res p a ≡ res p b → a ≡ b
res_inj {p} ha hb e = sym (val-res_small ha) ∙ ap (val p) e ∙ val-res_small hb

pub res-nonzero : {p a : ℕ} → 0 < a → a < p → res p a ≢ Ring.𝟘 (residues p)
res-nonzero {p} {a} pos less e = let none : a ≡ 0 = res_inj less (omega arith) (e ∙ sym (res-zero p)) in omega arith

pub val-𝟙 : (p : ℕ) → 1 < p → val p (Ring.𝟙 (residues p)) ≡ 1
val-𝟙 p h = ap (val p) (sym (res_one p)) ∙ val-res_small h

-- the ring computes on numbers
residue_examples : (val 7 (Ring.◌⊗◌ (residues 7) (res 7 3) (res 7 5)) ≡ 1) × (val 7 (Ring.⊖◌ (residues 7) (res 7 2)) ≡ 5) × (val 0 (res 0 9) ≡ 0)
unfolding residues val res
residue_examples = (refl, refl, refl)
