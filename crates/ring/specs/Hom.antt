-- Maps from one ring to another that respect the operations.
--
--   Hom R S h       h takes sums, products, negatives, zero and one of R to those of S
--   pow_hom         h takes powers to powers,
--   sign_hom        signs to signs,
--   sum_hom         sums to sums,
--   alt_hom         alternating sums to alternating sums,
--   det_hom         and determinants to determinants
use Prim.Native.Nat.{ℕ, zero, suc}
use Rattle.std.specs.Prelude.{◌≡◌}
use Rattle.std.proofs.Math.Path.{ap}
use Rattle.std.proofs.Common.{◌∙◌}
use Rattle.ring.specs.Ring.{Ring, pow, sign}
use Rattle.ring.specs.Sum.{sum, alt}
use Rattle.ring.specs.Alt.{alt_ext}
use Rattle.ring.specs.Det.{minor, det}

module _ (R S : Ring) where
  open R use {C, ◌⊕◌, ◌⊗◌, ⊖◌, 𝟘, 𝟙}
  open S use {C as D, ◌⊕◌ as ◌⊞◌, ◌⊗◌ as ◌⊠◌, ⊖◌ as ⊟◌, 𝟘 as 𝟘', 𝟙 as 𝟙'}

  infixl 60 ◌⊞◌
  infixl 70 ◌⊠◌
  infix 80 ⊟◌
  pub record Hom (h : C → D) : Type 0 where
    pub ⊕_hom : (x y : C) → h (x ⊕ y) ≡ h x ⊞ h y
    pub ⊗_hom : (x y : C) → h (x ⊗ y) ≡ h x ⊠ h y
    pub ⊖_hom : (x : C) → h (⊖ x) ≡ ⊟ h x
    pub 𝟘_hom : h 𝟘 ≡ 𝟘'
    pub 𝟙_hom : h 𝟙 ≡ 𝟙'

  module _ (h : C → D) (H : Hom h) where
    open H use {⊕_hom, ⊗_hom, ⊖_hom, 𝟘_hom, 𝟙_hom}

    pub pow_hom : (x : C) (n : ℕ) → h (pow R x n) ≡ pow S (h x) n
    unfolding pow
    pow_hom x zero = 𝟙_hom
    pow_hom x (suc n) = ⊗_hom x (pow R x n) ∙ ap (λ (t : D). h x ⊠ t) (pow_hom x n)

    pub sign_hom : (n : ℕ) → h (sign R n) ≡ sign S n
    unfolding sign
    sign_hom zero = 𝟙_hom
    sign_hom (suc n) = ⊖_hom (sign R n) ∙ ap (λ (t : D). ⊟ t) (sign_hom n)

    pub sum_hom : (n : ℕ) (f : ℕ → C) → h (sum R n f) ≡ sum S n (λ i. h (f i))
    unfolding sum
    sum_hom zero f = 𝟘_hom
    sum_hom (suc n) f = ⊕_hom (f zero) (sum R n (λ i. f (suc i))) ∙ ap (λ (t : D). h (f zero) ⊞ t) (sum_hom n (λ i. f (suc i)))

    pub alt_hom : (n : ℕ) (f : ℕ → C) → h (alt R n f) ≡ alt S n (λ i. h (f i))
    unfolding alt
    alt_hom zero f = 𝟘_hom
    alt_hom (suc n) f =
        ⊕_hom (f zero) (⊖ alt R n (λ i. f (suc i)))
        ∙ ap (λ (t : D). h (f zero) ⊞ t) (⊖_hom (alt R n (λ i. f (suc i))) ∙ ap (λ (t : D). ⊟ t) (alt_hom n (λ i. f (suc i))))

    pub det_hom : (n : ℕ) (A : ℕ → ℕ → C) → h (det R n A) ≡ det S n (λ i k. h (A i k))
    unfolding det
    det_hom zero A = 𝟙_hom
    det_hom (suc n) A =
        alt_hom (suc n) (λ j. A zero j ⊗ det R n (minor R A j))
        ∙ alt_ext S (suc n) _ _ (λ j l. ⊗_hom (A zero j) (det R n (minor R A j)) ∙ ap (λ (t : D). h (A zero j) ⊠ t) (det_hom n (minor R A j)))
