-- The operations on polynomials obey the laws of a ring.
--
--   plus_..         the laws of sums and negatives
--   times_..        the laws of products
use Rattle.std.specs.Prelude.{ℕ, ◌≡◌}
use Rattle.std.proofs.Math.Path.{fun_ext}
use Rattle.std.proofs.Common.{◌∙◌}
use Rattle.ring.specs.Ring.{Ring}
use Rattle.polynomial.specs.Convolution.{plus, minus, nil, conv, one}
use Rattle.polynomial.specs.ConvolutionLaws.{conv_comm, conv_assoc, one-conv, dist-conv}

module _ (R : Ring) where
  open R use {C, ⊕_assoc, ⊕_comm, ⊕-zero, ⊕-neg}

  pub plus_assoc : (f g h : ℕ → C) → plus R (plus R f g) h ≡ plus R f (plus R g h)
  unfolding plus
  plus_assoc f g h = fun_ext (λ k. ⊕_assoc (f k) (g k) (h k))

  pub plus_comm : (f g : ℕ → C) → plus R f g ≡ plus R g f
  unfolding plus
  plus_comm f g = fun_ext (λ k. ⊕_comm (f k) (g k))

  pub plus_nil : (f : ℕ → C) → plus R f (nil R) ≡ f
  unfolding plus nil
  plus_nil f = fun_ext (λ k. ⊕-zero (f k))

  pub plus-minus : (f : ℕ → C) → plus R f (minus R f) ≡ nil R
  unfolding plus minus nil
  plus-minus f = fun_ext (λ k. ⊕-neg (f k))

  pub times_assoc : (f g h : ℕ → C) → conv R (conv R f g) h ≡ conv R f (conv R g h)
  times_assoc f g h = fun_ext (conv_assoc R f g h)

  pub times_comm : (f g : ℕ → C) → conv R f g ≡ conv R g f
  times_comm f g = fun_ext (conv_comm R f g)

  pub times-one : (f : ℕ → C) → conv R f (one R) ≡ f
  times-one f = times_comm f (one R) ∙ fun_ext (one-conv R f)

  pub times_dist : (f g h : ℕ → C) → conv R f (plus R g h) ≡ plus R (conv R f g) (conv R f h)
  unfolding plus
  times_dist f g h = fun_ext (dist-conv R f g h)
