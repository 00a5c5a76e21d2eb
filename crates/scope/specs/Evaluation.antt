-- Sylvester's determinant over polynomials: its degree, and its value at a point, over any commutative ring.
--
--   row_bound n d e       d for each of the first n rows, e for the others
--   total-row_bound       added up over n + m rows: n d + m e
--   takes-resultant      coefficients of degree at most d and e in y: the determinant has degree at most n d + m e, and
--                        its value at a point is the determinant of the values there
use Prim.Native.Nat.{ℕ, zero, suc, ◌+◌, ◌*◌, ◌≤◌}
use Rattle.std.proofs.Common.{add_comm, zero-add, suc-add, zero-mul, suc-mul, arith, sym, ◌∙◌}
use Rattle.std.specs.Prelude.{◌≡◌, refl}
use Rattle.std.proofs.Math.Path.{ap, subst}
use Rattle.ring.specs.Ring.{Ring}
use Rattle.ring.specs.Matrix.{stack}
use Rattle.sylvester.specs.Sylvester.{top, moved, sylvester, resultant}
use Rattle.polynomial.specs.Poly.{poly}
use Rattle.polynomial.specs.Value.{Takes, total}
use Rattle.polynomial.specs.ValueLaws.{takes-𝟘, takes-det}

unfoldable pub row_bound : ℕ → ℕ → ℕ → ℕ → ℕ
row_bound zero d e i = e
row_bound (suc n) d e zero = d
row_bound (suc n) d e (suc i) = row_bound n d e i

total-same : (m e : ℕ) → total m (λ _. e) ≡ m * e
unfolding total
total-same zero e = rw zero-mul refl
total-same (suc m) e = rw suc-mul (let h : total m (λ _. e) ≡ m * e = total-same m e in omega arith)

pub total-row_bound : (m n d e : ℕ) → total (n + m) (row_bound n d e) ≡ n * d + m * e
unfolding total row_bound
total-row_bound m zero d e = rw (zero-add, zero-mul) (total-same m e ∙ sym (zero-add (m * e)))
total-row_bound m (suc n) d e =
    rw (suc-add, suc-mul) (let h : total (n + m) (row_bound n d e) ≡ n * d + m * e = total-row_bound m n d e in omega arith)

module _ (R : Ring) (x : Ring.C R) where
  open R use {C}

  takes-top : (d m : ℕ) (a : ℕ → ℕ → C) (v : ℕ → C) → ((j : ℕ) → j ≤ m → Takes R x d (a j) (v j))
      → (k : ℕ) → Takes R x d (top (poly R) m a k) (top R m v k)
  unfolding top
  takes-top d m a v h zero = h m (omega arith)
  takes-top d zero a v h (suc k) = takes-𝟘 R x d
  takes-top d (suc m) a v h (suc k) = takes-top d m a v (λ j l. h j (omega arith)) k

  takes_moved : (d i : ℕ) (r : ℕ → ℕ → C) (v : ℕ → C) → ((k : ℕ) → Takes R x d (r k) (v k))
      → (k : ℕ) → Takes R x d (moved (poly R) i r k) (moved R i v k)
  unfolding moved
  takes_moved d zero r v h k = h k
  takes_moved d (suc i) r v h zero = takes-𝟘 R x d
  takes_moved d (suc i) r v h (suc k) = takes_moved d i r v h k

  takes-stack : (n d e : ℕ) (f g : ℕ → ℕ → ℕ → C) (u v : ℕ → ℕ → C)
      → ((i k : ℕ) → Takes R x d (f i k) (u i k)) → ((i k : ℕ) → Takes R x e (g i k) (v i k))
      → (i k : ℕ) → Takes R x (row_bound n d e i) (stack n f g i k) (stack n u v i k)
  unfolding stack row_bound
  takes-stack zero d e f g u v hf hg i k = hg i k
  takes-stack (suc n) d e f g u v hf hg zero k = hf zero k
  takes-stack (suc n) d e f g u v hf hg (suc i) k =
      takes-stack n d e (λ i. f (suc i)) g (λ i. u (suc i)) v (λ i k. hf (suc i) k) hg i k

  pub takes-resultant : (m n d e : ℕ) (a b : ℕ → ℕ → C) (u v : ℕ → C)
      → ((i : ℕ) → i ≤ m → Takes R x d (a i) (u i)) → ((i : ℕ) → i ≤ n → Takes R x e (b i) (v i))
      → Takes R x (n * d + m * e) (resultant (poly R) m n a b) (resultant R m n u v)
  unfolding resultant sylvester
  takes-resultant m n d e a b u v ha hb =
      subst (λ (z : ℕ). Takes R x z (resultant (poly R) m n a b) (resultant R m n u v)) sizes
      (takes-det R x (m + n) (sylvester (poly R) m n a b) (sylvester R m n u v) (row_bound n d e)
      (λ i k _ _. takes-stack n d e
      (λ i. moved (poly R) i (top (poly R) m a)) (λ i. moved (poly R) i (top (poly R) n b))
      (λ i. moved R i (top R m u)) (λ i. moved R i (top R n v))
      (λ i k. takes_moved d i (top (poly R) m a) (top R m u) (takes-top d m a u ha) k)
      (λ i k. takes_moved e i (top (poly R) n b) (top R n v) (takes-top e n b v hb) k) i k))
    where
      sizes : total (m + n) (row_bound n d e) ≡ n * d + m * e
      sizes = ap (λ (z : ℕ). total z (row_bound n d e)) (add_comm m n) ∙ total-row_bound m n d e
