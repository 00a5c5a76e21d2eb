-- Remainders of sums, products and differences: a remainder taken early changes nothing.
--
--   mod-mul-mod     (n % m) * k and n * k have one remainder by m
--   mul-mod-mod     n * (k % m) and n * k have one remainder by m
--   mul-mod         the remainder of a product, from the remainders
use Rattle.std.specs.Prelude.{ℕ, ◌+◌, ◌*◌, ◌%◌, ◌/◌, ◌≡◌}
use Rattle.std.proofs.Math.Nat.{mod-add-div, add-mul-mod_self_left}
use Rattle.std.proofs.Common.{add-mul, mul_assoc, mul_comm, sym, ap, ◌∙◌}

pub mod-mul-mod : (n m k : ℕ) → (n % m * k) % m ≡ (n * k) % m
mod-mul-mod n m k =
    sym (add-mul-mod_self_left (n % m * k) m (n / m * k))
    ∙ ap (λ (t : ℕ). t % m) (ap (λ (t : ℕ). n % m * k + t) (sym (mul_assoc m (n / m) k)) ∙ sym (add-mul (n % m) (m * (n / m)) k) ∙ ap (λ (t : ℕ). t * k) (mod-add-div n m))

pub mul-mod-mod : (n m k : ℕ) → (n * (k % m)) % m ≡ (n * k) % m
mul-mod-mod n m k = ap (λ (t : ℕ). t % m) (mul_comm n (k % m)) ∙ mod-mul-mod k m n ∙ ap (λ (t : ℕ). t % m) (mul_comm k n)

pub mul-mod : (n k m : ℕ) → (n * k) % m ≡ (n % m * (k % m)) % m
mul-mod n k m = sym (mul-mod-mod (n % m) m k ∙ mod-mul-mod n m k)
