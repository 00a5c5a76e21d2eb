-- Chains of refusals: how a number is read off `gives .. otherwise` and `then`.
--
--   gives_true, gives_false   a refusal that applies gives its number; one that does not is passed over
--   gives_cond                a refusal is a choice by its test
--   both_none                 a chain that ends in 0 passed both tests of its first refusal over, and its rest ends in 0
--   then_refused              a refusal is not changed by what is judged after it
--   then_cond                 so it is a choice by whether anything was refused
--   then_done                 where nothing was refused, what is judged after it decides
use Rattle.std.specs.Prelude.{ℕ, zero, suc, ◌<◌, Bool, true, false, cond, eqb, ◌||◌, ◌≡◌, refl}
use Rattle.std.proofs.Common.{arith, ap, ne_eqb}
use Rattle.scope.specs.Search.{or_false}
use Rattle.scope.specs.Number.{◌gives◌otherwise◌, ◌then◌}
use Rattle.scope.specs.TestLaws.{gives-zero}

pub gives_true : {t : Bool} (r s : ℕ) → t ≡ true → (t gives r otherwise s) ≡ r
unfolding ◌gives◌otherwise◌
gives_true r s e = ap (λ (b : Bool). b gives r otherwise s) e

pub gives_false : {t : Bool} (r s : ℕ) → t ≡ false → (t gives r otherwise s) ≡ s
unfolding ◌gives◌otherwise◌
gives_false r s e = ap (λ (b : Bool). b gives r otherwise s) e

pub gives_cond : (t : Bool) (r s : ℕ) → (t gives r otherwise s) ≡ cond t r s
unfolding ◌gives◌otherwise◌
gives_cond true r s = refl
gives_cond false r s = refl

pub both_none : (t u : Bool) (r s : ℕ) → 0 < r → ((t || u) gives r otherwise s) ≡ 0 → (t ≡ false) × (u ≡ false) × (s ≡ 0)
both_none t u r s h e = let (none, rest) = (gives-zero (t || u) r s h).0 e in ((or_false t u none).0, (or_false t u none).1, rest)

pub then_refused : (r s : ℕ) → 0 < r → (r then s) ≡ r
unfolding ◌then◌
then_refused zero s h = absurd (omega arith)
then_refused (suc r) s h = refl

pub then_cond : (r s : ℕ) → (r then s) ≡ cond (eqb r 0) s r
unfolding ◌then◌
then_cond zero s = refl
then_cond (suc r) s = rw (ne_eqb (suc r) 0 (omega arith)) refl

pub then_done : (r s : ℕ) → r ≡ 0 → (r then s) ≡ s
unfolding ◌then◌
then_done r s e = ap (λ (k : ℕ). k then s) e
