-- Decimal digits are the usual writing of a number.
--
--   denoted_after n s      the number whose digits are those of n and then the bytes of s
--   denoted s             the number whose digits are the bytes of s, highest first
--   decimal_denotes       the digits of n denote n
--   decimal_bytes         each of them is a byte from 48 to 57
--   decimal-zero          zero is one digit,
--   decimal-lead          and any other number begins with a digit that is not zero
use Rattle.std.specs.Prelude.{ℕ, zero, suc, ◌+◌, ◌*◌, ◌-◌, ◌/◌, ◌%◌, ◌≤◌, ◌<◌, List, [], ◌∷◌, ◌++◌, ◌≢◌, ◌≡◌, refl, length, get_or}
use Rattle.std.proofs.Common.{arith, ◌∙◌}
use Rattle.std.proofs.Math.Decide.{dec_lt}
use Rattle.lines.specs.Text.{decimal}
use Rattle.lines.specs.TextLaws.{decimal_digit, decimal_step}

unfoldable pub denoted_after : ℕ → List ℕ → ℕ
denoted_after n [] = n
denoted_after n (c ∷ s) = denoted_after (10 * n + (c - 48)) s

unfoldable pub denoted : List ℕ → ℕ
denoted s = denoted_after 0 s

denoted-last : (n : ℕ) (s : List ℕ) (c : ℕ) → denoted_after n (s ++ c ∷ []) ≡ 10 * denoted_after n s + (c - 48)
unfolding denoted_after
denoted-last n [] c = refl
denoted-last n (b ∷ s) c = denoted-last (10 * n + (b - 48)) s c

-- what holds of one digit, and of one more digit after others, holds of every number's digits
by_digits : (Q : ℕ → List ℕ → Type 0)
    → ((n : ℕ) → n < 10 → Q n ((48 + n) ∷ []))
    → ((n : ℕ) → 10 ≤ n → Q (n / 10) (decimal (n / 10)) → Q n (decimal (n / 10) ++ (48 + n % 10) ∷ []))
    → (n : ℕ) → Q n (decimal n)
by_digits Q one more n = go (suc n) n (omega arith)
  where
    go : (fuel n : ℕ) → n < fuel → Q n (decimal n)
    go zero n h = absurd (omega arith)
    go (suc fuel) n h =
        elim (dec_lt n 10) [
          | yes l ↦ rw (decimal_digit n l) (one n l)
          | no l ↦ rw (decimal_step n (omega arith)) (more n (omega arith) (go fuel (n / 10) (omega arith)))
        ]

pub decimal_denotes : (n : ℕ) → denoted (decimal n) ≡ n
unfolding denoted denoted_after
decimal_denotes =
    by_digits (λ n s. denoted_after 0 s ≡ n) (λ n h. omega arith)
    (λ n h e. denoted-last 0 (decimal (n / 10)) (48 + n % 10) ∙ omega arith)

-- every byte of a list is a digit
abbrev Written : List ℕ → Type 0
Written s = (k : ℕ) → k < length s → (48 ≤ get_or s k 0) × (get_or s k 0 ≤ 57)

written_on : (s : List ℕ) (c : ℕ) → 48 ≤ c → c ≤ 57 → Written s → Written (s ++ c ∷ [])
written_on [] c low high h zero l = (low, high)
written_on [] c low high h (suc k) l = absurd (omega arith)
written_on (b ∷ s) c low high h zero l = h zero (omega arith)
written_on (b ∷ s) c low high h (suc k) l = written_on s c low high (λ k l. h (suc k) (omega arith)) k (omega arith)

pub decimal_bytes : (n k : ℕ) → k < length (decimal n) → (48 ≤ get_or (decimal n) k 0) × (get_or (decimal n) k 0 ≤ 57)
decimal_bytes =
    by_digits (λ n s. Written s)
    (λ n h. written_on [] (48 + n) (omega arith) (omega arith) (λ k l. absurd (omega arith)))
    (λ n h w. written_on (decimal (n / 10)) (48 + n % 10) (omega arith) (omega arith) w)

pub decimal-zero : decimal 0 ≡ 48 ∷ []
decimal-zero = decimal_digit 0 (omega arith)

lead-on : (s : List ℕ) (c : ℕ) → get_or s 0 48 ≢ 48 → get_or (s ++ c ∷ []) 0 48 ≢ 48
lead-on [] c h = absurd (h refl)
lead-on (b ∷ s) c h = h

pub decimal-lead : (n : ℕ) → 0 < n → get_or (decimal n) 0 48 ≢ 48
decimal-lead =
    by_digits (λ n s. 0 < n → get_or s 0 48 ≢ 48) (λ n h pos e. omega arith)
    (λ n h lead pos. lead-on (decimal (n / 10)) (48 + n % 10) (lead (omega arith)))
