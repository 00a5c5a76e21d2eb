-- Laws of decimal digits and of lines.
--
--   decimal_digit            a number below ten is one digit
--   decimal_step             any other is the digits of its tenth part, and one more
--   decimal_digit-length     how many that makes: one,
--   decimal_step-length      and one more
--   digits20, digits10       20 at most for 64 bits, and 10 for 32
--   spaced-on                numbers after numbers
--   spaced-one               one number after a space
use Rattle.std.specs.Prelude.{ℕ, zero, suc, ◌+◌, ◌^◌, ◌/◌, ◌%◌, ◌≤◌, ◌<◌, List, [], ◌∷◌, ◌++◌, ◌⊎◌, ◌≡◌, refl, length}
use Rattle.std.proofs.Common.{append_assoc, append-nil, inl, inr, ⊎_elim, sym, ap, ◌∙◌, pow-suc, arith, lt-ltb, le-ltb, length-append}
use Rattle.std.proofs.Math.Decide.{dec_lt}
use Rattle.lines.specs.Text.{digits, decimal, spaced}

pub digits_last : (fuel n : ℕ) (found : List ℕ) → n < 10 → digits (suc fuel) n found ≡ (48 + n) ∷ found
unfolding digits
digits_last fuel n found h = rw (lt-ltb n 10 h) refl

pub digits_more : (fuel n : ℕ) (found : List ℕ) → 10 ≤ n → digits (suc fuel) n found ≡ digits fuel (n / 10) ((48 + n % 10) ∷ found)
unfolding digits
digits_more fuel n found h = rw (le-ltb n 10 h) refl

few : (n : ℕ) → (n < 10) ⊎ (10 ≤ n)
few n = elim (dec_lt n 10) [ yes h ↦ inl h | no h ↦ inr (omega arith) ]

-- the digits found before stand after those still to be found
digits_found : (fuel n : ℕ) (found : List ℕ) → digits fuel n found ≡ digits fuel n [] ++ found
unfolding digits
digits_found zero n found = refl
digits_found (suc fuel) n found =
    ⊎_elim
    (λ h. digits_last fuel n found h ∙ ap (λ (l : List ℕ). l ++ found) (sym (digits_last fuel n [] h)))
    (λ h.
    digits_more fuel n found h
    ∙ digits_found fuel (n / 10) ((48 + n % 10) ∷ found)
    ∙ sym (append_assoc (digits fuel (n / 10) []) ((48 + n % 10) ∷ []) found)
    ∙ ap (λ (l : List ℕ). l ++ found) (sym (digits_found fuel (n / 10) ((48 + n % 10) ∷ [])) ∙ sym (digits_more fuel n [] h)))
    (few n)

-- more fuel than is needed changes nothing
digits_fuel : (f g n : ℕ) (found : List ℕ) → n < f → n < g → digits f n found ≡ digits g n found
digits_fuel zero g n found a b = absurd (omega arith)
digits_fuel (suc f) zero n found a b = absurd (omega arith)
digits_fuel (suc f) (suc g) n found a b =
    ⊎_elim
    (λ l. digits_last f n found l ∙ sym (digits_last g n found l))
    (λ l.
    digits_more f n found l
    ∙ digits_fuel f g (n / 10) ((48 + n % 10) ∷ found) (omega arith) (omega arith)
    ∙ sym (digits_more g n found l))
    (few n)

pub decimal_digit : (n : ℕ) → n < 10 → decimal n ≡ (48 + n) ∷ []
unfolding decimal
decimal_digit n h = digits_last n n [] h

pub decimal_step : (n : ℕ) → 10 ≤ n → decimal n ≡ decimal (n / 10) ++ ((48 + n % 10) ∷ [])
unfolding decimal
decimal_step n h =
    digits_more n n [] h
    ∙ digits_found n (n / 10) ((48 + n % 10) ∷ [])
    ∙ ap (λ (l : List ℕ). l ++ ((48 + n % 10) ∷ [])) (digits_fuel n (suc (n / 10)) (n / 10) [] (omega arith) (omega arith))

pub decimal_digit-length : (n : ℕ) → n < 10 → length (decimal n) ≡ 1
decimal_digit-length n h = ap length (decimal_digit n h)

pub decimal_step-length : (n : ℕ) → 10 ≤ n → length (decimal n) ≡ length (decimal (n / 10)) + 1
decimal_step-length n h = ap length (decimal_step n h) ∙ length-append (decimal (n / 10)) ((48 + n % 10) ∷ [])

digits_width : (fuel k n : ℕ) (found : List ℕ) → n < 10 ^ suc k → length (digits fuel n found) ≤ suc k + length found
unfolding digits
digits_width zero k n found h = omega arith
digits_width (suc fuel) zero n found h = rw (digits_last fuel n found h) (omega arith)
digits_width (suc fuel) (suc k) n found h =
    ⊎_elim
    (λ l. rw (digits_last fuel n found l) (omega arith))
    (λ l. rw (digits_more fuel n found l) (omega (arith, digits_width fuel k (n / 10) ((48 + n % 10) ∷ found) (omega (arith, pow-suc 10 (suc k))))))
    (few n)

-- a number below 10^(k+1) has at most k + 1 digits
decimal_width : (k n : ℕ) → n < 10 ^ suc k → length (decimal n) ≤ suc k
unfolding decimal
decimal_width k n h = omega (arith, digits_width (suc n) k n [] h)

pub digits20 : (n : ℕ) → n < 2 ^ 64 → length (decimal n) ≤ 20
digits20 n h = decimal_width 19 n (omega arith)

pub digits10 : (n : ℕ) → n < 2 ^ 32 → length (decimal n) ≤ 10
digits10 n h = decimal_width 9 n (omega arith)

pub spaced-on : (ms ns : List ℕ) → spaced (ms ++ ns) ≡ spaced ms ++ spaced ns
unfolding spaced
spaced-on [] ns = refl
spaced-on (m ∷ ms) ns =
    ap (λ (l : List ℕ). 32 ∷ (decimal m ++ l)) (spaced-on ms ns)
    ∙ ap (λ (l : List ℕ). 32 ∷ l) (sym (append_assoc (decimal m) (spaced ms) (spaced ns)))

pub spaced-one : (n : ℕ) → spaced (n ∷ []) ≡ 32 ∷ decimal n
unfolding spaced
spaced-one n = ap (λ (l : List ℕ). 32 ∷ l) (append-nil (decimal n))
