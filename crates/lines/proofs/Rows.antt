-- Numbers after one another.
--
--   decimal-library      the library's decimal digits of a number are those of `Text`
--   row_none, row_more   what stands before a row, and after one number more of it
--   row_room             a row's first numbers and the next one take no more room than the row
--   row_end, row_width   what stands after a row and the end of its line, and how long the text before the end is
--   row_short            how long a row is at most, where each number of it has so many digits
use Rattle.std.specs.Prelude.{ℕ, zero, suc, ◌+◌, ◌*◌, ◌^◌, ◌≤◌, ◌<◌, List, [], ◌∷◌, ◌++◌, ◌≡◌, length, take, drop, get_or}
use Rattle.std.proofs.Common.{arith, sym, ap, ◌∙◌, add-one, append-nil, append_assoc, length-append, take-append-drop, take-suc, take_all}
use Rattle.std.specs.Fmt.{decimal as Fmt·decimal}
use Rattle.std.proofs.lemmas.Fmt.{PrependsLastDigit, decimal_from_prepends, length-decimal-le_succ}
use Rattle.lines.specs.Text.{digits, decimal, spaced}
use Rattle.lines.specs.TextLaws.{digits_last, digits_more, spaced-on, spaced-one}

pub decimal-library : (n : ℕ) → n < 2 ^ 64 → Fmt·decimal n ≡ decimal n
unfolding decimal
decimal-library n h =
    let own : PrependsLastDigit digits = record { one = digits_last; more = digits_more } in
    sym (append-nil (Fmt·decimal n)) ∙ sym (decimal_from_prepends digits own (suc n) n [] h (omega (arith, length-decimal-le_succ n h)))

pub row_none : (before : List ℕ) → before ≡ before ++ spaced []
unfolding spaced
row_none before = sym (append-nil before)

module _ (before row : List ℕ) (i : ℕ) {out : List ℕ} (part : out ≡ before ++ spaced (take i row)) where
  spaced_more : i < length row → spaced (take (i + 1) row) ≡ spaced (take i row) ++ 32 ∷ decimal (get_or row i 0)
  spaced_more h =
      ap (λ (k : ℕ). spaced (take k row)) (add-one i)
      ∙ ap spaced (take-suc row i 0 h)
      ∙ spaced-on (take i row) (get_or row i 0 ∷ [])
      ∙ ap (λ (l : List ℕ). spaced (take i row) ++ l) (spaced-one (get_or row i 0))

  pub row_more : i < length row → {after : List ℕ} → after ≡ out ++ 32 ∷ decimal (get_or row i 0) → after ≡ before ++ spaced (take (i + 1) row)
  row_more h e =
      e
      ∙ ap (λ (l : List ℕ). l ++ 32 ∷ decimal (get_or row i 0)) part
      ∙ append_assoc before (spaced (take i row)) (32 ∷ decimal (get_or row i 0))
      ∙ ap (λ (l : List ℕ). before ++ l) (sym (spaced_more h))

  pub row_room : i < length row → length out + length (decimal (get_or row i 0)) < length before + length (spaced row)
  row_room h =
      let whole : spaced (take (i + 1) row) ++ spaced (drop (i + 1) row) ≡ spaced row =
      sym (spaced-on (take (i + 1) row) (drop (i + 1) row)) ∙ ap spaced (take-append-drop (i + 1) row) in
      omega (
        arith,
        ap length part,
        ap length whole,
        ap length (spaced_more h),
        length-append before (spaced (take i row)),
        length-append (spaced (take (i + 1) row)) (spaced (drop (i + 1) row)),
        length-append (spaced (take i row)) (32 ∷ decimal (get_or row i 0)),
      )

pub row_short : (d : ℕ) (row : List ℕ) → ((k : ℕ) → length (decimal (get_or row k 0)) ≤ d) → length (spaced row) ≤ (d + 1) * length row
unfolding spaced
row_short d [] h = omega arith
row_short d (n ∷ row) h = omega (arith, length-append (decimal n) (spaced row), h zero, row_short d row (λ k. h (suc k)))

-- a row, whole, and the end of its line
pub row_end : (before row : List ℕ) (i : ℕ) {out after : List ℕ} → out ≡ before ++ spaced (take i row) → length row ≤ i → after ≡ out ++ 10 ∷ []
    → after ≡ before ++ (spaced row ++ 10 ∷ [])
row_end before row i part whole e =
    e
    ∙ ap (λ (l : List ℕ). l ++ 10 ∷ []) (part ∙ ap (λ (l : List ℕ). before ++ spaced l) (take_all i row whole))
    ∙ append_assoc before (spaced row) (10 ∷ [])

pub row_width : (before row : List ℕ) (i : ℕ) {out : List ℕ} → out ≡ before ++ spaced (take i row) → length row ≤ i → length out ≡ length before + length (spaced row)
row_width before row i part whole =
    ap length (part ∙ ap (λ (l : List ℕ). before ++ spaced l) (take_all i row whole)) ∙ length-append before (spaced row)
