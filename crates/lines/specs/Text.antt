-- Lines of text, as lists of bytes.
--
--   digits fuel n found     the decimal digits of n before those found, highest first, where the fuel is above n
--   decimal n               the decimal digits of n
--   spaced ns               each number after a space
--   open_word                the words that lines begin with: open,
--   point_word               point,
--   read_word                read,
--   deck_word                deck,
--   end_word                 end
--   line word ns            the word, the numbers each after a space, a newline
use Rattle.std.specs.Prelude.{ℕ, zero, suc, ◌+◌, ◌/◌, ◌%◌, cond, List, [], ◌∷◌, ◌++◌, ltb}

unfoldable pub digits : ℕ → ℕ → List ℕ → List ℕ
digits zero n found = found
digits (suc fuel) n found =
    let more = digits fuel (n / 10) ((48 + n % 10) ∷ found) in cond (ltb n 10) ((48 + n) ∷ found) more

unfoldable pub decimal : ℕ → List ℕ
decimal n = digits (suc n) n []

unfoldable pub spaced : List ℕ → List ℕ
spaced [] = []
spaced (n ∷ ns) = 32 ∷ (decimal n ++ spaced ns)

abbrev pub open_word : List ℕ
open_word = 111 ∷ 112 ∷ 101 ∷ 110 ∷ []

abbrev pub point_word : List ℕ
point_word = 112 ∷ 111 ∷ 105 ∷ 110 ∷ 116 ∷ []

abbrev pub read_word : List ℕ
read_word = 114 ∷ 101 ∷ 97 ∷ 100 ∷ []

abbrev pub deck_word : List ℕ
deck_word = 100 ∷ 101 ∷ 99 ∷ 107 ∷ []

abbrev pub end_word : List ℕ
end_word = 101 ∷ 110 ∷ 100 ∷ []

unfoldable pub line : List ℕ → List ℕ → List ℕ
line word ns = word ++ (spaced ns ++ 10 ∷ [])
