-- Case K1: a deck and every byte that it prints, proved of the definition.
--
--   k1_deck      modulus 7, degrees 1 1 1 1, A = x + y, B = x + 6y, open, offer 0, read, offer 1, 1, 3, 5, read
--   k1_lines     open 0 2, point 0 0, read 14 2, point 1 0, point 1 12, point 3 0, point 5 1, read 0 1 0 5 0, end
--   k1_holds    the deck prints those lines
use Rattle.std.specs.Prelude.{ℕ, List, [], ◌∷◌, ◌≡◌, refl}
use Rattle.job.specs.Computing.{computing}
use Rattle.lines.specs.Text.{digits, decimal, spaced, line}
use Rattle.decks.specs.Deck.{known, body_length, byte, number4, fresh, in_order, astray, deck_number, tabled, table_a, table_b, opening, opened_job, with_modulus, with_degrees, with_place, with_job, taken, open_line, point_line, degree_word, read_line, line_of, stops, before, halted, from, deck}

abbrev pub k1_deck : List ℕ
k1_deck =
    1 ∷ 7 ∷ 0 ∷ 0 ∷ 0
    ∷ 2 ∷ 1 ∷ 1 ∷ 1 ∷ 1
    ∷ 3 ∷ 0 ∷ 1 ∷ 0 ∷ 1 ∷ 0 ∷ 0 ∷ 0
    ∷ 3 ∷ 0 ∷ 0 ∷ 1 ∷ 1 ∷ 0 ∷ 0 ∷ 0
    ∷ 3 ∷ 1 ∷ 1 ∷ 0 ∷ 1 ∷ 0 ∷ 0 ∷ 0
    ∷ 3 ∷ 1 ∷ 0 ∷ 1 ∷ 6 ∷ 0 ∷ 0 ∷ 0
    ∷ 4
    ∷ 5 ∷ 0 ∷ 0 ∷ 0 ∷ 0
    ∷ 6
    ∷ 5 ∷ 1 ∷ 0 ∷ 0 ∷ 0
    ∷ 5 ∷ 1 ∷ 0 ∷ 0 ∷ 0
    ∷ 5 ∷ 3 ∷ 0 ∷ 0 ∷ 0
    ∷ 5 ∷ 5 ∷ 0 ∷ 0 ∷ 0
    ∷ 6
    ∷ []

abbrev pub k1_lines : List ℕ
k1_lines =
    111 ∷ 112 ∷ 101 ∷ 110 ∷ 32 ∷ 48 ∷ 32 ∷ 50 ∷ 10
    ∷ 112 ∷ 111 ∷ 105 ∷ 110 ∷ 116 ∷ 32 ∷ 48 ∷ 32 ∷ 48 ∷ 10
    ∷ 114 ∷ 101 ∷ 97 ∷ 100 ∷ 32 ∷ 49 ∷ 52 ∷ 32 ∷ 50 ∷ 10
    ∷ 112 ∷ 111 ∷ 105 ∷ 110 ∷ 116 ∷ 32 ∷ 49 ∷ 32 ∷ 48 ∷ 10
    ∷ 112 ∷ 111 ∷ 105 ∷ 110 ∷ 116 ∷ 32 ∷ 49 ∷ 32 ∷ 49 ∷ 50 ∷ 10
    ∷ 112 ∷ 111 ∷ 105 ∷ 110 ∷ 116 ∷ 32 ∷ 51 ∷ 32 ∷ 48 ∷ 10
    ∷ 112 ∷ 111 ∷ 105 ∷ 110 ∷ 116 ∷ 32 ∷ 53 ∷ 32 ∷ 49 ∷ 10
    ∷ 114 ∷ 101 ∷ 97 ∷ 100 ∷ 32 ∷ 48 ∷ 32 ∷ 49 ∷ 32 ∷ 48 ∷ 32 ∷ 53 ∷ 32 ∷ 48 ∷ 10
    ∷ 101 ∷ 110 ∷ 100 ∷ 10
    ∷ []

pub k1_holds : (deck k1_deck).text ≡ k1_lines
unfolding computing digits decimal spaced line known body_length byte number4 fresh in_order astray deck_number tabled table_a table_b opening opened_job with_modulus with_degrees with_place with_job taken open_line point_line degree_word read_line line_of stops before halted from deck
k1_holds = refl
