-- The lines of a deck.
--
--   degree_text degree           the degree in words: a dash for the zero polynomial, which has none
--   read_text degree entries     the line of a read that is done
--   line_text l                  any line
--   line_room l                  how many bytes it takes at most: 20 digits for a number, and 10 for an entry
use Rattle.std.specs.Prelude.{ℕ, ◌+◌, ◌*◌, Option, None, Some, List, [], ◌∷◌, ◌++◌, length}
use Rattle.lines.specs.Text.{decimal, spaced, line, open_word, point_word, read_word, deck_word, end_word}
use Rattle.lines.specs.declared.Line.{Line}
use Rattle.lines.specs.declared.Line.TheVariants.{End, Refused, Opened, Unopened, Point, Wanted, Read}

abbrev pub degree_text : Option ℕ → List ℕ
degree_text None = 45 ∷ []
degree_text (Some degree) = decimal degree

unfoldable pub read_text : Option ℕ → List ℕ → List ℕ
read_text degree entries = read_word ++ (32 ∷ 48 ∷ 32 ∷ (degree_text degree ++ (spaced entries ++ 10 ∷ [])))

abbrev pub line_text : Line → List ℕ
line_text End = line end_word []
line_text (Refused number offset) = line deck_word (number ∷ offset ∷ [])
line_text (Opened bound) = line open_word (0 ∷ bound ∷ [])
line_text (Unopened number) = line open_word (number ∷ [])
line_text (Point a number) = line point_word (a ∷ number ∷ [])
line_text (Wanted points) = line read_word (14 ∷ points ∷ [])
line_text (Read degree entries) = read_text degree entries.now

abbrev pub line_room : Line → ℕ
line_room (Read degree entries) = 64 + 11 * length entries.now
line_room _ = 64
