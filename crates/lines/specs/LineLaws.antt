-- Laws of the line of a read that is done.
--
--   read_head              its text before the degree
--   read_text_pieces       the line is its pieces, one after the other
--   degree_text-length     a degree takes 10 bytes at most
use Rattle.std.specs.Prelude.{ℕ, ◌≤◌, ◌<◌, ◌^◌, List, [], ◌∷◌, ◌++◌, Option, Some, None, IfSome, ◌≡◌, length}
use Rattle.std.proofs.Common.{append_assoc, ◌∙◌, arith}
use Rattle.lines.specs.Text.{spaced, read_word}
use Rattle.lines.specs.TextLaws.{digits10}
use Rattle.lines.specs.Line.{degree_text, read_text}

unfoldable pub read_head : List ℕ
read_head = read_word ++ (32 ∷ 48 ∷ 32 ∷ [])

pub read_text_pieces : (degree : Option ℕ) (entries : List ℕ) → ((read_head ++ degree_text degree) ++ spaced entries) ++ 10 ∷ [] ≡ read_text degree entries
unfolding read_head read_text
read_text_pieces degree entries =
    append_assoc (read_head ++ degree_text degree) (spaced entries) (10 ∷ [])
    ∙ append_assoc read_head (degree_text degree) (spaced entries ++ 10 ∷ [])

pub degree_text-length : (degree : Option ℕ) → IfSome degree (λ d. d < 2 ^ 32) → length (degree_text degree) ≤ 10
degree_text-length None h = omega arith
degree_text-length (Some d) h = digits10 d h
