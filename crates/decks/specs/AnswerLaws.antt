-- The lines of an opening and of a read, from what the calls on a job hand back.
--
--   open_line_done        the line of an accepted opening
--   open_line_refused     and of a refused one
--   reading-room         a read into more entries than it writes answers as one into just as many
--   degree_read           the degree of what is read, or none of the zero polynomial
--   read_line_done        the line of a read that is done
--   read_line_wanting     and of one that wants more points
--   written-taken        the entries that a read wrote
use Rattle.std.specs.Prelude.{ℕ, ◌≤◌, ◌≡◌, Option, None, Some, take, drop}
use Rattle.std.proofs.Math.Bool.{true, false, cond}
use mathlib.Core.List.{List, [], ◌∷◌, ◌++◌}
use Rattle.std.proofs.Math.Path.{refl}
use Rattle.std.proofs.Common.{ap, le_refl, take_at}
use borrow.Author.Tests.{eq-eqb, ne_eqb, le-ltb}
use Rattle.scope.specs.Pair.{Pair, bound}
use Rattle.scope.specs.Point.{room}
use Rattle.scope.specs.Number.{read_number}
use Rattle.scope.specs.Degree.{tabulate-length}
use Rattle.job.specs.declared.Job.{Job}
use Rattle.job.specs.Job.{pair_of}
use Rattle.job.specs.Calls.{reading, wanted, written, degree_of, is_zero}
use Rattle.decks.specs.declared.Deck.{Deck}
use Rattle.lines.specs.Text.{line, decimal, spaced, open_word, read_word}
use Rattle.lines.specs.Line.{degree_text, read_text}
use Rattle.decks.specs.Deck.{opening, opened_job, open_line, degree_word, read_line}

pub open_line_done : (d : Deck) → opening d ≡ 0 → open_line d ≡ line open_word (0 ∷ bound (pair_of (opened_job d)) ∷ [])
unfolding open_line
open_line_done d e = rw (eq-eqb (opening d) 0 e) refl

pub open_line_refused : (d : Deck) → (opening d ≡ 0 → ⊥) → open_line d ≡ line open_word (opening d ∷ [])
unfolding open_line
open_line_refused d e = rw (ne_eqb (opening d) 0 e) refl

module _ (j : Job) where
  pub reading-room : (entries : ℕ) → room (pair_of j) ≤ entries → reading j entries ≡ reading j (room (pair_of j))
  unfolding reading read_number
  reading-room entries h = rw (le-ltb entries (room (pair_of j)) h, le-ltb (room (pair_of j)) (room (pair_of j)) (le_refl (room (pair_of j)))) refl

  -- the degree of what is read, or none of the zero polynomial
  unfoldable pub degree_read : Option ℕ
  degree_read = cond (is_zero (pair_of j)) None (Some (degree_of (pair_of j)))

  degree_words : degree_word j ≡ degree_text degree_read
  unfolding degree_word degree_read
  degree_words = elim (is_zero (pair_of j)) as (λ t. cond t (45 ∷ []) (decimal (degree_of (pair_of j))) ≡ degree_text (cond t None (Some (degree_of (pair_of j))))) [ true ↦ refl | false ↦ refl ]

  pub read_line_done : reading j (room (pair_of j)) ≡ 0 → read_line j ≡ read_text degree_read (written (pair_of j))
  unfolding read_line read_text
  read_line_done e =
      rw (eq-eqb (reading j (room (pair_of j))) 0 e)
      (ap (λ (l : List ℕ). read_word ++ (32 ∷ 48 ∷ 32 ∷ (l ++ (spaced (written (pair_of j)) ++ 10 ∷ [])))) degree_words)

  pub read_line_wanting : reading j (room (pair_of j)) ≡ 14 → read_line j ≡ line read_word (14 ∷ wanted j ∷ [])
  unfolding read_line
  read_line_wanting e = rw e refl

pub written-taken : (P : Pair) (out : List ℕ) → take (room P) (written P ++ drop (room P) out) ≡ written P
unfolding written
written-taken P out = take_at (written P) (drop (room P) out) (room P) (tabulate-length (room P) _)
