-- The rows of a table of degree 16 in y, up to and with the leading one.
--
--   front_lead      they have the table's leading row
use Rattle.std.proofs.Common.{ℕ, ◌+◌, ◌*◌, not, List, ◌≡◌, sym, ap, ◌∙◌, arith, eqb, take, get_or-take}
use native.Mathlib.Decide.{dec_le}
use mathlib.Core.Path.{fun_ext}
use Rattle.scope.specs.Pair.{place, term, some}
use Rattle.scope.specs.Number.{no_lead}
use Rattle.scope.specs.TableLaws.{term_inside, term_high}

module _ (m : ℕ) (t : List ℕ) where
  front-term : (j : ℕ) → term 16 (take ((m + 1) * 17) t) m j ≡ term 16 t m j
  unfolding place
  front-term j =
      elim (dec_le j 16) [
        | yes l ↦ term_inside 16 (take ((m + 1) * 17) t) m j l
            ∙ get_or-take ((m + 1) * 17) t (m * 17 + j) 0 (omega arith)
            ∙ sym (term_inside 16 t m j l)
        | no l ↦ term_high 16 (take ((m + 1) * 17) t) m j (omega arith) ∙ sym (term_high 16 t m j (omega arith))
      ]

  pub front_lead : no_lead m 16 (take ((m + 1) * 17) t) ≡ no_lead m 16 t
  unfolding no_lead
  front_lead = ap (λ (o : ℕ → ℕ). not (some 17 (λ j. not (eqb (o j) 0)))) (fun_ext front-term)
