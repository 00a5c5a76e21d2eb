-- A number looked for in a list.
--
--   among_any    a search that compares each entry with it finds it exactly where it is among them
use Rattle.std.specs.Prelude.{ℕ, ◌||◌, Bool, List, [], ◌∷◌, ◌≡◌, refl, eqb}
use Rattle.std.proofs.Common.{sym, ap₂}
use Rattle.std.proofs.Math.Decide.{ℕ_discrete}
use Rattle.std.specs.List.{list_any}
use Rattle.std.proofs.lemmas.Bool.{eq-eqb, ne_eqb}
use Rattle.scope.specs.Number.{among}

eqb_swapped : (a x : ℕ) → eqb a x ≡ eqb x a
eqb_swapped a x = elim (ℕ_discrete x a) [
  | yes e ↦ rw (eq-eqb x a e, eq-eqb a x (sym e)) refl
  | no d ↦ rw (ne_eqb x a d, ne_eqb a x (λ e. d (sym e))) refl
]

pub among_any : (a : ℕ) (s : List ℕ) → among a s ≡ list_any (λ y. eqb y a) s
unfolding among
among_any a [] = refl
among_any a (x ∷ s) = ap₂ (λ (t u : Bool). t || u) (eqb_swapped a x) (among_any a s)
