-- Whether every entry of a list is 0.
--
--   zeros_all    a test of each entry that says whether it is 0 says so of all
use Rattle.std.specs.Prelude.{ℕ, ◌&&◌, Bool, List, [], ◌∷◌, ◌≡◌, refl, eqb}
use Rattle.std.proofs.Common.{ap}
use Rattle.std.specs.List.{list_all}
use Rattle.job.specs.Sound.{zeros}

pub zeros_all : (r : List ℕ) → zeros r ≡ list_all (λ x. eqb x 0) r
unfolding zeros
zeros_all [] = refl
zeros_all (x ∷ r) = ap (λ (b : Bool). eqb x 0 && b) (zeros_all r)
