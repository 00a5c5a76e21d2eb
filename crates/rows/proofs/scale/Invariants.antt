-- `rows::scale`: the entries passed are multiplied.
use Rattle.std.proofs.Common.{◌≡◌, ◌++◌, map, ℕ, ◌*◌, ◌%◌, take, drop}
use Rattle.rows.proofs.scale.Given as goal

abbrev pub invariant-loop-x : goal.invariant-loop-x
invariant-loop-x l =
    l.r ≡ map (λ (x : ℕ). x * l.f % l.p.value) (take l.x-index l.initial.r) ++ drop l.x-index l.initial.r
