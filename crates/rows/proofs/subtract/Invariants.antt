-- `rows::subtract`: the places passed are worked out.
use Rattle.std.proofs.Common.{◌≡◌, take}
use Rattle.euclid.specs.Division.{less}
use Rattle.rows.proofs.subtract.Given as goal

abbrev pub invariant-loop-i : goal.invariant-loop-i
invariant-loop-i l = l.part ≡ less l.p l.q l.initial.part (take l.i l.b)
