-- `points::interpolate`: each turn takes in one point.
use native.Mathlib.Omega.{arith}
use mathlib.Core.List.{List}
use mathlib.Core.Path.{◌≡◌, refl, sym, ap, ◌∙◌}
use lib.ListN.{length}
use Rattle.std.proofs.Common.{ℕ, replicate}
use Rattle.std.proofs.lemmas.List.{length-replicate}
use Rattle.points.proofs.Newton.{reached_first, reached-small, reached-nonzero, reached-front, reached-next, reached-last}
use Rattle.points.proofs.interpolate.Goals as goal

-- `fill` keeps the length
filled : {l : List ℕ} {n : ℕ} → l ≡ replicate n 0 → length l ≡ n
filled {n = n} e = ap length e ∙ length-replicate {A = ℕ} n 0

pub loop-n-init : goal.loop-n-init
loop-n-init c =
    let zeros = c.fill.ensures.after (λ y e. e) in
    reached_first _ _ _ _ c.args.p.least (zeros ∙ ap (λ n. replicate n 0) (sym (filled zeros))) refl

pub loop-n-preserved : goal.loop-n-preserved
loop-n-preserved c =
    reached-next _ _ _ _ c.args.p.least c.loop-n.invariant (omega arith) (omega arith) c.next_point.ensures.out_after c.next_point.ensures.t_after

pub next_point-requires-clause-t_below : goal.next_point-requires-clause-t_below
next_point-requires-clause-t_below c = reached-small _ _ _ _ c.args.p.least c.loop-n.invariant _

pub next_point-requires-clause-t_nonzero : goal.next_point-requires-clause-t_nonzero
next_point-requires-clause-t_nonzero c =
    reached-front _ _ _ _ c.args.p.least c.loop-n.invariant (omega arith) (omega arith)
    (reached-nonzero _ _ _ _ c.args.p.least c.loop-n.invariant (omega arith) (omega arith) c.args.p.prime
    (rw (filled (c.fill.ensures.after (λ y e. e))) c.requires.different))

pub returns : goal.returns
returns c = rw (← filled (c.fill.ensures.after (λ y e. e))) (reached-last _ _ _ _ c.loop-n.invariant (omega arith))
