-- `rows::turn`: a power, a sign and a product of residues.
use Rattle.std.proofs.Common.{ap₂, arith, ◌∙◌}
use native.Mathlib.Nat.{mod-lt}
use Rattle.ring.specs.Ring.{Ring}
use Rattle.residue.specs.Residue.{residues}
use Rattle.residue.specs.Computed.{product-res}
use Rattle.rows.proofs.Value.{val_is}
use Rattle.rows.proofs.turn.Goals as goal

pub returns : goal.returns
returns c =
    let p = c.args.p.value in
    val_is p (rw c.mul.ensures (mod-lt _ (omega (arith, c.args.p.least))))
    (product-res p (omega (arith, c.args.p.least)) _ _ c.mul.ensures
    ∙ ap₂ (Ring.◌⊗◌ (residues p)) c.power-high.ensures.1 c.signed.ensures.is)
