-- `opening::strict`: the record that is opened is sound.
use Rattle.opening.proofs.Judging.{strict_sound}
use Rattle.opening.proofs.strict.Goals as goal

pub invariant_of-result : goal.invariant_of-result
invariant_of-result c = record { sound = strict_sound _ _ _ _ _ _ _ _ c.in_ok-strict_in.ensures.number c.in_ok-strict_in.ensures.opened }
