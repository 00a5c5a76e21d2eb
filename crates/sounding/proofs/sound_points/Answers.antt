-- `sounding::sound_points`: the pair can be lent, since it is sound; each test is made on the lent pair.
use Rattle.std.proofs.Common.{arith}
use Rattle.std.proofs.lemmas.Grind.{common_steps}
use Rattle.std.proofs.lemmas.Bool.Decides.{nat_tests}
use Rattle.sounding.proofs.Record.{pair_opened, lent_points}
use Rattle.sounding.proofs.sound_points.Goals as goal

pub lend-pair-requires : goal.lend-pair-requires
lend-pair-requires c = pair_opened _ (omega arith) (omega arith) c.requires

pub returns-then-zeros_from-2 : goal.returns-then-zeros_from-2
returns-then-zeros_from-2 c = grind (arith, common_steps, nat_tests, lent_points c.lend-pair.ensures (omega arith) (omega arith) c.requires)

pub returns-else-zeros_from-2 : goal.returns-else-zeros_from-2
returns-else-zeros_from-2 c = grind (arith, common_steps, nat_tests, lent_points c.lend-pair.ensures (omega arith) (omega arith) c.requires)
