-- `sounding::sound_tables`: a table that passes has the degrees that it says, so the pair can be lent.
use Rattle.std.proofs.Common.{arith}
use Rattle.std.proofs.lemmas.Grind.{common_steps}
use Rattle.sounding.proofs.Record.{tables_opened}
use Rattle.sounding.proofs.sound_tables.Goals as goal

pub has_enough-requires : goal.has_enough-requires
has_enough-requires c = tables_opened _ (omega arith) (omega arith) c.requires (grind (arith, common_steps)) (grind (arith, common_steps))
