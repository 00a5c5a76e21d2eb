-- `deck::Run::step`: a record has 8 bytes at most.
use Rattle.std.proofs.Common.{arith}
use Rattle.decks.specs.StepLaws.{body_low}
use Rattle.deck.proofs.Run.step.Goals as goal

pub overflow_add-self : goal.overflow_add-self
overflow_add-self c = omega (arith, c.body_length.ensures, body_low c.args.part.now.kind)

pub overflow_add-self-2 : goal.overflow_add-self-2
overflow_add-self-2 c = omega (arith, c.body_length.ensures, body_low c.args.part.now.kind, c.requires)
