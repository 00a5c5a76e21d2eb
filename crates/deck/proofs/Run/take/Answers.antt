-- `deck::Run::take`: the kinds of arrival.
use Rattle.std.proofs.Common.{rules}
use Rattle.deck.specs.RunLaws.{takes_unread, takes_end, takes_whole, takes_cut}
use Rattle.deck.proofs.Run.take.Goals as goal

pub returns-in-Whole : goal.returns-in-Whole
returns-in-Whole c = takes_whole _ _ c.in-Whole.record _ _ _ c.step.ensures.steps c.step.ensures.offset _ c.in-Whole.is

pub returns-in-Cut-default-Ended : goal.returns-in-Cut-default-Ended
returns-in-Cut-default-Ended c =
    let step = c.step-in-Cut-default-Ended.ensures in
    takes_cut _ _ c.in-Cut-default-Ended.record _ _ _ step.steps step.offset c.args.arrival.now (search rules)

pub returns-in-Nothing-Ended : goal.returns-in-Nothing-Ended
returns-in-Nothing-Ended c = takes_end c.args.self.now c.args.arrival.now _ _ _ (search rules) (search rules) (search rules)

pub returns-in-Cut-default-Failed : goal.returns-in-Cut-default-Failed
returns-in-Cut-default-Failed c = takes_unread c.args.self.now c.args.arrival.now _ _ _ (search rules) (search rules) (search rules)

pub returns-in-Nothing-Failed : goal.returns-in-Nothing-Failed
returns-in-Nothing-Failed c = takes_unread c.args.self.now c.args.arrival.now _ _ _ (search rules) (search rules) (search rules)
