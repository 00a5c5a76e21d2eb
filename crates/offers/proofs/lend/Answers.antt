-- `offers::lend`: the tables of an opened record.
use Rattle.offers.proofs.Record.{table_of_a, table_of_b}
use Rattle.offers.proofs.lend.Goals as goal

pub invariant_of-result-2 : goal.invariant_of-result-2
invariant_of-result-2 c = record { fits = table_of_a _ c.requires }

pub invariant_of-result-3 : goal.invariant_of-result-3
invariant_of-result-3 c = record { fits = table_of_b _ c.requires }
