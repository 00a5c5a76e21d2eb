-- The cycle of calls {euclid}. The measure is the length of the divisor.
use Rattle.std.proofs.Common.{length}
use Rattle.rows.proofs.+euclid.Given as goal

abbrev pub decreases-euclid : goal.decreases-euclid
decreases-euclid l = length l.r.now
