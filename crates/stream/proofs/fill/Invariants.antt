-- `stream::fill`: each turn brings a byte or ends the loop, and the body holds what was read so far.
use Rattle.std.proofs.Common.{◌-◌, ◌≤◌, length, take}
use Rattle.std.specs.Io.KnownBytes.{Consumes}
use Rattle.stream.proofs.fill.Given as goal

abbrev pub invariant-loop-count : goal.invariant-loop-count
invariant-loop-count g l =
    record {
      few : l.count ≤ length l.body;
      bytes : Consumes (g.R.Read.remaining l.fn.input) (g.R.Read.remaining l.input) (take l.count l.body);
    }

abbrev pub decreases-loop-count : goal.decreases-loop-count
decreases-loop-count g l = length l.body - l.count
