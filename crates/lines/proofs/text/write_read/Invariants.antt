-- `lines::text::write_read`: after i turns the first i entries stand after the degree.
use Rattle.std.proofs.Common.{◌≡◌, ◌++◌, take}
use Rattle.lines.specs.Text.{spaced}
use Rattle.lines.proofs.text.write_read.Given as goal

abbrev pub invariant-loop-c : goal.invariant-loop-c
invariant-loop-c g l = l.out.bytes ≡ l.initial.out.bytes ++ spaced (take l.c-index l.entries)
