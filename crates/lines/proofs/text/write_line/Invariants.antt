-- `lines::text::write_line`: after i turns the first i numbers stand after the word.
use Rattle.std.proofs.Common.{◌≡◌, ◌++◌, take}
use Rattle.lines.specs.Text.{spaced}
use Rattle.lines.proofs.text.write_line.Given as goal

abbrev pub invariant-loop-n : goal.invariant-loop-n
invariant-loop-n g l = l.out.bytes ≡ l.initial.out.bytes ++ spaced (take l.n-index l.numbers)
