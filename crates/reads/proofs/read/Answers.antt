-- `reads::read`: by the two tests, and by what interpolation leaves in the front of the output.
use Rattle.std.proofs.Common.{rules, arith, ◌∙◌, ◌≡◌, length-take-le}
use Rattle.job.specs.SoundLaws.{standing_test}
use Rattle.reads.proofs.Reading.{read-early, read_short, read_complete}
use Rattle.reads.proofs.read.Goals as goal

pub returns-then-j-needed : goal.returns-then-j-needed
returns-then-j-needed c = read-early _ _ _ c.needed-needed.ensures c.if-j-needed.true

pub returns-then-out-room : goal.returns-then-out-room
returns-then-out-room c = read_short _ _ _ c.needed-needed.ensures c.if-j-needed.false (omega arith)

pub interpolate-requires-clause-full : goal.interpolate-requires-clause-full
interpolate-requires-clause-full c = omega (arith, c.needed-needed.ensures, ((standing_test _).0 c.args.j.now.sound).few)

pub interpolate-requires-clause-room : goal.interpolate-requires-clause-room
interpolate-requires-clause-room c =
    omega (arith, length-take-le _ _ c.if-out-room.false, c.needed-needed.ensures, ((standing_test _).0 c.args.j.now.sound).few)

pub returns : goal.returns
returns c =
    let same : c.map.result ≡ c.degree.result = search rules in
    read_complete _ ((standing_test _).0 c.args.j.now.sound) _ _ _ c.needed-needed.ensures c.if-j-needed.false c.if-out-room.false
    c.interpolate.ensures _ (same ∙ c.degree.ensures.value)
