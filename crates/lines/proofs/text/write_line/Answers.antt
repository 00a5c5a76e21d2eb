-- `lines::text::write_line`: the word, the numbers one by one, and the end.
use Rattle.std.proofs.lemmas.Str.{encode_ascii}
use Rattle.std.proofs.Common.{rules, arith, ap, ◌∙◌, ◌∷◌, [], ◌++◌, length}
use mathlib.Core.List.{List}
use Prim.Native.Nat.{ℕ}
use Rattle.lines.specs.Text.{spaced, line}
use Rattle.lines.specs.TextLaws.{digits20}
use Rattle.lines.proofs.Rows.{row_none, row_more, row_room, row_end, row_width, row_short}
use Rattle.lines.proofs.text.write_line.Goals as goal

pub loop-n-init : goal.loop-n-init
loop-n-init g c = row_none c.push_str.new.self.bytes

pub push_spaced-requires : goal.push_spaced-requires
push_spaced-requires g c = (
  search rules,
  omega (
    arith,
    ap length c.clear.ensures,
    row_room _ c.args.numbers.now c.loop-n.n-index c.loop-n.invariant c.loop-n-test.true,
    row_short 20 c.args.numbers.now (λ k. digits20 _ (c.type_inv.numbers k).fits),
  ),
)

pub loop-n-preserved : goal.loop-n-preserved
loop-n-preserved g c = row_more _ c.args.numbers.now c.loop-n.n-index c.loop-n.invariant c.loop-n-test.true c.push_spaced.ensures

pub push-requires : goal.push-requires
push-requires g c = (
  search rules,
  omega (
    arith,
    ap length (encode_ascii 10 (omega arith)),
    ap length c.clear.ensures,
    row_width _ c.args.numbers.now c.loop-n.n-index c.loop-n.invariant c.loop-n-test.false,
    row_short 20 c.args.numbers.now (λ k. digits20 _ (c.type_inv.numbers k).fits),
  ),
)

pub returns : goal.returns
unfolding line
returns g c =
    row_end _ c.args.numbers.now c.loop-n.n-index c.loop-n.invariant c.loop-n-test.false (c.push.ensures.ascii (omega arith))
    ∙ ap (λ (l : List ℕ). l ++ (spaced c.args.numbers.now ++ 10 ∷ []))
    (c.push_str.ensures.bytes ∙ ap (λ (l : List ℕ). l ++ c.args.word.now) c.clear.ensures)
