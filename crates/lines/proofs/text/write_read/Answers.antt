-- `lines::text::write_read`: the word, the number 0 and the degree, the entries one by one, and the end.
use Rattle.std.proofs.lemmas.Str.{encode_ascii}
use Rattle.std.proofs.Common.{rules, arith, ap, ◌∙◌, ◌∷◌, [], ◌++◌, ◌≡◌, length}
use mathlib.Core.List.{List}
use Prim.Native.Nat.{ℕ}
use Rattle.lines.specs.Text.{decimal, spaced}
use Rattle.lines.specs.TextLaws.{digits10}
use Rattle.lines.specs.Line.{degree_text, read_text}
use Rattle.lines.proofs.Rows.{row_none, row_more, row_room, row_end, row_width, row_short}
use Rattle.lines.proofs.text.write_read.Goals as goal

pub loop-c-init : goal.loop-c-init
loop-c-init g c = row_none _

pub push_spaced-requires : goal.push_spaced-requires
push_spaced-requires g c = (
  search rules,
  omega (
    arith,
    ap length c.clear.ensures,
    ap (λ (n : ℕ). length (decimal n)) c.from.ensures,
    row_room _ c.args.entries.now c.loop-c.c-index c.loop-c.invariant c.loop-c-test.true,
    row_short 10 c.args.entries.now (λ k. digits10 _ (c.type_inv.entries k).fits),
  ),
)

pub loop-c-preserved : goal.loop-c-preserved
loop-c-preserved g c = row_more _ c.args.entries.now c.loop-c.c-index c.loop-c.invariant c.loop-c-test.true (search rules)

pub push-requires : goal.push-requires
push-requires g c = (
  search rules,
  omega (
    arith,
    ap length (encode_ascii 10 (omega arith)),
    ap length c.clear.ensures,
    row_width _ c.args.entries.now c.loop-c.c-index c.loop-c.invariant c.loop-c-test.false,
    row_short 10 c.args.entries.now (λ k. digits10 _ (c.type_inv.entries k).fits),
  ),
)

pub returns : goal.returns
unfolding read_text
returns g c =
    let degree = degree_text c.args.degree in
    let word : List ℕ = 114 ∷ 101 ∷ 97 ∷ 100 ∷ 32 ∷ 48 ∷ 32 ∷ [] in
    let head : c.push_degree.new.out.bytes ≡ word ++ degree =
    c.push_degree.ensures.text ∙ ap (λ (l : List ℕ). l ++ degree) (c.push_str.ensures.bytes ∙ ap (λ (l : List ℕ). l ++ word) c.clear.ensures) in
    row_end _ c.args.entries.now c.loop-c.c-index c.loop-c.invariant c.loop-c-test.false (c.push.ensures.ascii (omega arith))
    ∙ ap (λ (l : List ℕ). l ++ (spaced c.args.entries.now ++ 10 ∷ [])) head
