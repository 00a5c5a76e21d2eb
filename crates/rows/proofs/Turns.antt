-- What one division adds to the answer of the sequence.
--
--   following_fuel          any bound that covers the row gives the same rows
--   Answer p rs u w v s place    v, s and place answer the sequence rs, where the work rows end as u and w
--   steps_most              rows of at most 17 entries take few steps
--   next_constant, monic_constant   after a constant nothing follows; made monic it is 1
--   by_last-zero, by_last-some        the formula by the degree of the last row
--   answer-last             the answer where the division leaves nothing
--   answer_more             the answer from that of b made monic and the next row
use Prim.Native.Nat.{ℕ, zero, suc, ◌+◌, ◌*◌, ◌-◌, ◌<◌, ◌≤◌}
use native.Mathlib.Omega.{arith}
use native.Mathlib.Nat.{add-zero, mul-le-mul}
use mathlib.Core.List.{List, [], ◌∷◌, ◌++◌, map}
use mathlib.Core.Logic.{◌≢◌}
use mathlib.Core.Path.{◌≡◌, refl, sym, ap, ap₂, subst, ◌∙◌}
use lib.ListN.{length, get_or, set}
use lib.Seq.{take_all}
use Rattle.ring.specs.Ring.{pow, sign}
use Rattle.residue.specs.Residue.{residues, res, val}
use Rattle.residue.specs.ResidueLaws.{res-val}
use Rattle.euclid.specs.Row.{declared, degree, lead}
use Rattle.euclid.specs.RowLaws.{trim-length, ended-degree, ended-lead}
use Rattle.euclid.specs.Division.{remainder, count}
use Rattle.euclid.specs.DivisionLaws.{remainder-length}
use Rattle.euclid.specs.Sequence.{monic, following, sequence, by_last, formula, steps}
use Rattle.euclid.specs.MonicLaws.{monic-length, monic-declared, monic-last}
use Rattle.euclid.specs.FollowingLaws.{Neighbours, next, following_none, following-some}
use Rattle.euclid.specs.StepsLaws.{steps-bound}
use Rattle.euclid.proofs.SequenceLaws.{formula_two, formula_step, formula_head}
use Rattle.field.specs.declared.Modulus.{Modulus}
use Rattle.rows.specs.declared.Place.{Place}
use Rattle.rows.specs.declared.Place.TheVariants.{Second}
use Rattle.rows.specs.Last.{last_row, swapped, Lies}
use Rattle.rows.proofs.Bounds.{declared-minus}
use Rattle.rows.proofs.Sides.{lies_swap, lies-front}

pub empty : (r : List ℕ) → length r ≤ 0 → r ≡ []
empty [] h = refl
empty (x ∷ r) h = absurd (omega arith)

-- the next row is shorter than the divisor
next-length : (p : ℕ) (a b : List ℕ) → length (next p a b) ≤ declared b
next-length p a b =
    omega (arith, trim-length (remainder p a (monic p b)), remainder-length p a (monic p b), monic-declared p b)

pub following_fuel : (p k l : ℕ) (a r : List ℕ) → length r ≤ k → length r ≤ l → following p k a r ≡ following p l a r
unfolding following declared
following_fuel p zero l a [] hk hl = sym (following_none p l a)
following_fuel p zero l a (x ∷ r) hk hl = absurd (omega arith)
following_fuel p (suc k) l a [] hk hl = sym (following_none p l a)
following_fuel p (suc k) zero a (x ∷ r) hk hl = absurd (omega arith)
following_fuel p (suc k) (suc l) a (x ∷ r) hk hl =
    let short : length (next p a (x ∷ r)) ≤ length r = next-length p a (x ∷ r) in
    ap (λ (rs : List (List ℕ)). (x ∷ r) ∷ rs)
    (following_fuel p k l (monic p (x ∷ r)) (next p a (x ∷ r)) (omega arith) (omega arith))

pub record Answer (p : ℕ) (rs : List (List ℕ)) (u w : List ℕ) (v s : ℕ) (place : Place) : Type 0 where
  pub value : v ≡ val p (formula p rs)
  pub steps : s ≡ steps (map degree rs)
  pub lies : Lies (monic p (last_row rs)) u w place

-- rows of at most 17 entries take few steps
pub steps_most : (p : Modulus) (a b : List ℕ) → Neighbours p.value a b → length a ≤ 17 → {s : ℕ} → s ≡ steps (map degree (sequence p.value a b)) → s ≤ 256
unfolding sequence
steps_most p a b n most e =
    omega (
      arith,
      e,
      steps-bound p.value p.least p.prime (length b) a b n (omega arith),
      mul-le-mul {n₁ = declared a} {m₁ = declared b} {n₂ = 16} {m₂ = 16} (omega (arith, declared-minus a)) (omega (arith, declared-minus a, n.order)),
    )

-- where b is a constant, its monic row is 1 and nothing follows
pub monic_constant : (p : Modulus) (a b : List ℕ) → Neighbours p.value a b → length b - 1 ≡ 0 → set b 0 1 ≡ monic p.value b
unfolding monic declared
monic_constant p a [] n e = absurd (omega (arith, n.second_ended.0))
monic_constant p a (x ∷ []) n e =
    ap (λ (y : ℕ). y ∷ []) (sym (monic-last p.value p.least p.prime (x ∷ []) n.second_ended n.second_below))
monic_constant p a (x ∷ y ∷ b) n e = absurd (omega arith)

pub next_constant : (p : ℕ) (a b : List ℕ) → length b - 1 ≡ 0 → next p a b ≡ []
next_constant p a b e = empty (next p a b) (omega (arith, next-length p a b, declared-minus b))

module _ (p : ℕ) where
  open residues p use {C, ◌⊗◌, 𝟘}

  -- which of the two factors the last degree lets stand
  pub by_last-zero : {j : ℕ} (x : C) → j ≡ 0 → by_last p j x ≡ x
  unfolding by_last
  by_last-zero x e = ap (λ (j : ℕ). by_last p j x) e

  pub by_last-some : (j : ℕ) (x : C) → j ≢ 0 → by_last p j x ≡ 𝟘
  unfolding by_last
  by_last-some zero x h = absurd (h refl)
  by_last-some (suc j) x h = refl

  -- b and all that follows it
  sequence_cons : (a b : List ℕ) → 0 < length b → sequence p a b ≡ a ∷ b ∷ following p (length (next p a b)) (monic p b) (next p a b)
  unfolding sequence following declared
  sequence_cons a [] some = absurd (omega arith)
  sequence_cons a (x ∷ b) some =
      ap (λ (rs : List (List ℕ)). a ∷ (x ∷ b) ∷ rs)
      (following_fuel p (length b) (length (next p a (x ∷ b))) (monic p (x ∷ b)) (next p a (x ∷ b)) (next-length p a (x ∷ b)) (omega arith))

  module _ (a b : List ℕ) (n : Neighbours p a b) where
    abbrev m : ℕ
    m = length a - 1

    abbrev k : ℕ
    k = length b - 1

    degree_first : degree a ≡ m
    degree_first = ended-degree a n.first_ended ∙ sym (declared-minus a)

    degree_second : degree b ≡ k
    degree_second = ended-degree b n.second_ended ∙ sym (declared-minus b)

    lead_is : lead b ≡ get_or b k 0
    lead_is = ended-lead b n.second_ended ∙ ap (λ (j : ℕ). get_or b j 0) (sym (declared-minus b))

    power_is : pow (residues p) (res p (lead b)) (degree a) ≡ pow (residues p) (res p (get_or b k 0)) m
    power_is = ap₂ (λ (x j : ℕ). pow (residues p) (res p x) j) lead_is degree_first

    steps_is : (degree a - degree b + 1) * degree b ≡ count (length a) (declared b)
    unfolding count
    steps_is =
        let e : degree a - degree b + 1 ≡ length a - declared b = omega (arith, degree_first, degree_second, declared-minus b, n.order, declared-minus a, n.first_ended.0) in
        ap₂ (λ (x y : ℕ). x * y) e (ended-degree b n.second_ended)

    -- the sequence ends with b
    module _ (e : next p a b ≡ []) where
      sequence-last : sequence p a b ≡ a ∷ b ∷ []
      sequence-last =
          sequence_cons a b n.second_ended.0
          ∙ ap (λ (rs : List (List ℕ)). a ∷ b ∷ rs)
          (ap (following p (length (next p a b)) (monic p b)) e ∙ following_none p (length (next p a b)) (monic p b))

      pub answer-last : {w : List ℕ} (u : List ℕ) {v s : ℕ} (len : ℕ) → v ≡ val p (by_last p k (pow (residues p) (res p (get_or b k 0)) m))
          → s ≡ count (length a) (declared b) → w ≡ monic p b → len ≡ length b → Answer p (sequence p a b) u w v s (Second len)
      unfolding steps last_row
      answer-last {w} u {v} {s} len ev es ew el =
          subst (λ (rs : List (List ℕ)). Answer p rs u w v s (Second len)) (sym sequence-last)
          record {
            value = ev ∙ ap (val p) (sym (formula_two p a b ∙ ap₂ (by_last p) degree_second power_is));
            steps = es ∙ sym (add-zero _ ∙ steps_is);
            lies =
                record {
                  within = omega (arith, ap length ew, monic-length p b);
                  is = take_all len w (omega (arith, ap length ew, monic-length p b)) ∙ ew;
                };
          }

    -- the sequence goes on
    module _ (more : Neighbours p (monic p b) (next p a b)) where
      abbrev d : List ℕ
      d = monic p b

      abbrev t : List ℕ
      t = next p a b

      rest : (rs : List (List ℕ)) × (following p (length t) d t ≡ t ∷ rs)
      rest = following-some p (length t) d t more.second_ended.0 (omega arith)

      sequence_more : sequence p a b ≡ a ∷ b ∷ t ∷ rest.0
      sequence_more = sequence_cons a b n.second_ended.0 ∙ ap (λ (rs : List (List ℕ)). a ∷ b ∷ rs) rest.1

      sequence-next : sequence p d t ≡ d ∷ t ∷ rest.0
      unfolding sequence
      sequence-next = ap (λ (rs : List (List ℕ)). d ∷ rs) rest.1

      same-degree : degree b ≡ degree d
      same-degree = ended-degree b n.second_ended ∙ sym (monic-declared p b) ∙ sym (ended-degree d more.first_ended)

      pub answer_more : {u w : List ℕ} (over : List ℕ) {v s x y : ℕ} {place after : Place} → Answer p (sequence p (monic p b) (next p a b)) u w x y place
          → v ≡ val p (pow (residues p) (res p (get_or b k 0)) m ⊗ (sign (residues p) (m * k) ⊗ res p x))
          → s ≡ count (length a) (declared b) → after ≡ swapped place → Answer p (sequence p a b) (w ++ over) u v (s + y) after
      unfolding steps last_row
      answer_more {u} {w} over {v} {s} {x} {y} {place} {after} inner ev es ea =
          subst (λ (rs : List (List ℕ)). Answer p rs (w ++ over) u v (s + y) after) (sym sequence_more)
          record {
            value = ev ∙ ap (val p) (sym value);
            steps =
                ap₂ (λ (i j : ℕ). i + j) (es ∙ sym steps_is) (known.steps ∙ ap (λ (j : ℕ). steps (j ∷ degree t ∷ map degree rest.0)) (sym same-degree));
            lies = lies-front over after (lies_swap ea known.lies);
          }
        where
          known : Answer p (d ∷ t ∷ rest.0) u w x y place
          known = subst (λ (rs : List (List ℕ)). Answer p rs u w x y place) sequence-next inner

          value : formula p (a ∷ b ∷ t ∷ rest.0) ≡ pow (residues p) (res p (get_or b k 0)) m ⊗ (sign (residues p) (m * k) ⊗ res p x)
          value =
              formula_step p a b t rest.0
              ∙ ap₂ ◌⊗◌ power_is (ap₂ ◌⊗◌ (ap₂ (λ (i j : ℕ). sign (residues p) (i * j)) degree_first degree_second) (formula_head p b d t rest.0 same-degree ∙ sym (ap (res p) known.value ∙ res-val p _)))
