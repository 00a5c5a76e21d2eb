-- An opening at the declared degrees is answered as one at degree 16 in y, which reads the tables as a state keeps them.
--
--   tabled-term          the coefficients of a table
--   opening-front        the opening at degree 16 answers the deck's number and gives the deck's job
use Rattle.std.specs.Prelude.{ℕ, ◌+◌, ◌*◌, ◌/◌, ◌%◌, ◌≤◌, List, ◌≡◌, length}
use Rattle.std.proofs.Common.{mul-le-mul_right, mod-eq_of_lt, add-zero, arith, ap, ap₂, ◌∙◌}
use Rattle.std.proofs.Math.Nat.{mul-add-div_right, div-eq_of_lt, mul-add-mod_self_right}
use Rattle.std.proofs.Math.Decide.{dec_le}
use Rattle.std.proofs.Math.Path.{sym}
use Rattle.std.proofs.Math.Seq.{length-take-le, get_or-take}
use Rattle.scope.specs.Pair.{place, size, term}
use Rattle.scope.specs.Degree.{tabulate-length, tabulate-get_or}
use Rattle.scope.specs.TableLaws.{term_inside, term_high, term_out}
use Rattle.job.specs.Public.{strict_number, strict_job}
use Rattle.job.specs.Replay.{front}
use Rattle.job.specs.OpenDegrees.{SameTable, strict_degrees}
use Rattle.decks.specs.declared.Stage.{Stage}
use Rattle.decks.specs.declared.Deck.{Deck}
use Rattle.decks.specs.Deck.{tabled, table_a, table_b, opening, opened_job}
use Rattle.decks.specs.State.{Side, Fit}

tabled-length : (m e : ℕ) (A : ℕ → ℕ → ℕ) → length (tabled m e A) ≡ size m e
unfolding tabled
tabled-length m e A = tabulate-length (size m e) (λ k. A (k / (e + 1)) (k % (e + 1)))

pub tabled-term : (m e : ℕ) (A : ℕ → ℕ → ℕ) (i j : ℕ) → i ≤ m → j ≤ e → term e (tabled m e A) i j ≡ A i j
unfolding tabled place size
tabled-term m e A i j hi hj =
    term_inside e (tabled m e A) i j hj
    ∙ tabulate-get_or (size m e) (λ k. A (k / (e + 1)) (k % (e + 1))) (i * (e + 1) + j) (omega (arith, mul-le-mul_right {m = i + 1} {n = m + 1} (e + 1) (omega arith)))
    ∙ ap₂ A row column
  where
    row : (i * (e + 1) + j) / (e + 1) ≡ i
    row = mul-add-div_right {m = e + 1} (omega arith) i j ∙ ap (λ (k : ℕ). i + k) (div-eq_of_lt (omega arith)) ∙ add-zero i

    column : (i * (e + 1) + j) % (e + 1) ≡ j
    column = mul-add-mod_self_right i (e + 1) j ∙ mod-eq_of_lt (omega arith)

-- one polynomial at its declared degrees, and as the state keeps it
module _ {stage : Stage} {m e : ℕ} {a : List ℕ} (side : Side stage m e a) where
  front_length : length (front m a) ≡ size m 16
  unfolding size
  front_length = length-take-le ((m + 1) * 17) a (omega (arith, side.full, side.low_x))

  front-term : (i j : ℕ) → i ≤ m → j ≤ 16 → term 16 (front m a) i j ≡ term 16 a i j
  unfolding place
  front-term i j hi hj = term_inside 16 (front m a) i j hj ∙ get_or-take ((m + 1) * 17) a (i * 17 + j) 0 (omega arith) ∙ sym (term_inside 16 a i j hj)

  kept-term : (i j : ℕ) → i ≤ m → term 16 a i j ≡ term e (tabled m e (term 16 a)) i j
  kept-term i j hi =
      elim (dec_le j e) [
        | yes l ↦ sym (tabled-term m e (term 16 a) i j hi l)
        | no l ↦ side.level i j (omega arith) ∙ sym (term_high e (tabled m e (term 16 a)) i j (omega arith))
      ]

  row : (i j : ℕ) → i ≤ m → term 16 (front m a) i j ≡ term e (tabled m e (term 16 a)) i j
  row i j hi =
      elim (dec_le j 16) [
        | yes l ↦ front-term i j hi l ∙ kept-term i j hi
        | no l ↦ term_high 16 (front m a) i j (omega arith) ∙ sym (term_high 16 a i j (omega arith)) ∙ kept-term i j hi
      ]

  same_table : SameTable m 16 e (front m a) (tabled m e (term 16 a))
  same_table =
      record {
        low = omega arith;
        low' = side.low_y;
        fits = front_length;
        fits' = tabled-length m e (term 16 a);
        same = λ i j. elim (dec_le i m) [
          | yes l ↦ row i j l
          | no l ↦ term_out 16 (front m a) i j m front_length (omega arith) ∙ sym (term_out e (tabled m e (term 16 a)) i j m (tabled-length m e (term 16 a)) (omega arith))
        ];
      }

pub opening-front : (d : Deck) → Fit d
    → (strict_number d.p d.m 16 d.n 16 (front d.m d.a) (front d.n d.b) ≡ opening d)
    × (strict_job d.p d.m 16 d.n 16 (front d.m d.a) (front d.n d.b) ≡ opened_job d)
unfolding opening opened_job table_a table_b
opening-front d fit =
    strict_degrees d.p d.m d.n 16 d.e 16 d.f (front d.m d.a) (table_a d) (front d.n d.b) (table_b d)
    (same_table fit.side_a) (same_table fit.side_b)
