-- What the strict opening finds on the way, and what follows for its number and its job.
--
--   refused-shape       a refusal before the points are counted
--   fresh               a job with no point kept
--   Found               both tables have passed all but the test for 8, are laid out, and have their true degrees
--   facts               what the tests before say of the tables as they came
--   table_of_a, table_of_b    each laid-out table with its true degree
--   refused-scarce      too few usable points: 8
--   accepted-number, accepted_job     enough of them: 0, and the job
--   strict_sound        a job that the strict opening leaves is sound
use Prim.Native.Nat.{ℕ, ◌+◌, ◌*◌, ◌≤◌}
use native.Mathlib.Omega.{arith}
use mathlib.Core.Bool.{Bool, true, false, cond, not}
use mathlib.Core.List.{List}
use mathlib.Core.Path.{◌≡◌, sym, ap, ap₂, ◌∙◌, subst}
use lib.Dec.{leb}
use lib.ListN.{length, replicate}
use borrow.Author.Tests.{eq-eqb}
use Rattle.scope.specs.Pair.{term, tables, largest, occurs, degree_a, degree_b, bound}
use Rattle.scope.specs.Point.{usables, needed, enough}
use Rattle.scope.specs.Number.{◌gives◌otherwise◌, scarce}
use Rattle.checks.specs.Refusal.{gives_true, gives_false, then_refused, then_done}
use Rattle.checks.specs.Shape.{shape_number, open-shape}
use Rattle.checks.specs.Facts.{ShapeFacts, shape-facts}
use Rattle.points.specs.Table.{IsTable, table_of}
use Rattle.job.specs.declared.Job.{Job}
use Rattle.job.specs.Job.{spread, opened, blank}
use Rattle.job.specs.Sound.{sound?}
use Rattle.job.specs.Standing.{Standing}
use Rattle.job.specs.SoundLaws.{standing_test}
use Rattle.job.specs.Public.{strict_number, strict_job}
use Rattle.job.specs.SamePair.{SamePair, same-degree_a, same-degree_b, same-enough}
use Rattle.job.specs.OpenLaws.{opened_standing, spread-length, spread-term, tables-same}

-- a refusal before the points are counted
pub refused-shape : (p m e n f : ℕ) (s t : List ℕ) {r : ℕ} → r ≡ shape_number p m e n f s t → 2 ≤ r → r ≡ strict_number p m e n f s t
unfolding strict_number
refused-shape p m e n f s t at some = at ∙ sym (open-shape p m e n f s t ∙ then_refused _ _ (omega arith))

abbrev pub fresh : (p m n da db : ℕ) (a b : List ℕ) → Job
fresh p m n da db a b =
    record {
      p = p;
      m = m;
      n = n;
      da = da;
      db = db;
      count = 0;
      a = a;
      b = b;
      points = replicate 513 0;
      values = replicate 513 0;
    }

pub record Found (p m e n f : ℕ) (s t a b : List ℕ) (da db : ℕ) : Type 0 where
  pub none : shape_number p m e n f s t ≡ 0
  pub laid_a : a ≡ spread e s
  pub laid_b : b ≡ spread f t
  pub real_a : da ≡ largest 16 (occurs m (term 16 a))
  pub real_b : db ≡ largest 16 (occurs n (term 16 b))

module _ {p m e n f : ℕ} {s t a b : List ℕ} {da db : ℕ} (h : Found p m e n f s t a b da db) where
  pub facts : ShapeFacts p m e n f s t
  facts = shape-facts p m e n f s t h.none

  pub table_of_a : IsTable m da a
  table_of_a = table_of m da a (ap length h.laid_a ∙ spread-length e s) facts.high_m h.real_a

  pub table_of_b : IsTable n db b
  table_of_b = table_of n db b (ap length h.laid_b ∙ spread-length f t) facts.high_n h.real_b

  same : SamePair (tables p m 16 n 16 a b) (tables p m e n f s t)
  same =
      tables-same p m n 16 e 16 f a s b t
      (λ i j. ap (λ (l : List ℕ). term 16 l i j) h.laid_a ∙ spread-term m e s facts.high_m facts.high_e facts.length_a i j)
      (λ i j. ap (λ (l : List ℕ). term 16 l i j) h.laid_b ∙ spread-term n f t facts.high_n facts.high_f facts.length_b i j)

  degree_of_a : da ≡ degree_a (tables p m e n f s t)
  unfolding degree_a tables
  degree_of_a = h.real_a ∙ same-degree_a _ _ same

  degree_of_b : db ≡ degree_b (tables p m e n f s t)
  unfolding degree_b tables
  degree_of_b = h.real_b ∙ same-degree_b _ _ same

  judged : strict_number p m e n f s t ≡ (scarce (tables p m e n f s t) gives 8 otherwise 0)
  unfolding strict_number
  judged = open-shape p m e n f s t ∙ then_done _ _ h.none

  -- the test for 8, made of the laid-out tables with D + 1 as w
  module _ (w : ℕ) {q : ℕ} {r : Bool} (modulus : q ≡ p) (wanted : w ≡ n * da + m * db + 1) (test : r ≡ leb w (length (usables (tables q m 16 n 16 a b) q))) where
    plenty : r ≡ enough (tables p m e n f s t)
    unfolding enough needed bound degree_a degree_b tables
    plenty =
        test
        ∙ ap (λ (k : ℕ). leb w (length (usables (tables k m 16 n 16 a b) k))) modulus
        ∙ ap (λ (d : ℕ). leb d (length (usables (tables p m 16 n 16 a b) p))) (wanted ∙ ap₂ (λ (x y : ℕ). n * x + m * y + 1) h.real_a h.real_b)
        ∙ same-enough _ _ same

    pub refused-scarce : r ≡ false → 8 ≡ strict_number p m e n f s t
    unfolding scarce
    refused-scarce few = sym (judged ∙ gives_true 8 0 (ap not (sym plenty ∙ few)))

    pub accepted-number : r ≡ true → 0 ≡ strict_number p m e n f s t
    unfolding scarce
    accepted-number many = sym (judged ∙ gives_false 8 0 (ap not (sym plenty ∙ many)))

    fresh_opened : fresh p m n da db a b ≡ opened p m e n f s t
    unfolding opened
    fresh_opened = λ i. fresh p m n (degree_of_a i) (degree_of_b i) (h.laid_a i) (h.laid_b i)

    pub accepted_job : r ≡ true → fresh p m n da db a b ≡ strict_job p m e n f s t
    unfolding strict_job
    accepted_job many =
        fresh_opened ∙ sym (ap (λ (b : Bool). cond b (opened p m e n f s t) blank) (eq-eqb (strict_number p m e n f s t) 0 (sym (accepted-number many))))

pub strict_sound : (p m e n f : ℕ) (s t : List ℕ) (j : Job) → 0 ≡ strict_number p m e n f s t → j ≡ strict_job p m e n f s t → sound? j ≡ true
unfolding strict_job
strict_sound p m e n f s t j none at =
    let opens : strict_job p m e n f s t ≡ opened p m e n f s t = ap (λ (b : Bool). cond b (opened p m e n f s t) blank) (eq-eqb (strict_number p m e n f s t) 0 (sym none)) in
    (standing_test _).1 (subst Standing (sym (at ∙ opens)) (opened_standing p m e n f s t (unfold strict_number in sym none)))
