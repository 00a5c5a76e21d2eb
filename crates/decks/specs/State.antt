-- What every state of a run satisfies.
--
--   Early stage          the degrees are not declared yet
--   Side stage m e a     of one polynomial: its degrees are 16 at most and its table is full; before the degrees are
--                        declared no value is set, and none outside the declared degree in y
--   Fit d                both polynomials are so, and an open job is as a sound record is
--   fresh_fit            the state before the first record
--   opening_stands       the job that an accepted opening gives
--   with_job_fit         the state with another job
--   taken_fit            the state after a record that is not refused
use Rattle.std.specs.Prelude.{ℕ, ⊤, ◌≤◌, ◌<◌, Bool, true, false, cond, List, refl, eqb, length, get_or, set, replicate}
use Rattle.std.proofs.Math.Path.{◌≡◌}
use Rattle.std.proofs.Common.{sym, ◌∙◌, arith, length-set, get_or-set_other, eqb-true, eq-eqb}
use Rattle.std.proofs.Math.Decide.{dec_le}
use Rattle.std.proofs.lemmas.List.{length-replicate}
use Rattle.scope.specs.Pair.{place, term}
use Rattle.scope.specs.Number.{open_number}
use Rattle.scope.specs.TableLaws.{term_inside, term_high}
use Rattle.job.specs.declared.Job.{Job}
use Rattle.job.specs.Standing.{Standing}
use Rattle.job.specs.OpenLaws.{get_or-zeros, opened_standing}
use Rattle.job.specs.StandingLaws.{offered_standing}
use Rattle.job.specs.Public.{strict_number, strict_job}
use Rattle.decks.specs.declared.Stage.{Stage}
use Rattle.decks.specs.declared.Stage.TheVariants.{NoModulus, NoDegrees, Unopened, Opened}
use Rattle.decks.specs.declared.Deck.{Deck}
use Rattle.decks.specs.Deck.{byte, number4, fresh, astray, deck_number, table_a, table_b, opening, opened_job, with_modulus, with_degrees, with_place, with_job, taken}
use Rattle.decks.specs.Refusal.{Arrived, passed, Low, low_degrees, within_a, within_b, stage-modulus, stage_degrees, stage-place}

abbrev pub Early : Stage → Type 0
Early NoModulus = ⊤
Early NoDegrees = ⊤
Early Unopened = ⊥
Early Opened = ⊥

pub record Side (stage : Stage) (m e : ℕ) (a : List ℕ) : Type 0 where
  pub low_x : m ≤ 16
  pub low_y : e ≤ 16
  pub full : length a ≡ 289
  pub untouched : Early stage → (k : ℕ) → get_or a k 0 ≡ 0
  pub level : (i j : ℕ) → e < j → term 16 a i j ≡ 0

pub record Fit (d : Deck) : Type 0 where
  pub side_a : Side d.stage d.m d.e d.a
  pub side_b : Side d.stage d.n d.f d.b
  pub job_stands : d.stage ≡ Opened → Standing d.job

-- where no value is set there is no coefficient
zero-term : (a : List ℕ) → ((k : ℕ) → get_or a k 0 ≡ 0) → (i j : ℕ) → term 16 a i j ≡ 0
zero-term a h i j = elim (dec_le j 16) [ yes l ↦ term_inside 16 a i j l ∙ h (place 16 i j) | no l ↦ term_high 16 a i j (omega arith) ]

-- a value that is set changes no coefficient of another power of y
set-term : (a : List ℕ) (i j v x y : ℕ) → j < y → term 16 (set a (place 16 i j) v) x y ≡ term 16 a x y
unfolding place
set-term a i j v x y above =
    elim (dec_le y 16) [
      | yes l ↦ term_inside 16 (set a (place 16 i j) v) x y l ∙ get_or-set_other a (place 16 i j) (place 16 x y) v 0 (λ q. omega arith) ∙ sym (term_inside 16 a x y l)
      | no l ↦ term_high 16 (set a (place 16 i j) v) x y (omega arith) ∙ sym (term_high 16 a x y (omega arith))
    ]

fresh_side : Side NoModulus 0 0 (replicate 289 0)
fresh_side =
    record {
      low_x = omega arith;
      low_y = omega arith;
      full = length-replicate {A = ℕ} 289 0;
      untouched = λ _. get_or-zeros 289;
      level = λ i j _. zero-term (replicate 289 0) (get_or-zeros 289) i j;
    }

pub fresh_fit : Fit fresh
unfolding fresh
fresh_fit = record { side_a = fresh_side; side_b = fresh_side; job_stands = λ (h : ◌≡◌ {A = Stage} NoModulus Opened). cc }

module _ {stage : Stage} {m e : ℕ} {a : List ℕ} (side : Side stage m e a) where
  -- the values stay as they are, at another stage
  side_at : (next : Stage) → (Early next → Early stage) → Side next m e a
  side_at next early =
      record {
        low_x = side.low_x;
        low_y = side.low_y;
        full = side.full;
        untouched = λ h. side.untouched (early h);
        level = side.level;
      }

  -- degrees, before any value is set
  side_degrees : (x y : ℕ) → Early stage → x ≤ 16 → y ≤ 16 → Side Unopened x y a
  side_degrees x y early low_x low_y =
      record {
        low_x = low_x;
        low_y = low_y;
        full = side.full;
        untouched = λ h. absurd h;
        level = λ i j _. zero-term a (side.untouched early) i j;
      }

  -- a value within the declared degrees
  side-place : (i j v : ℕ) → stage ≡ Unopened → j ≤ e → Side stage m e (set a (place 16 i j) v)
  side-place i j v two within =
      record {
        low_x = side.low_x;
        low_y = side.low_y;
        full = length-set a (place 16 i j) v ∙ side.full;
        untouched = λ h. absurd (rw two at h);
        level = λ x y above. set-term a i j v x y (omega arith) ∙ side.level x y above;
      }

-- by cases on a test, with what the test says
by_cases : (Q : Deck → Type 0) (t : Bool) (x y : Deck) → (t ≡ true → Q x) → (t ≡ false → Q y) → Q (cond t x y)
by_cases Q true x y f g = f refl
by_cases Q false x y f g = g refl

pub opening_stands : (d : Deck) → opening d ≡ 0 → Standing (opened_job d)
unfolding opening opened_job strict_job strict_number
opening_stands d e =
    rw (eq-eqb (open_number d.p d.m d.e d.n d.f (table_a d) (table_b d)) 0 e)
    (opened_standing d.p d.m d.e d.n d.f (table_a d) (table_b d) e)

module _ (d : Deck) (fit : Fit d) where
  with-modulus_fit : (body : List ℕ) → d.stage ≡ NoModulus → Fit (with_modulus d body)
  unfolding with_modulus
  with-modulus_fit body stage =
      record {
        side_a = side_at fit.side_a NoDegrees (λ _. rw stage tt);
        side_b = side_at fit.side_b NoDegrees (λ _. rw stage tt);
        job_stands = λ (h : ◌≡◌ {A = Stage} NoDegrees Opened). cc;
      }

  with_degrees_fit : (body : List ℕ) → d.stage ≡ NoDegrees → Low body → Fit (with_degrees d body)
  unfolding with_degrees
  with_degrees_fit body stage low =
      record {
        side_a = side_degrees fit.side_a (byte body 0) (byte body 1) (rw stage tt) low.first low.second;
        side_b = side_degrees fit.side_b (byte body 2) (byte body 3) (rw stage tt) low.third low.fourth;
        job_stands = λ (h : ◌≡◌ {A = Stage} Unopened Opened). cc;
      }

  with-place_fit : (body : List ℕ) → d.stage ≡ Unopened → astray d body ≡ false → Fit (with_place d body)
  unfolding with_place
  with-place_fit body stage fine =
      by_cases Fit (eqb (byte body 0) 0) _ _
      (λ t. record {
        side_a = side-place fit.side_a (byte body 1) (byte body 2) (number4 body 3) stage (within_a d body fine t).1;
        side_b = fit.side_b;
        job_stands = fit.job_stands;
      })
      (λ t. record {
        side_a = fit.side_a;
        side_b = side-place fit.side_b (byte body 1) (byte body 2) (number4 body 3) stage (within_b d body fine t).1;
        job_stands = fit.job_stands;
      })

  pub with_job_fit : (stage : Stage) (j : Job) → (Early stage → Early d.stage) → (stage ≡ Opened → Standing j) → Fit (with_job d stage j)
  unfolding with_job
  with_job_fit stage j early h =
      record {
        side_a = side_at fit.side_a stage early;
        side_b = side_at fit.side_b stage early;
        job_stands = h;
      }

  pub taken_fit : (k : ℕ) (body : List ℕ) → deck_number d k body ≡ 0 → Fit (taken d k body)
  unfolding taken
  taken_fit k body e =
      by_cases Fit (eqb k 1) _ _ (λ one. with-modulus_fit body (stage-modulus d k body fine (eqb-true k 1 one))) λ _.
      by_cases Fit (eqb k 2) _ _
      (λ two. with_degrees_fit body (stage_degrees d k body fine (eqb-true k 2 two)) (low_degrees body (rw two at (passed d k body e).level))) λ _.
      by_cases Fit (eqb k 3) _ _
      (λ three. with-place_fit body (stage-place d k body fine (eqb-true k 3 three)) (rw three at (passed d k body e).placed)) λ _.
      by_cases Fit (eqb k 4) _ _
      (λ _. by_cases Fit (eqb (opening d) 0) _ _ (λ t. with_job_fit Opened _ (λ h. absurd h) (λ _. opening_stands d (eqb-true (opening d) 0 t))) (λ _. fit)) λ _.
      by_cases Fit (eqb k 5) _ _ (λ _. with_job_fit d.stage _ (λ h. h) (λ h. offered_standing d.job (fit.job_stands h) (number4 body 0))) (λ _. fit)
    where
      fine : Arrived d k body
      fine = (passed d k body e).arrived
