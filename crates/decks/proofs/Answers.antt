-- The lines of an opening and of a read, from what the calls on a job hand back.
--
--   opens               what the opening of a state hands back
--   opening_refused     the step of a refused opening
--   opening_accepted    and of an accepted one
--   read_refused        the line of a read that wants more points
--   read_told           and of one that is done
use Prim.Native.Nat.{ℕ, ◌+◌}
use native.Mathlib.Omega.{arith}
use native.Mathlib.Nat.{le_refl}
use mathlib.Core.Bool.{Bool, true, false}
use mathlib.Core.List.{List, [], ◌∷◌}
use mathlib.Core.Path.{◌≡◌, refl, sym, ap, ◌∙◌}
use lib.Dec.{ltb, eqb}
use mathlib.Core.Bool.{cond}
use Rattle.std.proofs.Common.{◌<◌, Option, None, Some, Ok, Err, Result, IfOk, ◌*◌}
use Rattle.checks.specs.declared.Refusal.{Refusal}
use Rattle.checks.specs.Outcome.{outcome, wanted_of, number_of_bounds}
use Rattle.offers.specs.declared.SoundJob.{SoundJob}
use Rattle.job.specs.Public.{strict_number, strict_job}
use Rattle.decks.specs.State.{Fit}
use Rattle.decks.specs.OpeningLaws.{opening-front}
use lib.ListN.{length, take}
use borrow.Author.Tests.{eq-eqb, ne_eqb, le-ltb}
use Rattle.scope.specs.Pair.{bound}
use Rattle.scope.specs.Point.{needed, room}
use Rattle.scope.specs.Number.{read_number, ◌gives◌otherwise◌}
use Rattle.scope.specs.Answers.{only_done}
use Rattle.job.specs.declared.Job.{Job}
use Rattle.job.specs.declared.ReadAnswer.{ReadAnswer}
use Rattle.job.specs.Job.{pair_of}
use Rattle.job.specs.Calls.{reading, wanted, written, degree_of, is_zero}
use Rattle.job.specs.Public.{out_after, zero_flag}
use Rattle.job.specs.Standing.{Standing}
use Rattle.job.specs.StandingLaws.{needed_fits}
use Rattle.reads.specs.Answered.{answered}
use Rattle.reads.specs.Read.{ReadSound}
use Rattle.decks.specs.declared.Stage.TheVariants.{Opened}
use Rattle.decks.specs.declared.Deck.{Deck}
use Rattle.lines.specs.Text.{line, open_word, read_word}
use Rattle.lines.specs.Line.{read_text}
use Rattle.decks.specs.Deck.{opening, opened_job, with_job, taken, line_of, stops, read_line}
use Rattle.decks.specs.Step.{settled, Opens, Steps}
use Rattle.decks.specs.AnswerLaws.{open_line_done, open_line_refused, reading-room, degree_read, read_line_done, read_line_wanting, written-taken}

-- the strict opening at degree 16 in y answers for the declared degrees
pub opens : (d : Deck) → Fit d → (r : Result SoundJob Refusal)
    → outcome r ≡ strict_number d.p d.m 16 d.n 16 (take ((d.m + 1) * 17) d.a) (take ((d.n + 1) * 17) d.b)
    → IfOk r (λ s. s.job ≡ strict_job d.p d.m 16 d.n 16 (take ((d.m + 1) * 17) d.a) (take ((d.n + 1) * 17) d.b)) → Opens d r
opens d fit (Ok s) e job = let front = opening-front d fit in (sym (e ∙ front.0), job ∙ front.1)
opens d fit (Err r) e _ = let front = opening-front d fit in sym (e ∙ front.0)

module _ (d : Deck) (text : List ℕ) where
  pub opening_refused : (r : ℕ) → opening d ≡ r → 0 < r → text ≡ line open_word (r ∷ []) → Steps (settled d 4 []) d true text
  unfolding settled taken line_of stops
  opening_refused r number some e =
      let refused : opening d ≡ 0 → ⊥ = λ z. omega arith in
      record {
        state = rw (ne_eqb (opening d) 0 refused) refl;
        halted = rw (ne_eqb (opening d) 0 refused) refl;
        line = rw (open_line_refused d refused, number) e;
      }

  pub opening_accepted : (j : Job) (b : ℕ) → opening d ≡ 0 → j ≡ opened_job d → b + 1 ≡ needed (pair_of j) → text ≡ line open_word (0 ∷ b ∷ [])
      → Steps (settled d 4 []) (with_job d Opened j) false text
  unfolding settled taken line_of stops needed
  opening_accepted j b accepted job top e =
      let same : b ≡ bound (pair_of (opened_job d)) = (omega arith) ∙ ap (λ (j : Job). bound (pair_of j)) job in
      record {
        state = rw (eq-eqb (opening d) 0 accepted) (ap (with_job d Opened) job);
        halted = rw (eq-eqb (opening d) 0 accepted) refl;
        line = rw (open_line_done d accepted) (rw same at e);
      }

-- the text of a read's degree
of_degree : (d : Option ℕ) → cond (eqb (answered (Ok d)).zero 0) (Some (answered (Ok d)).degree) None ≡ d
of_degree None = refl
of_degree (Some k) = refl

done_number : (d : Option ℕ) → (answered (Ok d)).number ≡ 0
done_number None = refl
done_number (Some k) = refl

-- a read of a sound job into 513 entries
module _ (j : Job) (s : Standing j) (entries after : List ℕ) (r : ReadAnswer) (fits : length entries ≡ 513) (h : ReadSound j entries r after) where
  -- is one into as many as it writes
  exact : reading j (length entries) ≡ reading j (room (pair_of j))
  unfolding room needed
  exact = reading-room j (length entries) (omega (arith, needed_fits j s))

  early : (reading j (room (pair_of j)) ≡ 0 → ⊥) → reading j (room (pair_of j)) ≡ 14
  unfolding reading read_number ◌gives◌otherwise◌
  early no-reading = go (ltb j.count (needed (pair_of j))) (rw (le-ltb (room (pair_of j)) (room (pair_of j)) (le_refl (room (pair_of j)))) at no-reading)
    where
      go : (t : Bool) → ((t gives 14 otherwise 0) ≡ 0 → ⊥) → (t gives 14 otherwise (ltb (room (pair_of j)) (room (pair_of j)) gives 9 otherwise 0)) ≡ 14
      go true e = refl
      go false e = absurd (e refl)

  pub read_wanting : (r.number ≡ 0 → ⊥) → read_line j ≡ line read_word (14 ∷ r.wanted ∷ [])
  read_wanting no_number =
      let fourteen : reading j (room (pair_of j)) ≡ 14 = early (λ e. no_number (h.number ∙ exact ∙ e)) in
      let still : r.wanted ≡ wanted j = h.wanted ∙ rw (exact, fourteen) refl in
      read_line_wanting j fourteen ∙ ap (λ (w : ℕ). line read_word (14 ∷ w ∷ [])) (sym still)

  pub read_done : (k : ℕ) → r.number ≡ 0 → k ≡ needed (pair_of j) → read_line j ≡ read_text (cond (eqb r.zero 0) (Some r.degree) None) (take k after)
  unfolding only_done out_after room needed degree_read zero_flag
  read_done k e at =
      let zero : reading j (room (pair_of j)) ≡ 0 = sym (h.number ∙ exact) ∙ e in
      let degree : r.degree ≡ degree_of (pair_of j) = h.degree ∙ rw (exact, zero) refl in
      let flag : r.zero ≡ zero_flag (pair_of j) = h.zero ∙ rw (exact, zero) refl in
      let row : take k after ≡ written (pair_of j) = rw at (ap (take (room (pair_of j))) (h.output ∙ rw (exact, zero) refl) ∙ written-taken (pair_of j) entries) in
      let either : degree_read j ≡ cond (eqb (zero_flag (pair_of j)) 0) (Some (degree_of (pair_of j))) None =
      elim (is_zero (pair_of j)) as (λ t. cond t None (Some (degree_of (pair_of j))) ≡ cond (eqb (cond t 1 0) 0) (Some (degree_of (pair_of j))) None) [
        | true ↦ refl
        | false ↦ refl
      ] in
      rw (degree, flag, row) (read_line_done j zero ∙ ap (λ (g : Option ℕ). read_text g (written (pair_of j))) either)

module _ (j : Job) (s : Standing j) (entries after : List ℕ) (fits : length entries ≡ 513) where
  pub read_refused : (r : Refusal) → ReadSound j entries (answered (Err r)) after → read_line j ≡ line read_word (14 ∷ wanted_of r ∷ [])
  read_refused r h = read_wanting j s entries after (answered (Err r)) fits h (λ z. omega (arith, (number_of_bounds r).0))

  pub read_told : (d : Option ℕ) → ReadSound j entries (answered (Ok d)) after → (k : ℕ) → k ≡ needed (pair_of j) → read_line j ≡ read_text d (take k after)
  read_told d h k at =
      read_done j s entries after (answered (Ok d)) fits h k (done_number d) at ∙ ap (λ (g : Option ℕ). read_text g (take k after)) (of_degree d)
