-- What a record that is not refused brings with it, by its kind.
--
--   nonzero                   a refusal has a number
--   whole                     a record's body is all there
--   within-tables             its place is within the tables
--   open_stage                an offer or a read finds an open job
--   silent                    the step of a record that prints nothing
--   taken-modulus             the state after a record of kind 1,
--   taken_degrees             of kind 2,
--   taken-place               and of kind 3
--   settled_open              an opening looks at no body
--   step_point, step_read     the steps of an offer and of a read
use Rattle.std.proofs.Common.{ℕ, ◌+◌, ◌*◌, ◌<◌, ◌≤◌, Bool, true, false, List, [], ◌≡◌, refl, ap, ◌∙◌, arith, length}
use Rattle.std.proofs.Math.Dec.{eqb}
use borrow.Author.Tests.{ne_eqb}
use Rattle.job.specs.Calls.{offered}
use Rattle.decks.specs.declared.Stage.TheVariants.{Opened}
use Rattle.decks.specs.declared.Deck.{Deck}
use Rattle.decks.specs.declared.records.Kind.{Kind}
use Rattle.decks.specs.declared.records.Kind.TheVariants.{Modulus, Degrees, Place}
use Rattle.decks.specs.declared.records.Refusal.{Refusal}
use Rattle.decks.specs.declared.records.Refusal.TheVariants.{Unknown, Cut, Disorder, Steep, Astray}
use Rattle.decks.specs.Kind.{kind_number, refusal_number}
use Rattle.decks.specs.Deck.{body_length, byte, number4, astray, deck_number, with_modulus, with_degrees, with_place, with_job, taken, point_line, read_line, line_of, stops}
use Rattle.decks.specs.Refusal.{passed, whole_body, within_a, within_b, stage_open}
use Rattle.decks.specs.State.{Fit}
use Rattle.decks.specs.Step.{settled, Steps}

pub nonzero : (r : Refusal) → refusal_number r ≡ 0 → ⊥
nonzero Unknown e = omega arith
nonzero Cut e = omega arith
nonzero Disorder e = omega arith
nonzero Steep e = omega arith
nonzero Astray e = omega arith

module _ (d : Deck) (k : ℕ) (body : List ℕ) (fine : deck_number d k body ≡ 0) where
  pub whole : body_length k ≤ length body
  whole = whole_body d k body (passed d k body fine).arrived

  pub within-tables : Fit d → k ≡ 3 → byte body 1 * 17 + byte body 2 < 289
  within-tables fit three = by_side (eqb (byte body 0) 0) refl
    where
      inside : astray d body ≡ false
      inside = rw three at (passed d k body fine).placed

      by_side : (t : Bool) → eqb (byte body 0) 0 ≡ t → byte body 1 * 17 + byte body 2 < 289
      by_side true t = omega (arith, within_a d body inside t, fit.side_a.low_x, fit.side_a.low_y)
      by_side false t = omega (arith, within_b d body inside t, fit.side_b.low_x, fit.side_b.low_y)

  pub open_stage : 4 < k → d.stage ≡ Opened
  open_stage late = stage_open d k body (passed d k body fine).arrived late

-- a record that prints nothing
pub silent : (d next : Deck) (k : ℕ) (body text : List ℕ) → k < 4 → next ≡ taken d k body → text ≡ [] → Steps (settled d k body) next false text
unfolding settled line_of stops
silent d next k body text low e none =
    record {
      state = e;
      halted = rw (ne_eqb k 4 (omega arith)) refl;
      line = rw (ne_eqb k 4 (omega arith), ne_eqb k 5 (omega arith), ne_eqb k 6 (omega arith)) none;
    }

module _ (d : Deck) (n : Kind) (body : List ℕ) where
  pub taken-modulus : n ≡ Modulus → with_modulus d body ≡ taken d (kind_number n) body
  unfolding taken
  taken-modulus e = rw e refl

  pub taken_degrees : n ≡ Degrees → with_degrees d body ≡ taken d (kind_number n) body
  unfolding taken
  taken_degrees e = rw e refl

  pub taken-place : n ≡ Place → with_place d body ≡ taken d (kind_number n) body
  unfolding taken
  taken-place e = rw e refl

pub settled_open : (d : Deck) (body : List ℕ) → settled d 4 body ≡ settled d 4 []
unfolding settled taken line_of stops
settled_open d body = refl

module _ (d : Deck) (body text : List ℕ) where
  pub step_read : text ≡ read_line d.job → Steps (settled d 6 body) d false text
  unfolding settled taken line_of stops
  step_read e = record { state = refl; halted = refl; line = e }

  pub step_point : (a : ℕ) (next : Deck) → a ≡ number4 body 0 → next ≡ with_job d d.stage (offered d.job a) → text ≡ point_line d.job a
      → Steps (settled d 5 body) next false text
  unfolding settled taken line_of stops
  step_point a next point job e =
      record {
        state = job ∙ ap (λ (a : ℕ). with_job d d.stage (offered d.job a)) point;
        halted = refl;
        line = e ∙ ap (point_line d.job) point;
      }
