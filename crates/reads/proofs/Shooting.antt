-- What the one-shot answers, by what its steps find.
--
--   OpenedAs p m e n f s t j   the opening accepts, and j is its job
--   opened_as                  so it is where the strict opening answers 0
--   opened_sound, opened-fresh that job is sound and has no points
--   filled_sound               filled with the smallest points that suffice it still is
--   filled-run                 it is then the job after one lot of these points
--   shot_refused               the opening refuses
--   shot_short                 9: the output is short
--   shot_read                  the read of the filled job
use Prim.Native.Nat.{ℕ, zero, ◌<◌, ◌≤◌}
use native.Mathlib.Omega.{arith}
use mathlib.Core.Bool.{Bool, true, false, cond}
use Rattle.std.proofs.Common.{Err}
use Rattle.checks.specs.declared.Refusal.{Refusal}
use Rattle.checks.specs.declared.Refusal.TheVariants.{Wanted}
use Rattle.checks.specs.Outcome.{number_of, number_of_bounds}
use Rattle.checks.specs.Refusal.{then_refused}
use mathlib.Core.List.{List, [], ◌∷◌, append-nil}
use mathlib.Core.Path.{◌≡◌, refl, sym, ap, ◌∙◌, subst}
use lib.Dec.{eqb}
use lib.ListN.{length}
use borrow.Author.Tests.{lt-ltb, le-ltb, le-leb, ne_eqb}
use Rattle.scope.specs.Pair.{tables}
use Rattle.scope.specs.Point.{needed, room, smallest}
use Rattle.scope.specs.Number.{open_number, one_shot_number, ◌then◌, ◌gives◌otherwise◌}
use Rattle.scope.specs.Answers.{only_done}
use Rattle.job.specs.declared.Job.{Job}
use Rattle.job.specs.declared.ReadAnswer.{ReadAnswer}
use Rattle.job.specs.Job.{pair_of, opened, blank}
use Rattle.job.specs.Calls.{reading, lotted, degree_of}
use Rattle.job.specs.Public.{strict_number, strict_job, read_answer, read_degree, read_zero, read_out, shot_answer, shot_degree, shot_zero, shot_out, out_after, zero_flag}
use Rattle.job.specs.Demand.{lot, run, points_of, all_points}
use Rattle.job.specs.Standing.{Standing}
use Rattle.job.specs.SamePair.{SamePair, same-needed, same-smallest}
use Rattle.job.specs.OpenLaws.{accepted, opened-same, opened_standing}
use Rattle.job.specs.StandingLaws.{lotted_standing}
use Rattle.job.specs.SoundLaws.{standing_test}
use Rattle.job.specs.DemandLaws.{run-lotted}
use Rattle.job.specs.OneShot.{smallest-length, one_shot_calls}
use Rattle.reads.specs.Answered.{answered}
use Rattle.reads.specs.Read.{ReadSound}
use Rattle.reads.specs.Shot.{Shot}

gives_low : (t : Bool) (r s : ℕ) → r ≤ 8 → s ≤ 8 → (t gives r otherwise s) ≤ 8
unfolding ◌gives◌otherwise◌
gives_low true r s hr hs = hr
gives_low false r s hr hs = hs

opening_low : (p m e n f : ℕ) (s t : List ℕ) → strict_number p m e n f s t ≤ 8
unfolding strict_number open_number
opening_low p m e n f s t =
    gives_low _ 2 _ (omega arith) (gives_low _ 3 _ (omega arith) (gives_low _ 4 _ (omega arith)
    (gives_low _ 5 _ (omega arith) (gives_low _ 6 _ (omega arith) (gives_low _ 7 _ (omega arith) (gives_low _ 8 0 (omega arith) (omega arith)))))))

pub record OpenedAs (p m e n f : ℕ) (s t : List ℕ) (j : Job) : Type 0 where
  pub accepts : open_number p m e n f s t ≡ 0
  pub is : j ≡ opened p m e n f s t

module _ (p m e n f : ℕ) (s t : List ℕ) where
  pub opened_as : {j : Job} → 0 ≡ strict_number p m e n f s t → j ≡ strict_job p m e n f s t → OpenedAs p m e n f s t j
  unfolding strict_number strict_job
  opened_as numbered handed =
      record { accepts = sym numbered; is = handed ∙ ap (λ (x : ℕ). cond (eqb x 0) (opened p m e n f s t) blank) (sym numbered) }

  module _ (j : Job) (o : OpenedAs p m e n f s t j) where
    start : Standing (opened p m e n f s t)
    start = opened_standing p m e n f s t o.accepts

    pub opened_sound : Standing j
    opened_sound = subst Standing (sym o.is) start

    pub opened-fresh : j.count ≡ 0
    unfolding opened
    opened-fresh = ap (λ (z : Job). z.count) o.is

    same : SamePair (pair_of j) (tables p m e n f s t)
    same = subst (λ (z : Job). SamePair (pair_of z) (tables p m e n f s t)) (sym o.is) (opened-same p m e n f s t o.accepts)

    -- the points that it needs are the entries that the output has to have
    needed-room : needed (pair_of j) ≡ room (tables p m e n f s t)
    unfolding room needed
    needed-room = same-needed (pair_of j) (tables p m e n f s t) same

    points : List ℕ
    points = smallest (tables p m e n f s t)

    enough_points : needed (tables p m e n f s t) ≤ length points
    unfolding points
    enough_points = omega (arith, smallest-length (tables p m e n f s t) (accepted p m e n f s t o.accepts).plenty)

    module _ (k : Job) (fills : k ≡ lotted j (smallest (pair_of j))) where
      pub filled_sound : Standing k
      filled_sound = subst Standing (sym fills) (lotted_standing j opened_sound (smallest (pair_of j)))

      filled-run : run (opened p m e n f s t) (lot points points ∷ []) ≡ k
      unfolding points all_points points_of
      filled-run =
          run-lotted (lot points points ∷ []) (opened p m e n f s t) start
          ∙ rw (le-leb (length points) (length points) (omega arith))
          (ap (lotted (opened p m e n f s t)) (append-nil points ∙ sym (same-smallest (pair_of j) (tables p m e n f s t) same))
          ∙ ap (λ (z : Job). lotted z (smallest (pair_of j))) (sym o.is)
          ∙ sym fills)

  module _ (out : List ℕ) where
    -- a refusal leaves the output as it was
    refusal : (r : ℕ) → shot_answer p m e n f s t out ≡ r → (r ≡ 0 → ⊥) → Shot p m e n f s t out (record { number = r; wanted = 0; degree = 0; zero = 0 }) out
    unfolding shot_degree shot_zero shot_out out_after only_done
    refusal r answer h =
        record {
          number = sym answer;
          wanted = refl;
          degree = rw (answer, ne_eqb r 0 h) refl;
          zero = rw (answer, ne_eqb r 0 h) refl;
          output = rw (answer, ne_eqb r 0 h) refl;
        }

    refused : (r : ℕ) → r ≡ strict_number p m e n f s t → (r ≡ 0 → ⊥) → Shot p m e n f s t out (record { number = r; wanted = 0; degree = 0; zero = 0 }) out
    refused r q h = refusal r (unfold shot_answer one_shot_number strict_number in rw (← q) (then_refused r _ (omega arith))) h

    -- no opening says how many points are wanted
    pub shot_refused : (r : Refusal) → number_of r ≡ strict_number p m e n f s t → Shot p m e n f s t out (answered (Err r)) out
    shot_refused (Wanted w) q = absurd (omega (arith, opening_low p m e n f s t))
    shot_refused r q = refused (number_of r) q (λ z. omega (arith, (number_of_bounds r).0))

    -- the code's number of points needed is d
    module _ (j : Job) (o : OpenedAs p m e n f s t j) (d : ℕ) (at : d ≡ needed (pair_of j)) where
      pub shot_short : length out < d → Shot p m e n f s t out (record { number = 9; wanted = 0; degree = 0; zero = 0 }) out
      shot_short l =
          refusal 9
          (unfold shot_answer one_shot_number ◌then◌ ◌gives◌otherwise◌ in
          rw (o.accepts, lt-ltb (length out) (room (tables p m e n f s t)) (omega (arith, at, needed-room j o))) refl)
          (omega arith)

      -- the filled job is k
      module _ (k : Job) (fills : k ≡ lotted j (smallest (pair_of j))) (roomy : d ≤ length out) where
        fits : room (tables p m e n f s t) ≤ length out
        fits = omega (arith, at, needed-room j o)

        done : shot_answer p m e n f s t out ≡ 0
        unfolding shot_answer one_shot_number ◌then◌ ◌gives◌otherwise◌
        done = rw (o.accepts, le-ltb (length out) (room (tables p m e n f s t)) fits) refl

        read : reading k (length out) ≡ read_answer k out
        unfolding read_answer
        read = rw ((standing_test k).1 (filled_sound j o k fills)) refl

        pub shot_read : (r : ReadAnswer) (after : List ℕ) → ReadSound k out r after → Shot p m e n f s t out r after
        unfolding points read_degree read_zero read_out
        shot_read r after h =
            let run = filled-run j o k fills in
            let calls = one_shot_calls p m e n f s t (points j o) out o.accepts (enough_points j o) fits in
            let answers : read_answer k out ≡ shot_answer p m e n f s t out = sym (calls.0 ∙ ap (λ (z : Job). read_answer z out) run) in
            record {
              number = h.number ∙ read ∙ answers;
              wanted = h.wanted ∙ rw (read ∙ answers ∙ done) refl;
              degree = h.degree ∙ ap (λ (x : ℕ). only_done x (degree_of (pair_of k))) read ∙ sym (calls.2 ∙ ap (λ (z : Job). read_degree z out) run);
              zero = h.zero ∙ ap (λ (x : ℕ). only_done x (zero_flag (pair_of k))) read ∙ sym (calls.3 ∙ ap (λ (z : Job). read_zero z out) run);
              output = h.output ∙ ap (λ (x : ℕ). out_after x (pair_of k) out) read ∙ sym (calls.1 ∙ ap (λ (z : Job). read_out z out) run);
            }
