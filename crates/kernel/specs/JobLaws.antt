-- How the calls on a job come to their results: a record that is not sound, a refusal, or the work done.
--
--   open_strict, open_refused        opening is the strict opening; it refuses
--   offer_unsound, offer_done        a single offer
--   lot_unsound, lot_short, lot_done a lot
--   read_unsound, read_done          a read
--   shot_done                        the one-shot
--   offer_refused, lot_sent_back, read_refused    the same of a record that sounding refuses,
--   offer_taken, lot_cramped, lot_taken, read_taken   and of one that it hands out
use Prim.Native.Nat.{ℕ, suc, ◌<◌, ◌≤◌}
use Rattle.std.proofs.Common.{arith, ap, ◌∙◌}
use Rattle.std.specs.Prelude.{Bool, Err, true, false, cond, List, ◌++◌, ◌≡◌, eqb, length, get_or, drop}
use Rattle.std.proofs.Math.Path.{refl, sym, subst}
use Rattle.std.proofs.Math.Dec.{eqb-suc-zero}
use Rattle.std.proofs.Math.ListN.{get_or-append}
use borrow.Author.Tests.{lt-ltb, le-ltb, ne_eqb}
use Rattle.scope.specs.Pair.{Pair, tables, coefficient}
use Rattle.scope.specs.Point.{tabulate, room}
use Rattle.scope.specs.Number.{◌gives◌otherwise◌, lot_number}
use Rattle.scope.specs.Answers.{only_done}
use Rattle.scope.specs.Degree.{tabulate-length, tabulate-get_or}
use Rattle.job.specs.declared.Job.{Job}
use Rattle.job.specs.declared.JobAnswer.{JobAnswer}
use Rattle.job.specs.declared.ReadAnswer.{ReadAnswer}
use Rattle.job.specs.Job.{pair_of, opened, blank}
use Rattle.job.specs.Calls.{offer_number, offered, lot_answers, lotted, reading, written}
use Rattle.job.specs.Sound.{sound?}
use Rattle.job.specs.Public.{strict_number, strict_job, open_answer, open_job, offer_answer, offer_job, lot_answer, lot_job, lot_bytes, read_answer, read_wanted, read_degree, read_zero, read_out, out_after, shot_answer, shot_out}
use Rattle.checks.specs.declared.Refusal.{Refusal}
use Rattle.checks.specs.declared.Refusal.TheVariants.{Wanted}
use Rattle.checks.specs.Outcome.{number_of, number_of_bounds}
use Rattle.reads.specs.Answered.{answered}
use Rattle.reads.specs.Read.{ReadSound}
use Rattle.reads.specs.Shot.{Shot}
use Rattle.kernel.specs.Results.{OpenResult, OfferResult, LotResult, ReadResult, ShotResult}

pub open_strict : (p m e n f : ℕ) (s t : List ℕ) (r : JobAnswer) → r.number ≡ strict_number p m e n f s t → r.job ≡ strict_job p m e n f s t
    → OpenResult p m e n f s t r
unfolding open_answer open_job
open_strict p m e n f s t r hn hj = record { number = hn; job = hj }

module _ (j : Job) where
  pub offer_unsound : (a : ℕ) → sound? j ≡ false → OfferResult j a (record { number = 16; job = j })
  unfolding offer_answer offer_job
  offer_unsound a h = record { number = rw h refl; job = rw h refl }

  pub offer_done : (a : ℕ) (r : JobAnswer) → sound? j ≡ true → r.number ≡ offer_number j a → r.job ≡ offered j a → OfferResult j a r
  unfolding offer_answer offer_job
  offer_done a r h hn hj = record { number = rw h hn; job = rw h hj }

  module _ (xs bytes : List ℕ) where
    lot_unsound_number : sound? j ≡ false → lot_answer j xs bytes ≡ 16
    unfolding lot_answer
    lot_unsound_number h = rw h refl

    lot_short_number : sound? j ≡ true → length bytes < length xs → lot_answer j xs bytes ≡ 9
    unfolding lot_answer lot_number ◌gives◌otherwise◌
    lot_short_number h l = rw (h, lt-ltb (length bytes) (length xs) l) refl

    lot_done_number : sound? j ≡ true → length xs ≤ length bytes → lot_answer j xs bytes ≡ 0
    unfolding lot_answer lot_number ◌gives◌otherwise◌
    lot_done_number h l = rw (h, le-ltb (length bytes) (length xs) l) refl

    -- a refused lot
    lot_refused : (r : ℕ) → lot_answer j xs bytes ≡ suc r → LotResult j xs bytes (record { number = suc r; job = j }) bytes
    unfolding lot_job lot_bytes
    lot_refused r e = record { number = sym e; job = rw (e, eqb-suc-zero) refl; left = rw (e, eqb-suc-zero) refl }

    pub lot_unsound : sound? j ≡ false → LotResult j xs bytes (record { number = 16; job = j }) bytes
    lot_unsound h = lot_refused 15 (lot_unsound_number h)

    pub lot_short : sound? j ≡ true → length bytes < length xs → LotResult j xs bytes (record { number = 9; job = j }) bytes
    lot_short h l = lot_refused 8 (lot_short_number h l)

    pub lot_done : (k : Job) (after : List ℕ) → sound? j ≡ true → length xs ≤ length bytes → k ≡ lotted j xs
        → after ≡ lot_answers j xs ++ drop (length xs) bytes → LotResult j xs bytes (record { number = 0; job = k }) after
    unfolding lot_job lot_bytes
    lot_done k after h l hk ha =
        let e : lot_answer j xs bytes ≡ 0 = lot_done_number h l in
        record { number = sym e; job = rw e hk; left = rw e ha }

-- the entries that are written, by a number that is 0
entries_of : (P : Pair) (r : ℕ) (out after : List ℕ) → after ≡ out_after r P out → r ≡ 0 → (k : ℕ) → k < room P → get_or after k 0 ≡ coefficient P k
unfolding out_after written
entries_of P r out after h z k l =
    ap (λ (w : List ℕ). get_or w k 0) (h ∙ ap (λ (n : ℕ). cond (eqb n 0) (tabulate (room P) (coefficient P) ++ drop (room P) out) out) z)
    ∙ get_or-append (tabulate (room P) (coefficient P)) (drop (room P) out) 0 k (omega (arith, l, tabulate-length (room P) (coefficient P)))
    ∙ tabulate-get_or (room P) (coefficient P) k l

module _ (j : Job) (out : List ℕ) where
  pub read_unsound : sound? j ≡ false → ReadResult j out (record { number = 16; wanted = 0; degree = 0; zero = 0 }) out
  unfolding read_wanted read_degree read_zero read_out out_after only_done
  read_unsound h = record {
    number = sym e;
    wanted = rw e refl;
    degree = rw e refl;
    zero = rw e refl;
    left = rw e refl;
    entries = λ z k l. absurd (omega (arith, z));
  }
    where
      e : read_answer j out ≡ 16
      e = unfold read_answer in rw h refl

  pub read_done : (r : ReadAnswer) (after : List ℕ) → sound? j ≡ true → ReadSound j out r after → ReadResult j out r after
  unfolding read_wanted read_degree read_zero read_out
  read_done r after h s = record {
    number = s.number ∙ sym e;
    wanted = rw e s.wanted;
    degree = rw e s.degree;
    zero = rw e s.zero;
    left = rw e s.output;
    entries = λ z. entries_of (pair_of j) (reading j (length out)) out after s.output (sym s.number ∙ z);
  }
    where
      e : read_answer j out ≡ reading j (length out)
      e = unfold read_answer in rw h refl

pub shot_done : (p m e n f : ℕ) (s t out : List ℕ) (r : ReadAnswer) (after : List ℕ) → Shot p m e n f s t out r after
    → ShotResult p m e n f s t out r after
unfolding shot_out
shot_done p m e n f s t out r after h = record {
  number = h.number;
  wanted = h.wanted;
  degree = h.degree;
  zero = h.zero;
  left = h.output;
  entries = λ z. entries_of (tables p m e n f s t) (shot_answer p m e n f s t out) out after h.output (sym h.number ∙ z);
}

pub open_refused : (p m e n f : ℕ) (s t : List ℕ) (k : ℕ) (j : Job) → k ≡ strict_number p m e n f s t → 2 ≤ k → j ≡ blank
    → OpenResult p m e n f s t (record { number = k; job = j })
unfolding open_answer open_job strict_job
open_refused p m e n f s t k j hn some hj = record {
  number = hn;
  job = hj ∙ sym (ap (λ (b : Bool). cond b (opened p m e n f s t) blank) (ne_eqb (strict_number p m e n f s t) 0 (λ z. omega arith)));
}

-- the number that sounding gives a record
abbrev sounded : Job → ℕ
sounded j = cond (sound? j) 0 16

-- the record as sounding hands it out, or refuses it
module _ (j : Job) where
  job_sound : 0 ≡ sounded j → sound? j ≡ true
  job_sound e = go (sound? j) refl e
    where
      go : (t : Bool) → sound? j ≡ t → 0 ≡ cond {A = ℕ} t 0 16 → sound? j ≡ true
      go true h e = h
      go false h e = absurd (omega arith)

  job_refused : {n : ℕ} → n ≡ sounded j → 2 ≤ n → (n ≡ 16) × (sound? j ≡ false)
  job_refused {n} e l = go (sound? j) refl e
    where
      go : (t : Bool) → sound? j ≡ t → n ≡ cond {A = ℕ} t 0 16 → (n ≡ 16) × (sound? j ≡ false)
      go true h e = absurd (omega arith)
      go false h e = (e, h)

  pub offer_refused : (a : ℕ) (n : ℕ) → n ≡ sounded j → 2 ≤ n → OfferResult j a (record { number = n; job = j })
  offer_refused a n e l = let r = job_refused e l in rw r.0 (offer_unsound j a r.1)

  pub offer_taken : (a : ℕ) {k : Job} {r : JobAnswer} → 0 ≡ sounded j → k ≡ j → r.number ≡ offer_number k a → r.job ≡ offered k a → OfferResult j a r
  offer_taken a {r = r} e same hn hj = offer_done j a r (job_sound e) (hn ∙ ap (λ (i : Job). offer_number i a) same) (hj ∙ ap (λ (i : Job). offered i a) same)

  module _ (xs bytes : List ℕ) where
    pub lot_sent_back : (n : ℕ) → n ≡ sounded j → 2 ≤ n → LotResult j xs bytes (record { number = n; job = j }) bytes
    lot_sent_back n e l = let r = job_refused e l in rw r.0 (lot_unsound j xs bytes r.1)

    pub lot_cramped : 0 ≡ sounded j → length bytes < length xs → LotResult j xs bytes (record { number = 9; job = j }) bytes
    lot_cramped e l = lot_short j xs bytes (job_sound e) l

    pub lot_taken : {i k : Job} {after : List ℕ} → 0 ≡ sounded j → i ≡ j → length xs ≤ length bytes → k ≡ lotted i xs
        → after ≡ lot_answers i xs ++ drop (length xs) bytes → LotResult j xs bytes (record { number = 0; job = k }) after
    lot_taken e same l hk ha =
        lot_done j xs bytes _ _ (job_sound e) l (hk ∙ ap (λ (i : Job). lotted i xs) same) (ha ∙ ap (λ (i : Job). lot_answers i xs ++ drop (length xs) bytes) same)

  pub read_refused : (out : List ℕ) (r : Refusal) → number_of r ≡ sounded j → ReadResult j out (answered (Err r)) out
  read_refused out (Wanted w) e = let r = job_refused e (number_of_bounds (Wanted w)).0 in absurd (omega (arith, r.0))
  read_refused out r e = let q = job_refused e (number_of_bounds r).0 in rw q.0 (read_unsound j out q.1)

  pub read_taken : (out : List ℕ) {k : Job} {r : ReadAnswer} {after : List ℕ} → 0 ≡ sounded j → k ≡ j → ReadSound k out r after → ReadResult j out r after
  read_taken out {r = r} {after = after} e same s = read_done j out r after (job_sound e) (subst (λ (i : Job). ReadSound i out r after) same s)
