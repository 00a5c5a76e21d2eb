-- Demand 3, proved: a read with room hands out the determinant exactly when enough different usable points were offered,
-- and before that says how many more are wanted.
--
--   run-lotted             a list of calls on a sound job is one lot of all the points that they offer
--   idle_uncounted         a number that is no usable point changes nothing
--   among_snoc             what is among the points of a list and one more
--   lotted-count           how many points are kept after a lot
--   written_same, degree_of-same, zero_flag-same   a read hands out the same for pairs with the same coefficients
--   demand_3               what a read answers after any list of calls on a fresh job
--   Refused j, unsound_refused   every call with a record that is not sound is answered 16, and changes nothing
use Prim.Native.Nat.{ℕ, zero, suc, ◌+◌, ◌-◌, ◌<◌, ◌≤◌, min}
use Rattle.std.proofs.Common.{add-one, sym, ◌∙◌, subst, ap₂, inl, inr, take-suc-set}
use native.Mathlib.Omega.{arith}
use Rattle.std.proofs.Math.Decide.{dec_lt}
use Rattle.std.specs.Prelude.{Bool, true, false, cond, not, ◌&&◌, ◌||◌, ◌≡◌, ◌⊎◌, leb, ltb, eqb, take, drop, set}
use mathlib.Core.List.{List, [], ◌∷◌, ◌++◌}
use Rattle.std.proofs.Math.Path.{refl, ap, fun_ext}
use Rattle.std.proofs.Math.ListN.{length}
use borrow.Author.Tests.{ltb-true, ltb-false, lt-ltb, le-ltb, le-leb, lt-leb}
use Rattle.scope.specs.Pair.{Pair, tables, some, largest, coefficient}
use Rattle.scope.specs.Answers.{only_done}
use Rattle.scope.specs.Point.{tabulate, usable, needed, room}
use Rattle.scope.specs.Usable.{and_true}
use Rattle.scope.specs.Number.{among, lot_number, read_number, open_number, ◌gives◌otherwise◌}
use Rattle.job.specs.declared.Job.{Job}
use Rattle.job.specs.Job.{pair_of, opened, kept_points, stored}
use Rattle.job.specs.Calls.{offer_number, offered, lotted, reading, wanted, written, nonzero, degree_of, is_zero}
use Rattle.job.specs.Sound.{Sound, sound?}
use Rattle.job.specs.Public.{offer_answer, offer_job, lot_answer, lot_job, lot_bytes, read_answer, read_wanted, read_degree, read_zero, read_out, out_after, zero_flag}
use Rattle.job.specs.Demand.{Call, offer, lot, read, after, run, points_of, all_points, counts, counting, distinct, offered_count}
use Rattle.job.specs.Standing.{Standing}
use Rattle.job.specs.SamePair.{SamePair, same-bound, same-needed, same-room, same-usable, same-coefficient}
use Rattle.scope.specs.TestLaws.{point_number-zero}
use Rattle.job.specs.OpenLaws.{opened-same, opened_standing}
use Rattle.job.specs.StandingLaws.{offer-kept, kept_offer, offered-kept, offered_else, stored_pair, stored_standing, lotted_standing, lotted_pair, lotted-append, needed_fits}
use Rattle.job.specs.SoundLaws.{standing_test, sound_test}

-- on a sound job a call gives what it gives without the test
after-lotted : (j : Job) → Standing j → (c : Call) → after j c ≡ lotted j (points_of c)
unfolding after points_of offer_job lot_job lot_answer lot_number lotted ◌gives◌otherwise◌
after-lotted j s (offer a) = rw ((standing_test j).1 s) refl
after-lotted j s (lot xs answers) = rw ((standing_test j).1 s) (go (ltb (length answers) (length xs)) refl)
  where
    go : (t : Bool) → ltb (length answers) (length xs) ≡ t
        → cond (eqb (t gives 9 otherwise 0) 0) (lotted j xs) j ≡ lotted j (cond (leb (length xs) (length answers)) xs [])
    go true e = rw (lt-leb (length xs) (length answers) (ltb-true (length answers) (length xs) e)) refl
    go false e = rw (le-leb (length xs) (length answers) (ltb-false (length answers) (length xs) e)) refl
after-lotted j s (read out) = refl

pub run-lotted : (cs : List Call) (j : Job) → Standing j → run j cs ≡ lotted j (all_points cs)
unfolding run all_points
run-lotted [] j s = unfold lotted in refl
run-lotted (c ∷ cs) j s =
    ap (λ (k : Job). run k cs) (after-lotted j s c)
    ∙ run-lotted cs (lotted j (points_of c)) (lotted_standing j s (points_of c))
    ∙ sym (lotted-append j (points_of c) (all_points cs))

-- a point that does not count, or is kept already, or comes when the job is complete, changes nothing
pub idle_uncounted : (j : Job) (a : ℕ) → counts (pair_of j) a ≡ false → offered j a ≡ j
unfolding counts
idle_uncounted j a h = offered_else j a (λ e. clash ((point_number-zero (pair_of j) (kept_points j) a).0 (offer-kept j a e).0))
  where
    clash : (a < (pair_of j).p) × (among a (kept_points j) ≡ false) × (usable (pair_of j) a ≡ true) → ⊥
    clash w =
        let b : (ltb a (pair_of j).p && usable (pair_of j) a) ≡ true = rw (lt-ltb a (pair_of j).p w.0) w.2 in
        let z : ◌≡◌ {A = ℕ} 0 1 = cc in omega arith

idle-kept : (j : Job) (a : ℕ) → among a (kept_points j) ≡ true → offered j a ≡ j
idle-kept j a h = offered_else j a (λ e. clash ((point_number-zero (pair_of j) (kept_points j) a).0 (offer-kept j a e).0).1)
  where
    clash : among a (kept_points j) ≡ false → ⊥
    clash w = let z : ◌≡◌ {A = ℕ} 0 1 = cc in omega arith

idle_complete : (j : Job) (a : ℕ) → j.count ≡ needed (pair_of j) → offered j a ≡ j
idle_complete j a h = offered_else j a (λ e. omega (arith, (offer-kept j a e).1, h))

pub among_snoc : (x a : ℕ) (s : List ℕ) → among x (s ++ a ∷ []) ≡ among x (a ∷ s)
unfolding among
among_snoc x a [] = refl
among_snoc x a (y ∷ s) = ap (λ (t : Bool). eqb x y || t) (among_snoc x a s) ∙ swap (eqb x y) (eqb x a) (among x s)
  where
    swap : (t u v : Bool) → (t || (u || v)) ≡ (u || (t || v))
    swap true true v = refl
    swap true false v = refl
    swap false u v = refl

-- how the points counted so far and the points kept hang together
abbrev Kept : Job → List ℕ → Type 0
Kept j before = ((x : ℕ) → among x before ≡ among x (kept_points j)) ⊎ (j.count ≡ needed (pair_of j))

-- what one point more does to the count
kept_more : (j : Job) → Standing j → (a : ℕ) (before : List ℕ) → offer_number j a ≡ 0
    → ((x : ℕ) → among x before ≡ among x (kept_points j)) → Kept (stored j a) (a ∷ before)
unfolding kept_points stored among
kept_more j s a before e h =
    inl (λ x. ap (λ (t : Bool). eqb x a || t) (h x) ∙ sym (among_snoc x a (take j.count j.points)) ∙ ap (among x) (sym taken))
  where
    taken : take (j.count + 1) (set j.points j.count a) ≡ take j.count j.points ++ a ∷ []
    taken = rw add-one (take-suc-set j.points j.count a (omega (arith, (offer-kept j a e).1, needed_fits j s, s.length_points)))

counted_offer : (j : Job) (a : ℕ) → counts (pair_of j) a ≡ true → among a (kept_points j) ≡ false → j.count < needed (pair_of j)
    → offer_number j a ≡ 0
unfolding counts
counted_offer j a c h l =
    let b = and_true (ltb a (pair_of j).p) (usable (pair_of j) a) c in
    kept_offer j a ((point_number-zero (pair_of j) (kept_points j) a).1 (ltb-true a (pair_of j).p b.0, h, b.1)) l

pub lotted-count : (xs : List ℕ) (j : Job) → Standing j → (before : List ℕ) → Kept j before
    → (lotted j xs).count ≡ min (needed (pair_of j)) (j.count + length (distinct before (counting (pair_of j) xs)))
unfolding lotted counting distinct
lotted-count [] j s before k = omega (arith, s.few)
lotted-count (a ∷ xs) j s before k =
    step (lotted-count xs) (counts (pair_of j) a) refl
  where
    rest : List ℕ
    rest = counting (pair_of j) xs

    Counted : Bool → Type 0
    Counted u =
        (lotted (offered j a) xs).count
        ≡ min (needed (pair_of j)) (j.count + length (cond u (distinct before rest) (a ∷ distinct (a ∷ before) rest)))

    Later : Type 0
    Later = (j : Job) → Standing j → (before : List ℕ) → Kept j before
        → (lotted j xs).count ≡ min (needed (pair_of j)) (j.count + length (distinct before (counting (pair_of j) xs)))

    idle : Later → offered j a ≡ j → (lotted (offered j a) xs).count ≡ min (needed (pair_of j)) (j.count + length (distinct before rest))
    idle ih e = ap (λ (z : Job). (lotted z xs).count) e ∙ ih j s before k

    full : Later → j.count ≡ needed (pair_of j) → Counted false
    full ih e =
        ap (λ (z : Job). (lotted z xs).count) (idle_complete j a e) ∙ ih j s (a ∷ before) (inr e) ∙ omega (arith, e)

    more : Later → counts (pair_of j) a ≡ true → among a before ≡ false → ((x : ℕ) → among x before ≡ among x (kept_points j))
        → j.count < needed (pair_of j) → Counted false
    more ih c f h l =
        let o : offer_number j a ≡ 0 = counted_offer j a c (sym (h a) ∙ f) l in
        ap (λ (z : Job). (lotted z xs).count) (offered-kept j a o)
        ∙ ih (stored j a) (stored_standing j a s o) (a ∷ before) (kept_more j s a before o h)
        ∙ counted (stored_pair j a)
      where
        counted : pair_of (stored j a) ≡ pair_of j
            → min (needed (pair_of (stored j a))) ((stored j a).count + length (distinct (a ∷ before) (counting (pair_of (stored j a)) xs)))
            ≡ min (needed (pair_of j)) (j.count + suc (length (distinct (a ∷ before) rest)))
        counted q = rw q (unfold stored in omega arith)

    count : Later → counts (pair_of j) a ≡ true → (u : Bool) → among a before ≡ u → Kept j before
        → Dec (j.count < needed (pair_of j)) → Counted u
    count ih c true f (inl h) d = idle ih (idle-kept j a (sym (h a) ∙ f))
    count ih c true f (inr e) d = idle ih (idle_complete j a e)
    count ih c false f (inr e) d = full ih e
    count ih c false f (inl h) (yes l) = more ih c f h l
    count ih c false f (inl h) (no l) = full ih (omega (arith, s.few, l))

    step : Later → (t : Bool) → counts (pair_of j) a ≡ t
        → (lotted (offered j a) xs).count ≡ min (needed (pair_of j)) (j.count + length (distinct before (cond t (a ∷ rest) rest)))
    step ih false c = idle ih (idle_uncounted j a c)
    step ih true c = count ih c (among a before) refl k (dec_lt j.count (needed (pair_of j)))

counting-same : (P Q : Pair) → SamePair P Q → (xs : List ℕ) → counting P xs ≡ counting Q xs
unfolding counting counts
counting-same P Q w [] = refl
counting-same P Q w (a ∷ xs) =
    ap₂ (λ (t : Bool) (l : List ℕ). cond t (a ∷ l) l)
    (ap₂ (λ (q : ℕ) (u : Bool). ltb a q && u) w.p (same-usable P Q w a)) (counting-same P Q w xs)

pub written_same : (P Q : Pair) → SamePair P Q → written P ≡ written Q
unfolding written
written_same P Q w = ap (λ (n : ℕ). tabulate n (coefficient P)) (same-room P Q w) ∙ ap (tabulate (room Q)) (fun_ext (same-coefficient P Q w))

nonzero-same : (P Q : Pair) → SamePair P Q → (k : ℕ) → nonzero P k ≡ nonzero Q k
unfolding nonzero
nonzero-same P Q w k = ap (λ (c : ℕ). not (eqb c 0)) (same-coefficient P Q w k)

pub degree_of-same : (P Q : Pair) → SamePair P Q → degree_of P ≡ degree_of Q
unfolding degree_of
degree_of-same P Q w = ap₂ largest (same-bound P Q w) (fun_ext (nonzero-same P Q w))

pub zero_flag-same : (P Q : Pair) → SamePair P Q → zero_flag P ≡ zero_flag Q
unfolding zero_flag is_zero
zero_flag-same P Q w =
    ap₂ (λ (d : ℕ) (o : ℕ → Bool). cond (not (some (d + 1) o)) 1 0) (same-bound P Q w) (fun_ext (nonzero-same P Q w))

-- a read of a sound job with room, by the number of points kept
module _ (j : Job) (s : Standing j) (out : List ℕ) (fits : room (pair_of j) ≤ length out) where
  read_complete : j.count ≡ needed (pair_of j)
      → (read_answer j out ≡ 0)
      × (read_out j out ≡ written (pair_of j) ++ drop (room (pair_of j)) out)
      × (read_degree j out ≡ degree_of (pair_of j))
      × (read_zero j out ≡ zero_flag (pair_of j))
  unfolding read_out out_after read_degree read_zero only_done
  read_complete e = (answer, rw answer refl, rw answer refl, rw answer refl)
    where
      answer : read_answer j out ≡ 0
      answer =
          unfold read_answer reading read_number ◌gives◌otherwise◌ in
          rw ((standing_test j).1 s, le-ltb j.count (needed (pair_of j)) (omega (arith, e)), le-ltb (length out) (room (pair_of j)) fits) refl

  read-early : j.count < needed (pair_of j)
      → (read_answer j out ≡ 14) × (read_wanted j out ≡ needed (pair_of j) - j.count) × (read_out j out ≡ out)
  unfolding read_out out_after read_wanted wanted
  read-early l = (answer, rw answer refl, rw answer refl)
    where
      answer : read_answer j out ≡ 14
      answer = unfold read_answer reading read_number ◌gives◌otherwise◌ in rw ((standing_test j).1 s, lt-ltb j.count (needed (pair_of j)) l) refl

module _ (p m e n f : ℕ) (s t : List ℕ) (cs : List Call) where
  abbrev polynomials : Pair
  polynomials = tables p m e n f s t

  abbrev held : Job
  held = run (opened p m e n f s t) cs

  -- what a read of the job that the caller holds in the end answers and leaves behind
  pub record Outcome (out : List ℕ) : Type 0 where
    pub complete : needed polynomials ≤ offered_count polynomials cs
        → (read_answer held out ≡ 0)
        × (read_out held out ≡ written polynomials ++ drop (room polynomials) out)
        × (read_degree held out ≡ degree_of polynomials)
        × (read_zero held out ≡ zero_flag polynomials)
    pub early : offered_count polynomials cs < needed polynomials
        → (read_answer held out ≡ 14) × (read_wanted held out ≡ needed polynomials - offered_count polynomials cs) × (read_out held out ≡ out)

  module _ (accepted : open_number p m e n f s t ≡ 0) where
    fresh : Job
    fresh = opened p m e n f s t

    start : Standing fresh
    unfolding fresh
    start = opened_standing p m e n f s t accepted

    same : SamePair (pair_of fresh) polynomials
    unfolding fresh
    same = opened-same p m e n f s t accepted

    held-lotted : held ≡ lotted fresh (all_points cs)
    unfolding fresh
    held-lotted = run-lotted cs fresh start

    held_standing : Standing held
    held_standing = subst Standing (sym held-lotted) (lotted_standing fresh start (all_points cs))

    held_pair : pair_of held ≡ pair_of fresh
    held_pair = ap pair_of held-lotted ∙ lotted_pair fresh (all_points cs)

    held_same : SamePair (pair_of held) polynomials
    held_same = subst (λ (P : Pair). SamePair P polynomials) (sym held_pair) same

    held-count : held.count ≡ min (needed polynomials) (offered_count polynomials cs)
    unfolding offered_count fresh opened kept_points
    held-count =
        ap (λ (j : Job). j.count) held-lotted
        ∙ lotted-count (all_points cs) fresh start [] (inl (λ x. refl))
        ∙ ap (λ (k : ℕ). min k (zero + length (distinct [] (counting (pair_of fresh) (all_points cs))))) (same-needed (pair_of fresh) polynomials same)
        ∙ ap (λ (l : List ℕ). min (needed polynomials) (zero + length (distinct [] l))) (counting-same (pair_of fresh) polynomials same (all_points cs))
        ∙ omega arith

    pub demand_3 : (out : List ℕ) → room polynomials ≤ length out → Outcome out
    demand_3 out fits = record { complete = done; early = waiting }
      where
        roomy : room (pair_of held) ≤ length out
        roomy = omega (arith, same-room (pair_of held) polynomials held_same)

        done : needed polynomials ≤ offered_count polynomials cs
            → (read_answer held out ≡ 0)
            × (read_out held out ≡ written polynomials ++ drop (room polynomials) out)
            × (read_degree held out ≡ degree_of polynomials)
            × (read_zero held out ≡ zero_flag polynomials)
        done l =
            let r = read_complete held held_standing out roomy (omega (arith, held-count, same-needed (pair_of held) polynomials held_same)) in (
              r.0,
              r.1
                  ∙ ap (λ (w : List ℕ). w ++ drop (room (pair_of held)) out) (written_same (pair_of held) polynomials held_same)
                  ∙ ap (λ (k : ℕ). written polynomials ++ drop k out) (same-room (pair_of held) polynomials held_same),
              r.2 ∙ degree_of-same (pair_of held) polynomials held_same,
              r.3 ∙ zero_flag-same (pair_of held) polynomials held_same,
            )

        waiting : offered_count polynomials cs < needed polynomials
            → (read_answer held out ≡ 14) × (read_wanted held out ≡ needed polynomials - offered_count polynomials cs) × (read_out held out ≡ out)
        waiting l =
            let r = read-early held held_standing out roomy (omega (arith, held-count, same-needed (pair_of held) polynomials held_same)) in
            (r.0, r.1 ∙ omega (arith, held-count, same-needed (pair_of held) polynomials held_same), r.2)

-- what the calls with the record j answer and leave behind where they are refused for it
pub record Refused (j : Job) : Type 0 where
  pub offers : (a : ℕ) → (offer_answer j a ≡ 16) × (offer_job j a ≡ j)
  pub lots : (xs answers : List ℕ) → (lot_answer j xs answers ≡ 16) × (lot_job j xs answers ≡ j) × (lot_bytes j xs answers ≡ answers)
  pub reads : (out : List ℕ)
      → (read_answer j out ≡ 16) × (read_wanted j out ≡ 0) × (read_degree j out ≡ 0) × (read_zero j out ≡ 0) × (read_out j out ≡ out)

pub unsound_refused : (j : Job) → (Sound j → ⊥) → Refused j
unfolding offer_answer offer_job lot_answer lot_job lot_bytes read_answer read_wanted read_degree read_zero read_out out_after only_done
unsound_refused j unsound = record {
  offers = λ a. rw fails (refl, refl);
  lots = λ xs answers. rw fails (refl, refl, refl);
  reads = λ out. rw fails (refl, refl, refl, refl, refl);
}
  where
    fails : sound? j ≡ false
    fails = go (sound? j) refl
      where
        go : (t : Bool) → sound? j ≡ t → t ≡ false
        go true e = absurd (unsound ((sound_test j).0 e))
        go false e = refl
