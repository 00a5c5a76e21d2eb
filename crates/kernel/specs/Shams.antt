-- Wrong programs, and that each breaks its contract. A program is refuted at one input or two, with whatever it answers
-- there in the part that it gets wrong: any number but the right one, any value, any output. The inputs are the scope's
-- figures. A name begins with its call: row, plain, division, divisor, open, offer, lot, read, shot.
--
--   .._refusing      refuses everything: every call that can accept
--   .._fixed         one value, or one polynomial, for all inputs: row resultant, plain determinant, read, one-shot
--   .._idle          writes nothing: division, lot, read, one-shot
--   .._marking       works out the first lot and only marks later points: a later offer, a later lot, the read after two lots
--   .._inventing     invents its steps, its count, the number wanted: row resultant, division, read
--   .._trusting      does not test the record: offer, lot, read
--   .._touching      changes what is not its own: the row that stays, the bytes after the answers, the output past D + 1
--   row_unsigned     the sign of the swap dropped
--   row-one-less     exponents from one less
--   row_constant     a zero remainder against a constant divisor taken for a common factor
--   divisor_tie      the first row on a tie
--   divisor_uncut    a row that is not cut
--   divisor_copied   the right entries, but not the caller's own row
--   open-declared    D from declared degrees in y
--   open_leaking     a job handed back with a refusal
--   lot_forgetful    repeats looked for among the points of the lot only
--   read-early       says complete early
--   read_full        what a read leaves after any calls on a fresh job that bring enough points, by demand 3
--   shot_full        what the one-shot leaves where it accepts
--   k1, k8           the jobs of K1 and K8, just opened
use Rattle.std.specs.Prelude.{ℕ, ◌≤◌, ◌≢◌, eqb}
use native.Mathlib.Omega.{arith}
use Rattle.std.proofs.Math.Bool.{cond}
use mathlib.Core.List.{List, [], ◌∷◌, ◌++◌}
use Rattle.std.proofs.Math.Path.{◌≡◌, refl, sym, ap, ap₂}
use Rattle.std.proofs.Common.{◌∙◌}
use Rattle.std.proofs.Math.ListN.{get_or, length, take, drop}
use borrow.Author.Tests.{le-ltb}
use Rattle.std.specs.Borrow.{Bor}
use Rattle.scope.specs.Pair.{Pair, tables}
use Rattle.scope.specs.Point.{needed, room}
use Rattle.scope.specs.Number.{open_number, one_shot_number, ◌then◌, ◌gives◌otherwise◌}
use Rattle.job.specs.declared.Job.{Job}
use Rattle.job.specs.declared.JobAnswer.{JobAnswer}
use Rattle.job.specs.declared.ReadAnswer.{ReadAnswer}
use Rattle.job.specs.Job.{opened, blank}
use Rattle.job.specs.Calls.{lotted, written}
use Rattle.job.specs.Sound.{Sound}
use Rattle.job.specs.Public.{out_after, shot_answer, shot_out}
use Rattle.job.specs.Demand.{Call, lot, run, points_of, all_points, counts, counting, distinct, offered_count}
use Rattle.job.specs.DemandLaws.{demand_3, unsound_refused}
use Rattle.job.specs.Computing.{computing}
use Rattle.rows.specs.Which.{lower, first?, pick}
use Rattle.kernel.specs.declared.RowAnswer.{RowAnswer}
use Rattle.kernel.specs.declared.PlainAnswer.{PlainAnswer}
use Rattle.kernel.specs.declared.DivisionAnswer.{DivisionAnswer}
use Rattle.kernel.specs.Results.{RowResult, PlainResult, DivisionResult, DivisorResult, OpenResult, OfferResult, LotResult, ReadResult, ShotResult}

-- K2's rows; exchanged, K3's
abbrev k2a : List ℕ
k2a = 1 ∷ 0 ∷ 0 ∷ 1 ∷ []

abbrev k2b : List ℕ
k2b = 5 ∷ 1 ∷ []

pub row_refusing : (r : RowAnswer) → r.number ≢ 0 → RowResult 7 k2a k2b r → ⊥
unfolding computing
row_refusing r wrong h = wrong h.number

pub row_fixed : (r r' : RowAnswer) → r.value ≡ r'.value → RowResult 7 k2a k2b r → RowResult 7 k2b k2a r' → ⊥
unfolding computing
row_fixed r r' same h h' = let e : ◌≡◌ {A = ℕ} 5 2 = sym h.value ∙ same ∙ h'.value in omega arith

pub row_inventing : (r : RowAnswer) → r.steps ≢ 2 → RowResult 7 (6 ∷ 0 ∷ 1 ∷ []) (6 ∷ 1 ∷ []) r → ⊥
unfolding computing
row_inventing r wrong h = wrong h.steps

pub row_unsigned : (r : RowAnswer) → r.value ≡ 5 → RowResult 7 k2b k2a r → ⊥
unfolding computing
row_unsigned r five h = let e : ◌≡◌ {A = ℕ} 5 2 = sym five ∙ h.value in omega arith

pub row-one-less : (r : RowAnswer) → r.value ≡ 2 → RowResult 5 (1 ∷ 0 ∷ 0 ∷ 0 ∷ 1 ∷ []) (1 ∷ 0 ∷ 1 ∷ []) r → ⊥
unfolding computing
row-one-less r two h = let e : ◌≡◌ {A = ℕ} 2 4 = sym two ∙ h.value in omega arith

pub row_constant : (r : RowAnswer) → r.value ≡ 0 → RowResult 7 (3 ∷ []) (1 ∷ 0 ∷ 1 ∷ []) r → ⊥
unfolding computing
row_constant r none h = let e : ◌≡◌ {A = ℕ} 0 2 = sym none ∙ h.value in omega arith

pub plain_refusing : (r : PlainAnswer) → r.number ≢ 0 → PlainResult 7 k2a k2b r → ⊥
unfolding computing
plain_refusing r wrong h = wrong h.number

pub plain_fixed : (r r' : PlainAnswer) → r.value ≡ r'.value → PlainResult 7 k2a k2b r → PlainResult 7 k2b k2a r' → ⊥
unfolding computing
plain_fixed r r' same h h' = let e : ◌≡◌ {A = ℕ} 5 2 = sym h.value ∙ same ∙ h'.value in omega arith

module _ (r : DivisionAnswer) where
  pub division_refusing : (left : List ℕ) → r.number ≢ 0 → DivisionResult 7 k2a k2b r left → ⊥
  unfolding computing
  division_refusing left wrong h = wrong h.number

  pub division_idle : DivisionResult 7 k2a k2b r k2a → ⊥
  unfolding computing
  division_idle h = let e : ◌≡◌ {A = ℕ} 1 2 = ap (λ (s : List ℕ). get_or s 0 0) h.left in omega arith

  pub division_inventing : (left : List ℕ) → r.count ≢ 3 → DivisionResult 7 k2a k2b r left → ⊥
  unfolding computing
  division_inventing left wrong h = wrong h.count

  -- a row not longer than the divisor's degree stays
  pub division_touching : (left : List ℕ) → left ≢ k2b → DivisionResult 7 k2b k2a r left → ⊥
  unfolding computing
  division_touching left wrong h = wrong h.left

module _ (a b r : Bor (List ℕ)) (eb : b.now ≡ 3 ∷ 4 ∷ []) where
  pub divisor_tie : a.now ≡ 1 ∷ 2 ∷ [] → r.now ≡ a.now → DivisorResult a b r → ⊥
  unfolding computing lower first?
  divisor_tie ea first h =
      let e : ◌≡◌ {A = ℕ} 1 3 = ap (λ (s : List ℕ). get_or s 0 0) (sym ea ∙ sym first ∙ h.stretch ∙ ap₂ lower ea eb) in omega arith

  pub divisor_uncut : a.now ≡ 1 ∷ 0 ∷ [] → r.now ≡ a.now → DivisorResult a b r → ⊥
  unfolding computing lower first?
  divisor_uncut ea whole h = let e : ◌≡◌ {A = ℕ} 2 1 = ap length (sym ea ∙ sym whole ∙ h.stretch ∙ ap₂ lower ea eb) in omega arith

  pub divisor_copied : a.now ≡ 1 ∷ 0 ∷ [] → r.ref_ptr ≢ a.ref_ptr → DivisorResult a b r → ⊥
  unfolding computing first?
  divisor_copied ea elsewhere h = elsewhere (h.own ∙ ap₂ (λ (s t : List ℕ). pick (first? s t) a.ref_ptr b.ref_ptr) ea eb)

-- K1's pair; wide is its A with declared degree 2 in y, where the real one is 1
abbrev narrow : List ℕ
narrow = 0 ∷ 1 ∷ 1 ∷ 0 ∷ []

abbrev wide : List ℕ
wide = 0 ∷ 1 ∷ 0 ∷ 1 ∷ 0 ∷ 0 ∷ []

abbrev other : List ℕ
other = 0 ∷ 6 ∷ 1 ∷ 0 ∷ []

unfoldable pub k1 : Job
k1 = opened 7 1 1 1 1 narrow other

module _ (r : JobAnswer) where
  pub open_refusing : r.number ≢ 0 → OpenResult 7 1 1 1 1 narrow other r → ⊥
  unfolding computing
  open_refusing wrong h = wrong h.number

  pub open-declared : r.job.da ≢ 1 → OpenResult 7 1 2 1 1 wide other r → ⊥
  unfolding computing
  open-declared wrong h = wrong (ap (λ (j : Job). j.da) h.job)

  pub open_leaking : r.job ≢ blank → OpenResult 9 1 1 1 1 narrow other r → ⊥
  unfolding computing
  open_leaking wrong h = wrong h.job

  pub offer_refusing : r.number ≢ 0 → OfferResult k1 3 r → ⊥
  unfolding computing k1
  offer_refusing wrong h = wrong h.number

  -- at the point 1 the value is 5
  pub offer_marking : get_or r.job.values 1 0 ≢ 5 → OfferResult (lotted k1 (0 ∷ [])) 1 r → ⊥
  unfolding computing k1
  offer_marking wrong h = wrong (ap (λ (j : Job). get_or j.values 1 0) h.job)

  pub offer_trusting : (j : Job) (a : ℕ) → (Sound j → ⊥) → r.number ≢ 16 → OfferResult j a r → ⊥
  offer_trusting j a unsound wrong h = wrong (h.number ∙ ((unsound_refused j unsound).offers a).0)

  module _ (left : List ℕ) where
    pub lot_refusing : r.number ≢ 0 → LotResult k1 (0 ∷ []) (9 ∷ []) r left → ⊥
    unfolding computing k1
    lot_refusing wrong h = wrong h.number

    -- the byte that says that the point is kept
    pub lot_idle : get_or left 0 0 ≢ 0 → LotResult k1 (0 ∷ []) (9 ∷ []) r left → ⊥
    unfolding computing k1
    lot_idle wrong h = wrong (ap (λ (s : List ℕ). get_or s 0 0) h.left)

    -- the points 1 and 3 come in a later lot than the point 0
    pub lot_marking : take 3 r.job.values ≢ 0 ∷ 5 ∷ 1 ∷ [] → LotResult (lotted k1 (0 ∷ [])) (1 ∷ 3 ∷ []) (9 ∷ 9 ∷ []) r left → ⊥
    unfolding computing k1
    lot_marking wrong h = wrong (ap (λ (j : Job). take 3 j.values) h.job)

    -- a point kept by an earlier lot is offered again
    pub lot_forgetful : get_or left 0 0 ≢ 12 → LotResult (lotted k1 (0 ∷ [])) (0 ∷ []) (9 ∷ []) r left → ⊥
    unfolding computing k1
    lot_forgetful wrong h = wrong (ap (λ (s : List ℕ). get_or s 0 0) h.left)

    pub lot_touching : get_or left 1 0 ≢ 9 → LotResult k1 (0 ∷ []) (9 ∷ 9 ∷ []) r left → ⊥
    unfolding computing k1
    lot_touching wrong h = wrong (ap (λ (s : List ℕ). get_or s 1 0) h.left)

    pub lot_trusting : (j : Job) (xs bytes : List ℕ) → (Sound j → ⊥) → r.number ≢ 16 → LotResult j xs bytes r left → ⊥
    lot_trusting j xs bytes unsound wrong h = wrong (h.number ∙ ((unsound_refused j unsound).lots xs bytes).0)

module _ (p m e n f : ℕ) (s t : List ℕ) (accepts : open_number p m e n f s t ≡ 0) (out : List ℕ)
    (fits : room (tables p m e n f s t) ≤ length out) (r : ReadAnswer) (left : List ℕ) where
  abbrev polynomials : Pair
  polynomials = tables p m e n f s t

  pub read_full : (cs : List Call) → needed polynomials ≤ offered_count polynomials cs
      → ReadResult (run (opened p m e n f s t) cs) out r left → (r.number ≡ 0) × (left ≡ written polynomials ++ drop (room polynomials) out)
  read_full cs enough h =
      let d = (demand_3 p m e n f s t cs accepts out fits).complete enough in (h.number ∙ d.0, h.left ∙ d.1)

  pub shot_full : ShotResult p m e n f s t out r left → (r.number ≡ 0) × (left ≡ written polynomials ++ drop (room polynomials) out)
  unfolding shot_out out_after
  shot_full h = (h.number ∙ answer, h.left ∙ ap (λ (k : ℕ). cond (eqb k 0) (written polynomials ++ drop (room polynomials) out) out) answer)
    where
      answer : shot_answer p m e n f s t out ≡ 0
      answer = unfold shot_answer one_shot_number ◌then◌ ◌gives◌otherwise◌ in rw (accepts, le-ltb (length out) (room polynomials) fits) refl

-- K1's points in two lots, and what is right in the end: the coefficients of 5y, and the rest of the output as it was
abbrev lots : List Call
lots = lot (0 ∷ []) (9 ∷ []) ∷ lot (1 ∷ 3 ∷ []) (9 ∷ 9 ∷ []) ∷ []

abbrev right : List ℕ → List ℕ
right out = 0 ∷ 5 ∷ 0 ∷ drop 3 out

module _ (out : List ℕ) (fits : 3 ≤ length out) (r : ReadAnswer) where
  read-k1 : (left : List ℕ) → ReadResult (run k1 lots) out r left → (r.number ≡ 0) × (left ≡ right out)
  unfolding computing k1 offered_count all_points points_of counts counting distinct
  read-k1 left h = read_full 7 1 1 1 1 narrow other refl out fits r left lots (omega arith) h

  shot-k1 : (left : List ℕ) → ShotResult 7 1 1 1 1 narrow other out r left → (r.number ≡ 0) × (left ≡ right out)
  unfolding computing
  shot-k1 left h = shot_full 7 1 1 1 1 narrow other refl out fits r left h

  pub read_idle : out ≢ right out → ReadResult (run k1 lots) out r out → ⊥
  read_idle wrong h = wrong (read-k1 out h).1

  pub shot_idle : out ≢ right out → ShotResult 7 1 1 1 1 narrow other out r out → ⊥
  shot_idle wrong h = wrong (shot-k1 out h).1

  module _ (left : List ℕ) where
    pub read_refusing : r.number ≢ 0 → ReadResult (run k1 lots) out r left → ⊥
    read_refusing wrong h = wrong (read-k1 left h).0

    -- the polynomial through values that were not worked out, or any other than the determinant
    pub read_marking : left ≢ right out → ReadResult (run k1 lots) out r left → ⊥
    read_marking wrong h = wrong (read-k1 left h).1

    pub read_touching : drop 3 left ≢ drop 3 out → ReadResult (run k1 lots) out r left → ⊥
    read_touching wrong h = wrong (ap (drop 3) (read-k1 left h).1)

    pub shot_refusing : r.number ≢ 0 → ShotResult 7 1 1 1 1 narrow other out r left → ⊥
    shot_refusing wrong h = wrong (shot-k1 left h).0

    pub shot_touching : drop 3 left ≢ drop 3 out → ShotResult 7 1 1 1 1 narrow other out r left → ⊥
    shot_touching wrong h = wrong (ap (drop 3) (shot-k1 left h).1)

module _ (out left : List ℕ) (r : ReadAnswer) where
  -- two points of three are kept
  pub read-early : r.number ≢ 14 → ReadResult (lotted k1 (0 ∷ 1 ∷ [])) out r left → ⊥
  unfolding computing k1
  read-early wrong h = wrong h.number

  -- one point of three is kept
  pub read_inventing : r.wanted ≢ 2 → ReadResult (lotted k1 (0 ∷ [])) out r left → ⊥
  unfolding computing k1
  read_inventing wrong h = wrong h.wanted

  pub read_trusting : (j : Job) → (Sound j → ⊥) → r.number ≢ 16 → ReadResult j out r left → ⊥
  read_trusting j unsound wrong h = wrong (h.number ∙ ((unsound_refused j unsound).reads out).0)

-- K8's pair
abbrev k8a : List ℕ
k8a = 0 ∷ 1 ∷ 0 ∷ 0 ∷ 1 ∷ 0 ∷ []

abbrev k8b : List ℕ
k8b = 1 ∷ 1 ∷ []

unfoldable pub k8 : Job
k8 = opened 5 2 1 1 0 k8a k8b

-- two outputs that begin alike: K1's determinant is 5y, K8's is 1 + y
module _ (out out' left left' : List ℕ) (r r' : ReadAnswer) (fits : 3 ≤ length out) (fits' : 2 ≤ length out') (same : get_or left 0 0 ≡ get_or left' 0 0) where
  apart : left ≡ right out → left' ≡ 1 ∷ 1 ∷ drop 2 out' → ⊥
  apart e e' =
      let z : ◌≡◌ {A = ℕ} 0 1 = sym (ap (λ (s : List ℕ). get_or s 0 0) e) ∙ same ∙ ap (λ (s : List ℕ). get_or s 0 0) e' in omega arith

  pub read_fixed : ReadResult (run k1 lots) out r left → ReadResult (run k8 (lot (0 ∷ 1 ∷ []) (9 ∷ 9 ∷ []) ∷ [])) out' r' left' → ⊥
  unfolding computing k8 offered_count all_points points_of counts counting distinct
  read_fixed h h' = apart (read-k1 out fits r left h).1 (read_full 5 2 1 1 0 k8a k8b refl out' fits' r' left' _ (omega arith) h').1

  pub shot_fixed : ShotResult 7 1 1 1 1 narrow other out r left → ShotResult 5 2 1 1 0 k8a k8b out' r' left' → ⊥
  unfolding computing
  shot_fixed h h' = apart (shot-k1 out fits r left h).1 (shot_full 5 2 1 1 0 k8a k8b refl out' fits' r' left' h').1
