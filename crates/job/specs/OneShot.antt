-- The one-shot is the opening, an offer of the smallest points that suffice, and a read.
--
--   Rising P b k xs          xs rises, from b on and below k, and every point of it is usable
--   usables_rising           the usable points below k do
--   counting_rising          all of them count, and they are different
--   range a                  the points 0, 1, .., a-1
--   counting-range           of these the usable ones count
--   smallest-length, smallest_rising   the points that the one-shot takes: as many as are needed, usable, rising, below p
--   smallest_least           a usable point that it does not take is larger than every one that it takes
--   one_shot_calls           the one-shot's answer, degree and output are those of the read after opening and offering
use Prim.Native.Nat.{ℕ, zero, suc, ◌<◌, ◌≤◌}
use Rattle.std.proofs.Common.{arith, sym, ◌∙◌, length-take}
use Rattle.std.proofs.Math.Decide.{ℕ_discrete}
use Rattle.std.specs.Prelude.{Bool, cond, ◌||◌, take}
use Rattle.std.proofs.Math.Bool.{true, false}
use mathlib.Core.List.{List, [], ◌∷◌, ◌++◌, append-nil}
use Rattle.std.proofs.Math.Path.{◌≡◌, refl, ap}
use Rattle.std.proofs.Math.Dec.{eqb}
use Rattle.std.proofs.Math.ListN.{length}
use borrow.Author.Tests.{lt-ltb, le-ltb, le-leb, leb-true, eqb-true, eq-eqb, ne_eqb}
use Rattle.scope.specs.Pair.{Pair, tables}
use Rattle.scope.specs.Point.{usable, usables, enough, needed, room, smallest}
use Rattle.scope.specs.Number.{among, open_number, one_shot_number, ◌then◌, ◌gives◌otherwise◌}
use Rattle.scope.specs.Answers.{only_done}
use Rattle.job.specs.Job.{opened}
use Rattle.job.specs.Public.{read_answer, read_out, read_degree, read_zero, shot_answer, shot_out, shot_degree, shot_zero, out_after}
use Rattle.job.specs.Demand.{Call, lot, run, points_of, all_points, counts, counting, distinct, offered_count}
use Rattle.job.specs.OpenLaws.{accepted}
use Rattle.job.specs.DemandLaws.{among_snoc, demand_3}

abbrev pub Rising : Pair → ℕ → ℕ → List ℕ → Type 0
Rising P b k [] = b ≤ k
Rising P b k (x ∷ xs) = (b ≤ x) × (usable P x ≡ true) × Rising P (suc x) k xs

rising-order : (P : Pair) (xs : List ℕ) (b k : ℕ) → Rising P b k xs → b ≤ k
rising-order P [] b k r = r
rising-order P (x ∷ xs) b k r = omega (arith, r.0, rising-order P xs (suc x) k r.2)

rising_more : (P : Pair) (xs : List ℕ) (b k : ℕ) → Rising P b k xs → Rising P b (suc k) xs
rising_more P [] b k r = omega (arith, r)
rising_more P (x ∷ xs) b k r = (r.0, r.1, rising_more P xs (suc x) k r.2)

rising_snoc : (P : Pair) (xs : List ℕ) (b k : ℕ) → Rising P b k xs → usable P k ≡ true → Rising P b (suc k) (xs ++ k ∷ [])
rising_snoc P [] b k r u = (r, u, omega arith)
rising_snoc P (x ∷ xs) b k r u = (r.0, r.1, rising_snoc P xs (suc x) k r.2 u)

rising-take : (P : Pair) (xs : List ℕ) (b k n : ℕ) → Rising P b k xs → Rising P b k (take n xs)
rising-take P xs b k zero r = rising-order P xs b k r
rising-take P [] b k (suc n) r = r
rising-take P (x ∷ xs) b k (suc n) r = (r.0, r.1, rising-take P xs (suc x) k n r.2)

pub usables_rising : (P : Pair) (k : ℕ) → Rising P 0 k (usables P k)
unfolding usables
usables_rising P zero = omega arith
usables_rising P (suc k) = go (usable P k) refl (usables_rising P k)
  where
    go : (t : Bool) → usable P k ≡ t → Rising P 0 k (usables P k) → Rising P 0 (suc k) (cond t (usables P k ++ k ∷ []) (usables P k))
    go true u r = rising_snoc P (usables P k) 0 k r u
    go false u r = rising_more P (usables P k) 0 k r

rising-counts : (P : Pair) (xs : List ℕ) (b k : ℕ) → Rising P b k xs → k ≤ P.p → counting P xs ≡ xs
unfolding counting counts
rising-counts P [] b k r l = refl
rising-counts P (x ∷ xs) b k r l =
    rw (lt-ltb x P.p (omega (arith, rising-order P xs (suc x) k r.2)), r.1) (ap (λ (z : List ℕ). x ∷ z) (rising-counts P xs (suc x) k r.2 l))

rising-distinct : (P : Pair) (xs : List ℕ) (b k : ℕ) → Rising P b k xs → (before : List ℕ) → ((y : ℕ) → among y before ≡ true → y < b)
    → distinct before xs ≡ xs
unfolding distinct
rising-distinct P [] b k r before h = refl
rising-distinct P (x ∷ xs) b k r before h =
    go (among x before) refl (rising-distinct P xs (suc x) k r.2 (x ∷ before) older)
  where
    older : (y : ℕ) → among y (x ∷ before) ≡ true → y < suc x
    older y e = unfold among in pick (eqb y x) refl e
      where
        pick : (t : Bool) → eqb y x ≡ t → (t || among y before) ≡ true → y < suc x
        pick true q _ = omega (arith, eqb-true y x q)
        pick false q m = omega (arith, h y m, r.0)

    go : (t : Bool) → among x before ≡ t → distinct (x ∷ before) xs ≡ xs → cond t (distinct before xs) (x ∷ distinct (x ∷ before) xs) ≡ x ∷ xs
    go true q _ = absurd (omega (arith, h x q, r.0))
    go false q e = ap (λ (z : List ℕ). x ∷ z) e

none-among : (y : ℕ) → among y [] ≡ true → y < 0
unfolding among
none-among y e = let z : ◌≡◌ {A = ℕ} 0 1 = cc in absurd (omega arith)

-- rising usable points all count, each once
pub counting_rising : (P : Pair) (xs : List ℕ) (k : ℕ) → Rising P 0 k xs → k ≤ P.p → distinct [] (counting P xs) ≡ xs
counting_rising P xs k r l = ap (distinct []) (rising-counts P xs 0 k r l) ∙ rising-distinct P xs 0 k r [] none-among

unfoldable pub range : ℕ → List ℕ
range zero = []
range (suc a) = range a ++ a ∷ []

counting-append : (P : Pair) (xs ys : List ℕ) → counting P (xs ++ ys) ≡ counting P xs ++ counting P ys
unfolding counting
counting-append P [] ys = refl
counting-append P (x ∷ xs) ys = go (counts P x) (counting-append P xs ys)
  where
    go : (t : Bool) → counting P (xs ++ ys) ≡ counting P xs ++ counting P ys
        → cond t (x ∷ counting P (xs ++ ys)) (counting P (xs ++ ys)) ≡ cond t (x ∷ counting P xs) (counting P xs) ++ counting P ys
    go true e = ap (λ (z : List ℕ). x ∷ z) e
    go false e = e

pub counting-range : (P : Pair) (a : ℕ) → a ≤ P.p → counting P (range a) ≡ usables P a
unfolding range usables
counting-range P zero l = unfold counting in refl
counting-range P (suc a) l =
    counting-append P (range a) (a ∷ [])
    ∙ ap (λ (z : List ℕ). z ++ counting P (a ∷ [])) (counting-range P a (omega (arith, l)))
    ∙ go (usable P a) refl
  where
    go : (t : Bool) → usable P a ≡ t → usables P a ++ counting P (a ∷ []) ≡ cond t (usables P a ++ a ∷ []) (usables P a)
    go true u = unfold counting counts in rw (lt-ltb a P.p (omega (arith, l)), u) refl
    go false u = unfold counting counts in rw (lt-ltb a P.p (omega (arith, l)), u) (append-nil (usables P a))

-- the numbers of a list that rises from b on are not below b
rising_above : (P : Pair) (xs : List ℕ) (b k a : ℕ) → Rising P b k xs → among a xs ≡ true → b ≤ a
unfolding among
rising_above P [] b k a r h = absurd (omega (arith, none-among a h))
rising_above P (x ∷ xs) b k a r h = go (eqb a x) refl h (rising_above P xs (suc x) k a r.2)
  where
    go : (t : Bool) → eqb a x ≡ t → (t || among a xs) ≡ true → (among a xs ≡ true → suc x ≤ a) → b ≤ a
    go true q _ _ = omega (arith, eqb-true a x q, r.0)
    go false q m ih = omega (arith, ih m, r.0)

-- of a rising list, what is not taken is larger than what is
rising_left : (P : Pair) (xs : List ℕ) (b k n a x : ℕ) → Rising P b k xs → among a xs ≡ true → among a (take n xs) ≡ false
    → among x (take n xs) ≡ true → x < a
unfolding among
rising_left P xs b k zero a x r h out into = absurd (omega (arith, none-among x into))
rising_left P [] b k (suc n) a x r h out into = absurd (omega (arith, none-among a h))
rising_left P (y ∷ ys) b k (suc n) a x r h out into =
    go (eqb a y) (eqb x y) refl h out into (rising_left P ys (suc y) k n a x r.2)
  where
    go : (t u : Bool) → eqb x y ≡ u → (t || among a ys) ≡ true → (t || among a (take n ys)) ≡ false → (u || among x (take n ys)) ≡ true
        → (among a ys ≡ true → among a (take n ys) ≡ false → among x (take n ys) ≡ true → x < a) → x < a
    go true u q m o i ih = let z : ◌≡◌ {A = ℕ} 0 1 = cc in absurd (omega arith)
    go false true q m o i ih = omega (arith, eqb-true x y q, rising_above P ys (suc y) k a r.2 m)
    go false false q m o i ih = ih m o i

usables_all : (P : Pair) (k a : ℕ) → a < k → usable P a ≡ true → among a (usables P k) ≡ true
unfolding usables
usables_all P zero a l u = absurd (omega arith)
usables_all P (suc k) a l u = go (usable P k) refl (ℕ_discrete a k) (λ below. usables_all P k a below u)
  where
    go : (t : Bool) → usable P k ≡ t → Dec (a ≡ k) → (a < k → among a (usables P k) ≡ true)
        → among a (cond t (usables P k ++ k ∷ []) (usables P k)) ≡ true
    go true q (yes e) ih = among_snoc a k (usables P k) ∙ unfold among in rw (eq-eqb a k e) refl
    go true q (no n) ih = among_snoc a k (usables P k) ∙ unfold among in rw (ne_eqb a k n) (ih (omega (arith, n)))
    go false q (yes e) ih = let z : ◌≡◌ {A = ℕ} 0 1 = cc in absurd (omega arith)
    go false q (no n) ih = ih (omega (arith, n))

pub smallest_rising : (P : Pair) → Rising P 0 P.p (smallest P)
unfolding smallest
smallest_rising P = rising-take P (usables P P.p) 0 P.p (needed P) (usables_rising P P.p)

pub smallest_least : (P : Pair) (a x : ℕ) → a < P.p → usable P a ≡ true → among a (smallest P) ≡ false → among x (smallest P) ≡ true → x < a
unfolding smallest
smallest_least P a x l u = rising_left P (usables P P.p) 0 P.p (needed P) a x (usables_rising P P.p) (usables_all P P.p a l u)

pub smallest-length : (P : Pair) → enough P ≡ true → length (smallest P) ≡ needed P
unfolding smallest enough
smallest-length P h =
    length-take (needed P) (usables P P.p) ∙ omega (arith, leb-true (needed P) (length (usables P P.p)) h)

module _ (p m e n f : ℕ) (s t answers out : List ℕ) (accepts : open_number p m e n f s t ≡ 0) where
  abbrev polynomials : Pair
  polynomials = tables p m e n f s t

  abbrev offering : List Call
  offering = lot (smallest polynomials) answers ∷ []

  offering-enough : needed polynomials ≤ length answers → offered_count polynomials offering ≡ needed polynomials
  unfolding offered_count all_points points_of tables
  offering-enough l =
      let q : length (smallest polynomials) ≡ needed polynomials = smallest-length polynomials (accepted p m e n f s t accepts).plenty in
      rw (le-leb (length (smallest polynomials)) (length answers) (omega (arith, q)))
      (ap (λ (z : List ℕ). length (distinct [] (counting polynomials z))) (append-nil (smallest polynomials))
      ∙ ap length (counting_rising polynomials (smallest polynomials) p (smallest_rising polynomials) (omega arith))
      ∙ q)

  pub one_shot_calls : needed polynomials ≤ length answers → room polynomials ≤ length out
      → (shot_answer p m e n f s t out ≡ read_answer (run (opened p m e n f s t) offering) out)
      × (shot_out p m e n f s t out ≡ read_out (run (opened p m e n f s t) offering) out)
      × (shot_degree p m e n f s t out ≡ read_degree (run (opened p m e n f s t) offering) out)
      × (shot_zero p m e n f s t out ≡ read_zero (run (opened p m e n f s t) offering) out)
  one_shot_calls l r =
      let d = (demand_3 p m e n f s t offering accepts out r).complete (omega (arith, offering-enough l)) in (
        answer ∙ sym d.0,
        unfold shot_out out_after in rw answer (sym d.1),
        unfold shot_degree only_done in rw answer (sym d.2),
        unfold shot_zero only_done in rw answer (sym d.3),
      )
    where
      answer : shot_answer p m e n f s t out ≡ 0
      answer = unfold shot_answer one_shot_number ◌then◌ ◌gives◌otherwise◌ in rw (accepts, le-ltb (length out) (room polynomials) r) refl
