-- A lot as a loop over its points.
--
--   Passed j xs old i bytes k  the first i points of xs are passed: the answer bytes, old before, are bytes, and the job is k
--   passed_none                before the first
--   passed_more                one point more
use Prim.Native.Nat.{ℕ, suc, ◌+◌, ◌<◌, ◌≤◌}
use native.Mathlib.Numerals.{add-one}
use native.Mathlib.Omega.{arith}
use mathlib.Core.List.{List, [], ◌∷◌, ◌++◌, append_assoc}
use mathlib.Core.Path.{◌≡◌, refl, sym, ap, ◌∙◌}
use lib.ListN.{length, get_or, take, drop, set}
use lib.Seq.{take-suc, drop-cons, length-take-le, set-append_seam}
use Rattle.job.specs.declared.Job.{Job}
use Rattle.job.specs.Calls.{offer_number, offered, lot_answers, lotted}
use Rattle.job.specs.StandingLaws.{lotted-append, lot_answers-append}

lot_answers-length : (j : Job) (xs : List ℕ) → length (lot_answers j xs) ≡ length xs
unfolding lot_answers
lot_answers-length j [] = refl
lot_answers-length j (a ∷ xs) = ap suc (lot_answers-length (offered j a) xs)

pub record Passed (j : Job) (xs : List ℕ) (old : List ℕ) (i : ℕ) (bytes : List ℕ) (k : Job) : Type 0 where
  pub within : i ≤ length xs
  pub job : k ≡ lotted j (take i xs)
  pub answers : bytes ≡ lot_answers j (take i xs) ++ drop i old

module _ (j : Job) (xs old : List ℕ) (room : length xs ≤ length old) where
  pub passed_none : Passed j xs old 0 old j
  unfolding lotted lot_answers
  passed_none = record { within = omega arith; job = refl; answers = refl }

  module _ {i : ℕ} {bytes : List ℕ} {k : Job} (h : Passed j xs old i bytes k) where
    -- the answers so far are i bytes
    count : length (lot_answers j (take i xs)) ≡ i
    count = lot_answers-length j (take i xs) ∙ length-take-le i xs h.within

    pub passed_more : i < length xs → {r : ℕ} {next : Job} → r ≡ offer_number k (get_or xs i 0) → next ≡ offered k (get_or xs i 0)
        → Passed j xs old (i + 1) (set bytes i r) next
    unfolding lotted lot_answers
    passed_more l {r} {next} number after = record {
      within = omega arith;
      job = after ∙ ap (λ (q : Job). offered q (get_or xs i 0)) h.job ∙ sym (lotted-append j (take i xs) (get_or xs i 0 ∷ [])) ∙ ap (lotted j) (sym front);
      answers = written ∙ ap (λ (l : List ℕ). l ++ drop (i + 1) old) (ap (λ (q : ℕ). done ++ q ∷ []) (number ∙ ap (λ (q : Job). offer_number q (get_or xs i 0)) h.job)
          ∙ sym (lot_answers-append j (take i xs) (get_or xs i 0 ∷ [])) ∙ ap (lot_answers j) (sym front));
    }
      where
        done : List ℕ
        done = lot_answers j (take i xs)

        front : take (i + 1) xs ≡ take i xs ++ get_or xs i 0 ∷ []
        front = ap (λ (n : ℕ). take n xs) (add-one i) ∙ take-suc xs i 0 l

        written : set bytes i r ≡ (done ++ r ∷ []) ++ drop (i + 1) old
        written =
            ap (λ (b : List ℕ). set b i r) (h.answers ∙ ap (λ (b : List ℕ). done ++ b) (drop-cons old i 0 (omega (arith, room))))
            ∙ ap (λ (n : ℕ). set (done ++ get_or old i 0 ∷ drop (suc i) old) n r) (sym count)
            ∙ set-append_seam done (get_or old i 0) (drop (suc i) old) r
            ∙ sym (append_assoc done (r ∷ []) (drop (suc i) old))
            ∙ ap (λ (n : ℕ). (done ++ r ∷ []) ++ drop n old) (sym (add-one i))
