-- Demand 3: what a read hands out after any list of calls on a fresh job.
--
--   Call                  a call of somebody who holds the job: an offer, a lot with its answer bytes, or a read with its
--                         output
--   after j c, run j cs   the job that the caller then holds
--   points_of c            the points that a call offers: a lot refused for room offers none
--   all_points cs          those of all calls, in order
--   counts P a            a is a usable point
--   distinct before xs     the different ones of a list that are not among those before, each where it first stands
--   offered_count P cs     how many different usable points the calls offered
use Rattle.std.specs.Prelude.{ℕ, Bool, cond, ◌&&◌, List, [], ◌∷◌, ◌++◌, leb, ltb, length}
use Rattle.scope.specs.Pair.{Pair}
use Rattle.scope.specs.Point.{usable}
use Rattle.scope.specs.Number.{among}
use Rattle.job.specs.declared.Job.{Job}
use Rattle.job.specs.Public.{offer_job, lot_job}

pub data Call : Type 0 where
  offer : ℕ → Call
  lot : List ℕ → List ℕ → Call
  read : List ℕ → Call

unfoldable pub after : Job → Call → Job
after j (offer a) = offer_job j a
after j (lot xs answers) = lot_job j xs answers
after j (read out) = j

unfoldable pub run : Job → List Call → Job
run j [] = j
run j (c ∷ cs) = run (after j c) cs

unfoldable pub points_of : Call → List ℕ
points_of (offer a) = a ∷ []
points_of (lot xs answers) = cond (leb (length xs) (length answers)) xs []
points_of (read out) = []

unfoldable pub all_points : List Call → List ℕ
all_points [] = []
all_points (c ∷ cs) = points_of c ++ all_points cs

unfoldable pub counts : Pair → ℕ → Bool
counts P a = ltb a P.p && usable P a

unfoldable pub counting : Pair → List ℕ → List ℕ
counting P [] = []
counting P (a ∷ xs) = cond (counts P a) (a ∷ counting P xs) (counting P xs)

unfoldable pub distinct : List ℕ → List ℕ → List ℕ
distinct before [] = []
distinct before (a ∷ xs) = cond (among a before) (distinct before xs) (a ∷ distinct (a ∷ before) xs)

unfoldable pub offered_count : Pair → List Call → ℕ
offered_count P cs = length (distinct [] (counting P (all_points cs)))
