-- What the public calls on a job answer and leave behind, on any input and any record.
--
--   strict_number, strict_job     the strict opening: its number, and the job it hands back
--   open_answer, open_job         opening, which is the strict opening
--   offer_answer, offer_job       a single offer: its number, and the job it hands back
--   lot_answer, lot_job           a lot: its number, and the job it hands back
--   lot_bytes                    the lent answer bytes at exit
--   read_answer, read_wanted      a read: its number, and the number of points still wanted (0 unless that number is 14)
--   read_degree, read_zero        the true degree, and 1 where the polynomial is zero (0 for every refusal)
--   read_out                     the lent output at exit
--   shot_answer .. shot_out       the same for the one-shot
use Rattle.std.specs.Prelude.{ℕ, cond, List, ◌++◌, eqb, length, drop}
use Rattle.scope.specs.Pair.{Pair, tables}
use Rattle.scope.specs.Point.{room}
use Rattle.scope.specs.Number.{open_number, one_shot_number, lot_number}
use Rattle.scope.specs.Answers.{only_done}
use Rattle.job.specs.declared.Job.{Job}
use Rattle.job.specs.Job.{pair_of, opened, blank}
use Rattle.job.specs.Calls.{offer_number, offered, lot_answers, lotted, reading, wanted, written, degree_of, is_zero}
use Rattle.job.specs.Sound.{sound?}

unfoldable pub strict_number : (p m e n f : ℕ) → List ℕ → List ℕ → ℕ
strict_number p m e n f s t = open_number p m e n f s t

unfoldable pub strict_job : (p m e n f : ℕ) → List ℕ → List ℕ → Job
strict_job p m e n f s t = cond (eqb (strict_number p m e n f s t) 0) (opened p m e n f s t) blank

unfoldable pub open_answer : (p m e n f : ℕ) → List ℕ → List ℕ → ℕ
open_answer p m e n f s t = strict_number p m e n f s t

unfoldable pub open_job : (p m e n f : ℕ) → List ℕ → List ℕ → Job
open_job p m e n f s t = strict_job p m e n f s t

unfoldable pub offer_answer : Job → ℕ → ℕ
offer_answer j a = cond (sound? j) (offer_number j a) 16

unfoldable pub offer_job : Job → ℕ → Job
offer_job j a = cond (sound? j) (offered j a) j

unfoldable pub lot_answer : Job → List ℕ → List ℕ → ℕ
lot_answer j xs answers = cond (sound? j) (lot_number (length xs) (length answers)) 16

unfoldable pub lot_job : Job → List ℕ → List ℕ → Job
lot_job j xs answers = cond (eqb (lot_answer j xs answers) 0) (lotted j xs) j

unfoldable pub lot_bytes : Job → List ℕ → List ℕ → List ℕ
lot_bytes j xs answers = cond (eqb (lot_answer j xs answers) 0) (lot_answers j xs ++ drop (length xs) answers) answers

unfoldable pub read_answer : Job → List ℕ → ℕ
read_answer j out = cond (sound? j) (reading j (length out)) 16

unfoldable pub read_wanted : Job → List ℕ → ℕ
read_wanted j out = cond (eqb (read_answer j out) 14) (wanted j) 0

-- the lent output at exit: the determinant's coefficients where the number is 0, else as it was
unfoldable pub out_after : ℕ → Pair → List ℕ → List ℕ
out_after r P out = cond (eqb r 0) (written P ++ drop (room P) out) out

unfoldable pub zero_flag : Pair → ℕ
zero_flag P = cond (is_zero P) 1 0

unfoldable pub read_degree : Job → List ℕ → ℕ
read_degree j out = only_done (read_answer j out) (degree_of (pair_of j))

unfoldable pub read_zero : Job → List ℕ → ℕ
read_zero j out = only_done (read_answer j out) (zero_flag (pair_of j))

unfoldable pub read_out : Job → List ℕ → List ℕ
read_out j out = out_after (read_answer j out) (pair_of j) out

module _ (p m e n f : ℕ) (s t out : List ℕ) where
  unfoldable pub shot_answer : ℕ
  shot_answer = one_shot_number p m e n f s t (length out)

  unfoldable pub shot_degree : ℕ
  shot_degree = only_done shot_answer (degree_of (tables p m e n f s t))

  unfoldable pub shot_zero : ℕ
  shot_zero = only_done shot_answer (zero_flag (tables p m e n f s t))

  unfoldable pub shot_out : List ℕ
  shot_out = out_after shot_answer (tables p m e n f s t) out
