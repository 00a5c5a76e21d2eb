-- What a read of a sound job answers and leaves behind.
--
--   ReadSound j out r after   the answer r to a read of j into out, and the output afterwards
use Rattle.std.specs.Prelude.{ℕ, cond, List, ◌≡◌, eqb, length}
use Rattle.scope.specs.Answers.{only_done}
use Rattle.job.specs.declared.Job.{Job}
use Rattle.job.specs.declared.ReadAnswer.{ReadAnswer}
use Rattle.job.specs.Job.{pair_of}
use Rattle.job.specs.Calls.{reading, wanted as stillWanted, degree_of}
use Rattle.job.specs.Public.{out_after, zero_flag}

pub record ReadSound (j : Job) (out : List ℕ) (r : ReadAnswer) (after : List ℕ) : Type 0 where
  pub number : r.number ≡ reading j (length out)
  pub wanted : r.wanted ≡ cond (eqb (reading j (length out)) 14) (stillWanted j) 0
  pub degree : r.degree ≡ only_done (reading j (length out)) (degree_of (pair_of j))
  pub zero : r.zero ≡ only_done (reading j (length out)) (zero_flag (pair_of j))
  pub output : after ≡ out_after (reading j (length out)) (pair_of j) out
