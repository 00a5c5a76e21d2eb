-- What the one-shot answers and leaves behind, on any input.
--
--   Shot p m e n f s t out r after   the answer r for the tables s and t and the output out, and the output afterwards
use Rattle.std.specs.Prelude.{ℕ, List, ◌≡◌}
use Rattle.job.specs.declared.ReadAnswer.{ReadAnswer}
use Rattle.job.specs.Public.{shot_answer, shot_degree, shot_zero, shot_out}

pub record Shot (p m e n f : ℕ) (s t out : List ℕ) (r : ReadAnswer) (after : List ℕ) : Type 0 where
  pub number : r.number ≡ shot_answer p m e n f s t out
  pub wanted : r.wanted ≡ 0
  pub degree : r.degree ≡ shot_degree p m e n f s t out
  pub zero : r.zero ≡ shot_zero p m e n f s t out
  pub output : after ≡ shot_out p m e n f s t out
