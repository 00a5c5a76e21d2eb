-- A read's answer, from what the read came to.
--
--   answered r     the record: the number, the points wanted, the degree, and 1 where the polynomial is zero; the degree is
--                  None where it is
use Rattle.std.specs.Prelude.{ℕ, Option, Some, None, Result, Ok, Err}
use Rattle.checks.specs.declared.Refusal.{Refusal}
use Rattle.checks.specs.Outcome.{number_of, wanted_of}
use Rattle.job.specs.declared.ReadAnswer.{ReadAnswer}

abbrev pub answered : Result (Option ℕ) Refusal → ReadAnswer
answered (Ok (Some d)) = record { number = 0; wanted = 0; degree = d; zero = 0 }
answered (Ok None) = record { number = 0; wanted = 0; degree = 0; zero = 1 }
answered (Err r) = record { number = number_of r; wanted = wanted_of r; degree = 0; zero = 0 }
