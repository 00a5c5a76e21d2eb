-- One name that opens every definition behind the calls on a job too.
--
--   computing     on an `unfolding` line: all of them
use Rattle.scope.specs.Computing as scope
use Rattle.job.specs.Job.{pair_of, spread, opened, blank, kept_points, stored}
use Rattle.job.specs.Calls.{interpolant, agrees, offer_number, offered, lot_answers, lotted, reading, wanted, written, nonzero, degree_of, is_zero}
use Rattle.job.specs.Sound.{zeros, same, good, sound_pair, sound_points, shaped, sound?}
use Rattle.job.specs.Public.{strict_number, strict_job, open_answer, open_job, offer_answer, offer_job, lot_answer, lot_job, lot_bytes, read_answer, read_wanted, read_degree, read_zero, read_out, out_after, zero_flag, shot_answer, shot_degree, shot_zero, shot_out}

unfoldable pub computing : Unit {0}
unfolding scope.computing pair_of spread opened blank kept_points stored interpolant agrees offer_number offered lot_answers lotted reading wanted written nonzero degree_of is_zero zeros same good sound_pair sound_points shaped sound? strict_number strict_job open_answer open_job offer_answer offer_job lot_answer lot_job lot_bytes read_answer read_wanted read_degree read_zero read_out out_after zero_flag shot_answer shot_degree shot_zero shot_out
computing = tt
