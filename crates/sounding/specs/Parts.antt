-- The test of a record, in the parts in which the code makes it.
--
--   sound_numbers p m n             the modulus and the degrees in x are those of an accepted opening
--   sound_table p m d t             a table of 289 entries with degrees m in x and d in y, as an accepted opening lays it out
--   sound_tables p m da n db s t    two such tables, with as many usable points as they need
--   kept_at P before a value        the point a would have been kept after those before it, and with this value
--   kept_pairs P points values      each of the points would have been kept after those before it, and with its value
use Rattle.std.specs.Prelude.{ℕ, ◌+◌, ◌*◌, Bool, not, ◌&&◌, List, [], map, eqb, drop}
use Rattle.scope.specs.Pair.{Pair, term, tables, occurs, largest}
use Rattle.scope.specs.Point.{kept, enough}
use Rattle.scope.specs.Number.{outside, composite, too_high, over, no_lead, point_number}
use Rattle.job.specs.Sound.{zeros, same, good}

unfoldable pub sound_numbers : (p m n : ℕ) → Bool
sound_numbers p m n = not (outside p) && not (composite p) && not (too_high m) && not (too_high n)

unfoldable pub sound_table : (p m d : ℕ) → List ℕ → Bool
sound_table p m d t = not (over p t) && zeros (drop ((m + 1) * 17) t) && not (no_lead m 16 t) && eqb d (largest 16 (occurs m (term 16 t)))

unfoldable pub sound_tables : (p m da n db : ℕ) → List ℕ → List ℕ → Bool
sound_tables p m da n db s t = sound_table p m da s && sound_table p n db t && enough (tables p m 16 n 16 s t)

unfoldable pub kept_at : Pair → List ℕ → (a value : ℕ) → Bool
kept_at P before a value = eqb (point_number P before a) 0 && eqb value (kept P a)

unfoldable pub kept_pairs : Pair → List ℕ → List ℕ → Bool
kept_pairs P points values = good P [] points && same values (map (kept P) points)
