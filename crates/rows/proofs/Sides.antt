-- Where the last row lies, seen from another pair of work rows.
--
--   lies_swap      the two work rows change places
--   lies-front     the first is the front of a longer one
use Rattle.std.proofs.Common.{arith, List, ℕ, ◌++◌, ◌≡◌, ◌∙◌, sym, subst, length-append}
use Rattle.std.proofs.Math.Seq.{take-append-le}
use Rattle.rows.specs.declared.Place.{Place}
use Rattle.rows.specs.declared.Place.TheVariants.{First, Second}
use Rattle.rows.specs.Last.{swapped, Lies}

swapped-lies : {row u w : List ℕ} (place : Place) → Lies row u w place → Lies row w u (swapped place)
swapped-lies (First len) h = record { within = h.within; is = h.is }
swapped-lies (Second len) h = record { within = h.within; is = h.is }

pub lies_swap : {row u w : List ℕ} {place after : Place} → after ≡ swapped place → Lies row u w place → Lies row w u after
lies_swap {row} {u} {w} {place} e h = subst (Lies row w u) (sym e) (swapped-lies place h)

pub lies-front : {row u w : List ℕ} (rest : List ℕ) (place : Place) → Lies row u w place → Lies row (u ++ rest) w place
lies-front {row} {u} {w} rest (First len) h =
    record {
      within = omega (arith, length-append u rest, h.within);
      is = take-append-le len u rest h.within ∙ h.is;
    }
lies-front rest (Second len) h = record { within = h.within; is = h.is }
