-- Laying a table out 17 places to a power of x: row by row, and a row entry by entry.
--
--   row_fits              the rows of a table lie within it
--   Laid e t i k          k, of 289 entries, holds the rows of t below i, and is 0 from row i on
--   laid_none             before the first row
--   put_before, put_here, put_after    the entries of a list into which a row was written
--   laid_more             one row more
--   laid_all              all rows: the table laid out
use Prim.Native.Nat.{ℕ, ◌+◌, ◌*◌, ◌-◌, ◌/◌, ◌%◌, ◌<◌, ◌≤◌}
use native.Mathlib.Decide.{dec_lt}
use native.Mathlib.Nat.{add-mul, one-mul, mul-le-mul_right}
use native.Mathlib.Omega.{arith}
use mathlib.Core.List.{List, ◌++◌}
use mathlib.Core.Path.{◌≡◌, sym, ap, ap₂, ◌∙◌}
use lib.ListN.{length, get_or, take, drop, replicate, length-replicate, length-drop, get_or-append}
use lib.Seq.{ext_get_or, get_or-append-add, get_or-drop, get_or-take}
use Rattle.std.proofs.Common.{length-take-le}
use borrow.Rule.Slice.PartMut.{put_mid, same_len_mid}
use Rattle.scope.specs.Pair.{size, term, place}
use Rattle.job.specs.Job.{spread}
use Rattle.scope.specs.TableLaws.{term_inside, term_high}
use Rattle.job.specs.OpenLaws.{spread-length, spread-get_or, spread-outside, get_or-zeros}

pub row_fits : (i m e : ℕ) → i ≤ m → i * (e + 1) + (e + 1) ≤ size m e
unfolding size
row_fits i m e h = omega (arith, add-mul i 1 (e + 1), one-mul (e + 1), mul-le-mul_right {m = i + 1} {n = m + 1} (e + 1) (omega arith))

pub record Laid (e : ℕ) (t : List ℕ) (i : ℕ) (k : List ℕ) : Type 0 where
  pub long : length k ≡ 289
  pub done : (c : ℕ) → c < i * 17 → get_or k c 0 ≡ term e t (c / 17) (c % 17)
  pub left : (c : ℕ) → i * 17 ≤ c → get_or k c 0 ≡ 0

pub laid_none : {e : ℕ} {t : List ℕ} → Laid e t 0 (replicate 289 0)
laid_none =
    record { long = length-replicate {A = ℕ} 289 0; done = λ c b. absurd (omega arith); left = λ c _. get_or-zeros 289 c }

-- the entry at j of row i stands at its place
entry : (e : ℕ) (t : List ℕ) (i j c : ℕ) → e ≤ 16 → j ≤ e → c ≡ i * 17 + j → get_or t (i * (e + 1) + j) 0 ≡ term e t (c / 17) (c % 17)
unfolding place
entry e t i j c low l at =
    let row : i ≡ c / 17 = omega arith in
    let column : j ≡ c % 17 = omega arith in
    sym (term_inside e t i j l) ∙ ap₂ (term e t) row column

-- a list with ys in the place of its k entries from a on
module _ (a k : ℕ) (xs ys : List ℕ) (long : length ys ≡ k) (room : a + k ≤ length xs) where
  front : length (take a xs) ≡ a
  front = length-take-le a xs (omega arith)

  put_before : (c : ℕ) → c < a → get_or (put_mid a k xs ys) c 0 ≡ get_or xs c 0
  put_before c b = get_or-append (take a xs) (ys ++ drop k (drop a xs)) 0 c (omega (arith, front)) ∙ get_or-take a xs c 0 b

  put_here : (c : ℕ) → a ≤ c → c < a + k → get_or (put_mid a k xs ys) c 0 ≡ get_or ys (c - a) 0
  put_here c l b =
      let at : c ≡ length (take a xs) + (c - a) = omega (arith, front) in
      ap (λ (n : ℕ). get_or (put_mid a k xs ys) n 0) at
      ∙ get_or-append-add (take a xs) (ys ++ drop k (drop a xs)) (c - a) 0
      ∙ get_or-append ys (drop k (drop a xs)) 0 (c - a) (omega arith)

  put_after : (c : ℕ) → a + k ≤ c → get_or (put_mid a k xs ys) c 0 ≡ get_or xs c 0
  put_after c l =
      let at : c ≡ length (take a xs) + (length ys + (c - (a + k))) = omega (arith, front) in
      let back : a + (k + (c - (a + k))) ≡ c = omega arith in
      ap (λ (n : ℕ). get_or (put_mid a k xs ys) n 0) at
      ∙ get_or-append-add (take a xs) (ys ++ drop k (drop a xs)) (length ys + (c - (a + k))) 0
      ∙ get_or-append-add ys (drop k (drop a xs)) (c - (a + k)) 0
      ∙ get_or-drop k (drop a xs) (c - (a + k)) 0
      ∙ get_or-drop a xs (k + (c - (a + k))) 0
      ∙ ap (λ (n : ℕ). get_or xs n 0) back

pub laid_more : {e m : ℕ} {t : List ℕ} {i : ℕ} {l row : List ℕ} (k : ℕ) → k ≡ e + 1 → e ≤ 16 → i ≤ m → m ≤ 16 → length t ≡ size m e → Laid e t i l
    → row ≡ take (e + 1) (drop (i * (e + 1)) t) → Laid e t (i + 1) (put_mid (i * 17) k l row)
laid_more {e} {m} {t} {i} {l} {row} k width low within small fits h part =
    record {
      long = same_len_mid (i * 17) k l row (long ∙ sym (length-take-le k (drop (i * 17) l) (omega (arith, length-drop (i * 17) l, room)))) ∙ h.long;
      done = λ c b. elim (dec_lt c (i * 17)) [
        | yes a ↦ put_before (i * 17) k l row long room c a ∙ h.done c a
        | no a ↦ elim (dec_lt c (i * 17 + (e + 1))) [
          | yes d ↦ put_here (i * 17) k l row long room c (omega arith) (omega arith) ∙ read (c - i * 17) (omega arith) ∙ entry e t i (c - i * 17) c low (omega arith) (omega arith)
          | no d ↦ put_after (i * 17) k l row long room c (omega arith) ∙ h.left c (omega arith) ∙ sym (term_high e t (c / 17) (c % 17) (omega arith))
        ]
      ];
      left = λ c a. put_after (i * 17) k l row long room c (omega arith) ∙ h.left c (omega arith);
    }
  where
    long : length row ≡ k
    long = ap length part ∙ length-take-le (e + 1) (drop (i * (e + 1)) t) (omega (arith, length-drop (i * (e + 1)) t, fits, row_fits i m e within)) ∙ sym width

    room : i * 17 + k ≤ length l
    room = omega (arith, h.long)

    read : (c : ℕ) → c < e + 1 → get_or row c 0 ≡ get_or t (i * (e + 1) + c) 0
    read c b = ap (λ (r : List ℕ). get_or r c 0) part ∙ get_or-take (e + 1) (drop (i * (e + 1)) t) c 0 b ∙ get_or-drop (i * (e + 1)) t c 0

pub laid_all : (m : ℕ) {e : ℕ} {t : List ℕ} {i : ℕ} {k : List ℕ} → m ≤ 16 → e ≤ 16 → length t ≡ size m e → Laid e t i k → i ≡ m + 1
    → k ≡ spread e t
laid_all m {e} {t} {i} {k} low_m low_e len h all =
    ext_get_or 0 k (spread e t) (h.long ∙ sym (spread-length e t)) same
  where
    same : (c : ℕ) → c < length k → get_or k c 0 ≡ get_or (spread e t) c 0
    same c b = elim (dec_lt c (i * 17)) [
      | yes a ↦ h.done c a ∙ sym (spread-get_or m e t low_m low_e len c)
      | no a ↦ h.left c (omega arith) ∙ sym (spread-outside m e t low_m low_e len c (omega arith))
    ]
