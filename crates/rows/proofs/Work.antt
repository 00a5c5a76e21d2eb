-- Division in the work row, stopped at the place k of the quotient. Here d is the divisor's degree.
--
--   shape p d a b k       the work row of the dividend a there: the untouched places below k, then remainder and quotient
--                         of what stands from k on
--   Work p d a b row k    row is that row
--   work_first            before the first turn, at the quotient's length
--   work_more             one turn: the multiply-and-subtract from the place j on, then the quotient's entry in its place
--   work_none             a row no longer than d stays
--   work-last             at 0 the row is remainder and quotient of a
use Prim.Native.Nat.{ℕ, suc, ◌+◌, ◌-◌, ◌*◌, ◌%◌, ◌<◌, ◌≤◌}
use native.Mathlib.Omega.{arith}
use mathlib.Core.List.{List, [], ◌∷◌, ◌++◌, append_assoc, append-nil}
use mathlib.Core.Path.{◌≡◌, sym, ap, ◌∙◌}
use lib.ListN.{length, get_or, set, take, drop, length-append, length-take, length-drop, drop_of_length-le, take-append-drop, get_or-append}
use lib.Seq.{length-take-le, take_all, take_at, drop_at, take-suc, drop-cons, take-append-le, drop-append-le, get_or-append-add, set_at, get_or-take, append_snoc}
use borrow.Rule.Slice.PartMut.{mid_of, put_mid}
use Rattle.residue.specs.Inverse.{inverse}
use Rattle.euclid.specs.Row.{declared}
use Rattle.euclid.specs.RowLaws.{Below}
use Rattle.euclid.specs.Division.{less, entry, rest, divide, remainder, quotient}
use Rattle.euclid.specs.DivisionLaws.{less-length, divide-length, divide-count, divide-below, divide-quotient-below}
use Rattle.rows.proofs.Bounds.{below-append, below-take, below-drop}
use Rattle.rows.proofs.Places.{less_cut}

-- the part of a row from the place j to its end
pub part_end : (j : ℕ) (row : List ℕ) → mid_of j (length row - j) row ≡ drop j row
part_end j row = take_all (length row - j) (drop j row) (omega (arith, length-drop j row))

put_end : (j : ℕ) (row ys : List ℕ) → put_mid j (length row - j) row ys ≡ take j row ++ ys
put_end j row ys =
    ap (λ (l : List ℕ). take j row ++ (ys ++ l)) (drop_of_length-le (drop j row) {i = length row - j} (omega (arith, length-drop j row)))
    ∙ ap (λ (l : List ℕ). take j row ++ l) (append-nil ys)

-- a row with s at the place j, one entry longer than d, after q times b is taken from it there and q is stored at its end
taken : (p q j d : ℕ) (b pre s post : List ℕ) → length pre ≡ j → length s ≡ suc d
    → set (pre ++ (less p q (take d (s ++ post)) (take d b) ++ drop d (s ++ post))) (j + d) q
    ≡ pre ++ (less p q (take d s) (take d b) ++ q ∷ post)
taken p q j d b pre s post hj hs =
    ap (λ (l : List ℕ). set (pre ++ l) (j + d) q) ends
    ∙ ap (λ (l : List ℕ). set l (j + d) q) (sym (append_assoc pre front (get_or s d 0 ∷ post)))
    ∙ set_at (pre ++ front) (get_or s d 0) post q (j + d) (length-append pre front ∙ long)
    ∙ append_assoc pre front (q ∷ post)
  where
    front : List ℕ
    front = less p q (take d s) (take d b)

    long : length pre + length front ≡ j + d
    long = omega (arith, less-length p q (take d s) (take d b), length-take-le d s (omega arith))

    ends : less p q (take d (s ++ post)) (take d b) ++ drop d (s ++ post) ≡ front ++ get_or s d 0 ∷ post
    ends =
        ap (λ (l : List ℕ). less p q l (take d b) ++ drop d (s ++ post)) (take-append-le d s post (omega arith))
        ∙ ap (λ (l : List ℕ). front ++ l)
        (drop-append-le d s post (omega arith)
        ∙ ap (λ (l : List ℕ). l ++ post) (drop-cons s d 0 (omega arith) ∙ ap (λ (l : List ℕ). get_or s d 0 ∷ l) (drop_of_length-le s {i = suc d} (omega arith))))

pub work_none : (p : ℕ) (a b : List ℕ) → length a ≤ declared b → a ≡ remainder p a b ++ quotient p a b
unfolding remainder quotient divide
work_none p a b short =
    let e : length a - declared b ≡ 0 = omega arith in
    sym (append-nil a)
    ∙ ap (λ (n : ℕ). (divide p b (take n a) (drop n a)).0 ++ (divide p b (take n a) (drop n a)).1) (sym e)

module _ (p d : ℕ) (a b : List ℕ) where
  -- the quotient's length
  abbrev pub top : ℕ
  top = length a - d

  -- remainder and quotient of what stands from k on
  abbrev left : ℕ → List ℕ × List ℕ
  left k = divide p b (drop k (take top a)) (drop top a)

  abbrev shape : ℕ → List ℕ
  shape k = take k a ++ ((left k).0 ++ (left k).1)

  pub record Work (row : List ℕ) (k : ℕ) : Type 0 where
    pub within : k ≤ top
    pub is : row ≡ shape k
    pub long : length row ≡ length a
    pub below : Below p row

  module _ (same : d ≡ declared b) (fits : d ≤ length a) (bound : Below p a) where
    pos : 0 < p
    pos = omega (arith, bound 0)

    up-length : length (drop top a) ≡ declared b
    up-length = length-drop top a ∙ omega arith

    work : {row : List ℕ} {k : ℕ} → k ≤ top → row ≡ shape k → Work row k
    work {row} {k} within is =
        record {
          within = within;
          is = is;
          long =
              ap length is
              ∙ length-append (take k a) ((left k).0 ++ (left k).1)
              ∙ omega (
                arith,
                length-take-le k a (omega arith),
                length-append (left k).0 (left k).1,
                divide-length p b (drop k (take top a)) (drop top a) (λ _. up-length),
                divide-count p b (drop k (take top a)) (drop top a),
                length-drop k (take top a),
                length-take-le top a (omega arith),
                up-length,
              );
          below =
              rw is
              (below-append (take k a) ((left k).0 ++ (left k).1)
              (below-take pos k a bound)
              (below-append (left k).0 (left k).1
              (divide-below p b pos (drop k (take top a)) (drop top a) (λ _. up-length) (below-drop top a bound))
              (divide-quotient-below p b pos (drop k (take top a)) (drop top a))));
        }

    pub work_first : Work a top
    unfolding divide
    work_first = work (omega arith) (sym (take-append-drop top a) ∙ ap (λ (l : List ℕ). take top a ++ l) rests)
      where
        none : drop top (take top a) ≡ []
        none = drop_of_length-le (take top a) {i = top} (omega (arith, length-take top a))

        rests : drop top a ≡ (left top).0 ++ (left top).1
        rests =
            sym (append-nil (drop top a))
            ∙ ap (λ (l : List ℕ). (divide p b l (drop top a)).0 ++ (divide p b l (drop top a)).1) (sym none)

    -- the row that begins at the place j with all that is not yet divided
    next : ℕ → List ℕ
    next j = get_or a j 0 ∷ (left (suc j)).0

    next-length : (j : ℕ) → length (next j) ≡ suc d
    unfolding next
    next-length j = ap suc (divide-length p b (drop (suc j) (take top a)) (drop top a) (λ _. up-length) ∙ up-length ∙ sym same)

    module _ {row : List ℕ} {j k : ℕ} (h : Work row k) (e : k ≡ suc j) where
      turned : row ≡ take j a ++ (next j ++ (left (suc j)).1)
      unfolding next
      turned =
          h.is
          ∙ ap shape e
          ∙ ap (λ (l : List ℕ). l ++ ((left (suc j)).0 ++ (left (suc j)).1)) (take-suc a j 0 (omega (arith, h.within)))
          ∙ append_snoc (take j a) (get_or a j 0) ((left (suc j)).0 ++ (left (suc j)).1)

      front_length : length (take j a) ≡ j
      front_length = length-take-le j a (omega (arith, h.within))

      last : get_or row (j + d) 0 ≡ get_or (next j) d 0
      last =
          ap (λ (l : List ℕ). get_or l (j + d) 0) turned
          ∙ ap (λ (n : ℕ). get_or (take j a ++ (next j ++ (left (suc j)).1)) (n + d) 0) (sym front_length)
          ∙ get_or-append-add (take j a) (next j ++ (left (suc j)).1) d 0
          ∙ get_or-append (next j) (left (suc j)).1 0 d (omega (arith, next-length j))

      pub work_more : {q f : ℕ} {ys : List ℕ} → f ≡ inverse p (get_or b (declared b) 0) → q ≡ get_or row (j + d) 0 * f % p
          → ys ≡ less p q (mid_of j (length row - j) row) (take d b)
          → Work (set (put_mid j (length row - j) row ys) (j + d) q) j
      unfolding divide rest entry next
      work_more {q} {f} {ys} ef eq ey =
          work (omega (arith, h.within))
          (ap (λ (l : List ℕ). set l (j + d) q) (put_end j row ys ∙ ap (λ (l : List ℕ). l ++ ys) front ∙ ap (λ (l : List ℕ). take j a ++ l) (ey ∙ ap (λ (l : List ℕ). less p q l (take d b)) (part_end j row ∙ back) ∙ less_cut p q d (next j ++ post) (take d b) (omega (arith, length-take d b))))
          ∙ taken p q j d b (take j a) (next j) post front_length (next-length j)
          ∙ ap (λ (l : List ℕ). take j a ++ l) (ap (λ (n : ℕ). less p q (take n (next j)) (take n b) ++ q ∷ post) same ∙ ap (λ (n : ℕ). less p n (take (declared b) (next j)) (take (declared b) b) ++ n ∷ post) is-entry ∙ ap (λ (l : List ℕ). (divide p b l (drop top a)).0 ++ (divide p b l (drop top a)).1) (sym low)))
        where
          post : List ℕ
          post = (left (suc j)).1

          front : take j row ≡ take j a
          front = ap (take j) turned ∙ take_at (take j a) (next j ++ post) j front_length

          back : drop j row ≡ next j ++ post
          back = ap (drop j) turned ∙ drop_at (take j a) (next j ++ post) j front_length

          low : drop j (take top a) ≡ get_or a j 0 ∷ drop (suc j) (take top a)
          low =
              drop-cons (take top a) j 0 (omega (arith, length-take-le top a (omega arith), h.within))
              ∙ ap (λ (x : ℕ). x ∷ drop (suc j) (take top a)) (get_or-take top a j 0 (omega (arith, h.within)))

          is-entry : q ≡ entry p b (next j)
          is-entry =
              eq
              ∙ ap (λ (n : ℕ). n * f % p) (last ∙ ap (λ (n : ℕ). get_or (next j) n 0) same)
              ∙ ap (λ (n : ℕ). get_or (next j) (declared b) 0 * n % p) ef

    pub work-last : {row : List ℕ} {k : ℕ} → Work row k → k ≤ 0 → row ≡ remainder p a b ++ quotient p a b
    unfolding remainder quotient
    work-last {row} {k} h end =
        let e : k ≡ 0 = omega arith in
        h.is
        ∙ ap shape e
        ∙ ap (λ (n : ℕ). (divide p b (take (length a - n) a) (drop (length a - n) a)).0 ++ (divide p b (take (length a - n) a) (drop (length a - n) a)).1) same
