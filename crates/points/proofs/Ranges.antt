-- Searches along a range of numbers.
--
--   some_listed       whether some number below n passes
--   countdown a n     the n numbers from a on, the largest first
--   YieldsList-from_range_back     a range from its end down gives these
--   largest_found     the largest number up to n that passes, looked for from the top
--   enough_found      whether there are so many usable points below n, looked for until so many are found
use Rattle.std.specs.Prelude.{ℕ, zero, suc, ◌+◌, Bool, true, false, cond, ◌||◌, List, [], ◌∷◌, ◌++◌, ◌≡◌, refl, Option, Some, None, eqb, leb, length, take}
use Rattle.std.proofs.Common.{arith, sym, ap, subst, ◌∙◌, ◌-◌, append-nil, length-take}
use Rattle.std.proofs.lemmas.Grind.{common_steps}
use Rattle.std.specs.List.{range_with_len, list_any, find, filter}
use Rattle.std.specs.Option.{unwrap_or, option_map}
use Rattle.std.proofs.lemmas.List.Folds.{list_any-append}
use Rattle.std.proofs.lemmas.List.Elements.{filter-append}
use Rattle.std.proofs.lemmas.Iterator.{YieldsList}
use Rattle.std.proofs.lemmas.Iterator.Consumers.{YieldsList-from_shown}
use Rattle.std.proofs.iter.runs.Sources.{nat_range_steps_back}
use Rattle.std.specs.Iterator.Adapters.{rev_source, rev_steps}
use Rattle.std.specs.declared.ops.Range.{Range}
use Rattle.std.specs.declared.iter.Rev.{Rev}
use Rattle.scope.specs.Pair.{Pair, some, largest}
use Rattle.scope.specs.Point.{usable, usables}

-- one number more
range_more : (a n : ℕ) → range_with_len a (suc n) ≡ range_with_len a n ++ (a + n) ∷ []
range_more a zero = ap (λ (x : ℕ). x ∷ []) (omega arith)
range_more a (suc n) =
    ap (λ (l : List ℕ). a ∷ l) (range_more (a + 1) n ∙ ap (λ (x : ℕ). range_with_len (a + 1) n ++ x ∷ []) (omega arith))

or_last : (a b : Bool) → (b || a) ≡ (a || (b || false))
or_last true true = refl
or_last true false = refl
or_last false true = refl
or_last false false = refl

pub some_listed : (n : ℕ) (o : ℕ → Bool) → some n o ≡ list_any o (range_with_len 0 n)
unfolding some
some_listed zero o = refl
some_listed (suc n) o =
    or_last (some n o) (o n)
    ∙ ap (λ (b : Bool). b || (o n || false)) (some_listed n o)
    ∙ sym (list_any-append o (range_with_len 0 n) (n ∷ []))
    ∙ ap (list_any o) (ap (λ (x : ℕ). range_with_len 0 n ++ x ∷ []) (omega arith) ∙ sym (range_more 0 n))

-- the n numbers from a on, the largest first
pub countdown : ℕ → ℕ → List ℕ
countdown a zero = []
countdown a (suc n) = (a + n) ∷ countdown a n

one_down : (a b n m x : ℕ) → n ≡ suc m → a + m ≡ x → a ≡ b → countdown a n ≡ x ∷ countdown b m
unfolding countdown
one_down a b n m x e f g =
    ap (countdown a) e ∙ ap (λ (w : ℕ). w ∷ countdown a m) f ∙ ap (λ (w : ℕ). x ∷ countdown w m) g

-- a range from the top down
pub YieldsList-from_range_back : {s : Rev (Range ℕ)} (a b n : ℕ) → rev_source s ≡ record { start = a; end = b } → b - a ≡ n
    → YieldsList (rev_steps nat_range_steps_back) (λ x. x) s (countdown a n)
unfolding countdown
YieldsList-from_range_back {s} a b n e d =
    subst (λ (l : List ℕ). YieldsList (rev_steps nat_range_steps_back) (λ x. x) s l)
    (ap (λ (r : Range ℕ). countdown r.start (r.end - r.start)) e ∙ ap (countdown a) d)
    (YieldsList-from_shown (rev_steps nat_range_steps_back) (λ x. x) (λ t. countdown (rev_source t).start ((rev_source t).end - (rev_source t).start))
    (λ t u p. ap (λ (k : ℕ). length (countdown (rev_source t).start k)) p.1.0)
    (λ t x u p. one_down _ _ _ _ x (omega (arith, p.0, p.1.0, p.1.2)) (omega (arith, p.0, p.1.0, p.1.1, p.1.2)) (sym p.0)) s)

largest_listed : (n : ℕ) (o : ℕ → Bool) → unwrap_or (find o (countdown 1 n)) 0 ≡ largest n o
unfolding countdown largest
largest_listed zero o = refl
largest_listed (suc n) o =
    ap (λ (x : ℕ). unwrap_or (cond (o x) (Some x) (find o (countdown 1 n))) 0) (omega arith) ∙ by_test (o (suc n)) (largest_listed n o)
  where
    by_test : (b : Bool) → unwrap_or (find o (countdown 1 n)) 0 ≡ largest n o
        → unwrap_or (cond b (Some (suc n)) (find o (countdown 1 n))) 0 ≡ cond b (suc n) (largest n o)
    by_test true e = refl
    by_test false e = e

same_option : (r : Option ℕ) → option_map (λ x. x) r ≡ r
same_option None = refl
same_option (Some x) = refl

-- the largest number that passes, looked for from the top
pub largest_found : (n : ℕ) (o : ℕ → Bool) (r : Option ℕ) → option_map (λ x. x) r ≡ find o (countdown 1 n) → unwrap_or r 0 ≡ largest n o
largest_found n o r e = ap (λ (q : Option ℕ). unwrap_or q 0) (sym (same_option r) ∙ e) ∙ largest_listed n o

usables_listed : (P : Pair) (n : ℕ) → usables P n ≡ filter (usable P) (range_with_len 0 n)
unfolding usables
usables_listed P zero = refl
usables_listed P (suc n) =
    by_test (usable P n) (usables P n)
    ∙ ap (λ (l : List ℕ). l ++ cond (usable P n) (n ∷ []) []) (usables_listed P n)
    ∙ sym (filter-append (usable P) (range_with_len 0 n) (n ∷ []))
    ∙ ap (filter (usable P)) (ap (λ (x : ℕ). range_with_len 0 n ++ x ∷ []) (omega arith) ∙ sym (range_more 0 n))
  where
    by_test : (b : Bool) (l : List ℕ) → cond b (l ++ n ∷ []) l ≡ l ++ cond b (n ∷ []) []
    by_test true l = refl
    by_test false l = sym (append-nil l)

-- so many are found where there are so many
pub enough_found : (P : Pair) (n wanted : ℕ) {found : ℕ} → found ≡ length (take wanted (filter (usable P) (range_with_len 0 n)))
    → eqb found wanted ≡ leb wanted (length (usables P n))
enough_found P n wanted {found} e = grind (arith, common_steps, e, length-take wanted (filter (usable P) (range_with_len 0 n)), ap length (usables_listed P n))
