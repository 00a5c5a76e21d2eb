-- A loop that stores f i at every index i from lo up to hi, one store a turn, from the bottom up or from the top down.
--
--   Stored f lo hi l k     k is l with those entries so
--   stored_up              one turn upwards
--   stored_down            one turn downwards
--   kept-below             an entry not stored to is below p where it was
--   stored_all             every entry, so the list itself
--   list_of                a list with the entries f i
--   front_new, front_old   the entries of such a list
--   front_length           its length
--   tabulate_ext           equal entries, equal lists
use Prim.Native.Nat.{ℕ, zero, suc, ◌+◌, ◌-◌, ◌<◌, ◌≤◌}
use native.Mathlib.Omega.{arith}
use mathlib.Core.List.{List, ◌∷◌, ◌++◌}
use mathlib.Core.Path.{◌≡◌, refl, sym, ap, ap₂, ◌∙◌}
use lib.ListN.{length, get_or, drop, set, length-set, get_or-append}
use Rattle.std.proofs.lemmas.Grind.{common_steps}
use lib.Seq.{get_or-append-add, get_or-drop, ext_get_or}
use Rattle.scope.specs.Point.{tabulate}
use Rattle.scope.specs.Degree.{tabulate-length, tabulate-get_or}

pub front_new : (f : ℕ → ℕ) (n : ℕ) (l : List ℕ) (i : ℕ) → i < n → get_or (tabulate n f ++ drop n l) i 0 ≡ f i
front_new f n l i h =
    get_or-append (tabulate n f) (drop n l) 0 i (omega (arith, tabulate-length n f))
    ∙ tabulate-get_or n f i h

pub front_old : (f : ℕ → ℕ) (n : ℕ) (l : List ℕ) (i : ℕ) → n ≤ i → get_or (tabulate n f ++ drop n l) i 0 ≡ get_or l i 0
front_old f n l i h =
    let at : i ≡ length (tabulate n f) + (i - n) = omega (arith, tabulate-length n f) in
    let back : n + (i - n) ≡ i = omega arith in
    ap (λ (j : ℕ). get_or (tabulate n f ++ drop n l) j 0) at
    ∙ get_or-append-add (tabulate n f) (drop n l) (i - n) 0
    ∙ get_or-drop n l (i - n) 0
    ∙ ap (λ (j : ℕ). get_or l j 0) back

pub front_length : (f : ℕ → ℕ) (n : ℕ) (l : List ℕ) → n ≤ length l → length (tabulate n f ++ drop n l) ≡ length l
front_length f n l h = grind (arith, common_steps, tabulate-length n f)

pub tabulate_ext : (n : ℕ) (f g : ℕ → ℕ) → ((k : ℕ) → k < n → f k ≡ g k) → tabulate n f ≡ tabulate n g
unfolding tabulate
tabulate_ext zero f g h = refl
tabulate_ext (suc n) f g h =
    ap₂ (λ (a : ℕ) (r : List ℕ). a ∷ r) (h zero (omega arith)) (tabulate_ext n (λ i. f (suc i)) (λ i. g (suc i)) (λ i b. h (suc i) (omega arith)))

-- a list with these entries
pub list_of : (f : ℕ → ℕ) (l : List ℕ) {n : ℕ} → length l ≡ n → ((i : ℕ) → i < n → get_or l i 0 ≡ f i) → l ≡ tabulate n f
list_of f l {n} long same = ext_get_or 0 l (tabulate n f) (long ∙ sym (tabulate-length n f)) (λ i b. same i (omega arith) ∙ sym (tabulate-get_or n f i (omega arith)))

pub record Stored (f : ℕ → ℕ) (lo hi : ℕ) (l k : List ℕ) : Type 0 where
  pub long : length k ≡ length l
  pub new : (i : ℕ) → lo ≤ i → i < hi → get_or k i 0 ≡ f i
  pub below : (i : ℕ) → i < lo → get_or k i 0 ≡ get_or l i 0
  pub above : (i : ℕ) → hi ≤ i → get_or k i 0 ≡ get_or l i 0

-- what was below p and was not stored to still is
pub kept-below : {f : ℕ → ℕ} {lo hi : ℕ} {l k : List ℕ} {p n : ℕ} → Stored f lo hi l k → ((i : ℕ) → i < n → get_or l i 0 < p)
    → (i : ℕ) → i < lo → i < n → get_or k i 0 < p
kept-below h small i b c = rw (h.below i b) (small i c)

module _ (f : ℕ → ℕ) where
  pub stored_up : {lo hi : ℕ} {l k : List ℕ} {v : ℕ} → Stored f lo hi l k → lo ≤ hi → hi < length l → v ≡ f hi
      → Stored f lo (hi + 1) l (set k hi v)
  stored_up {lo} {hi} {l} {k} {v} h order room e =
      record {
        long = length-set k hi v ∙ h.long;
        new = λ i a b. grind (arith, common_steps, h.new i, h.long);
        below = λ i b. grind (arith, common_steps, h.below i b);
        above = λ i a. grind (arith, common_steps, h.above i);
      }

  pub stored_down : {lo hi : ℕ} {l k : List ℕ} {v : ℕ} (j : ℕ) → Stored f lo hi l k → lo ≡ suc j → lo ≤ hi → hi ≤ length l → v ≡ f j
      → Stored f j hi l (set k j v)
  stored_down {lo} {hi} {l} {k} {v} j h at order room e =
      record {
        long = length-set k j v ∙ h.long;
        new = λ i a b. grind (arith, common_steps, h.new i, h.long);
        below = λ i b. grind (arith, common_steps, h.below i);
        above = λ i a. grind (arith, common_steps, h.above i);
      }

  -- every entry, so the list itself
  pub stored_all : {hi : ℕ} {l k : List ℕ} → Stored f 0 hi l k → hi ≡ length l → k ≡ tabulate (length l) f
  stored_all {hi} {l} {k} h e = list_of f k h.long (λ i b. h.new i (omega arith) (omega arith))
