-- A solver for identities that hold in every commutative ring. Write both sides as expressions over numbered variables
-- and hand over the list of their values; the proof is `solve R e₁ e₂ ρ refl`. The end of the file shows how.
--
--   Expr            expressions: var i, :0, :1, e :+ f, e :* f, :- e
--   eval e ρ        the value of e, where ρ lists the values of var 0, var 1, ..
--   Term            a product of variables, in rising order, with its sign
--   norm e          e as a list of terms to be added, sorted, in which no two terms cancel
--   insert times    products of variables: a variable put into its place; two products multiplied
--   order           the order of products of variables
--   vars flip scale of a term: its variables; its negative; its product with another term
--   add mul each    sums of terms: added; multiplied; changed term by term
--   join meet       the steps of add: a term put into its place; two terms with the same variables
--   look ρ i        the value of var i; 0 past the end of the list
--   product term value    the value of a product of variables, of a term, of a sum of terms
--   norm-value      an expression and its normal form have one value
--   solve           expressions with one normal form have one value
use Prim.Native.Nat.{ℕ, zero, suc, compare, Ordering}
use Rattle.std.proofs.Math.Decide.{IsEq, eq_by_compare, compare_of_eq}
use Rattle.std.specs.Prelude.{◌≡◌}
use Rattle.std.proofs.Math.Path.{refl, sym, ap, ap₂}
use Rattle.std.proofs.Common.{subst, ◌∙◌}
use mathlib.Core.List.{List, [], ◌∷◌}
use Rattle.ring.specs.Ring.{Ring}
use Rattle.ring.specs.RingLaws.{zero-⊕, one-⊗, zero-⊗, ⊗-zero, dist-⊗, neg-⊕, neg-zero, neg-neg, neg_dist, neg-⊗, ⊗-neg, ⊕_left_comm, ⊗_left_comm}

pub data Expr : Type 0 where
  var : ℕ → Expr
  :0 : Expr
  :1 : Expr
  ◌:+◌ : Expr → Expr → Expr
  ◌:*◌ : Expr → Expr → Expr
  :-◌ : Expr → Expr

infixl 60 ◌:+◌
infixl 70 ◌:*◌
infix 80 :-◌
pub data Term : Type 0 where
  plus : List ℕ → Term
  minus : List ℕ → Term

abbrev pub insert : ℕ → List ℕ → List ℕ
insert v [] = v ∷ []
insert v (u ∷ m) = elim (compare v u) [ Ordering.lt ↦ v ∷ u ∷ m | Ordering.eq ↦ v ∷ u ∷ m | Ordering.gt ↦ u ∷ insert v m ]

abbrev pub times : List ℕ → List ℕ → List ℕ
times [] n = n
times (v ∷ m) n = insert v (times m n)

-- the order of terms: by their first variables; a product comes before its own beginnings
abbrev pub order : List ℕ → List ℕ → Ordering
order [] [] = Ordering.eq
order [] (v ∷ n) = Ordering.gt
order (u ∷ m) [] = Ordering.lt
order (u ∷ m) (v ∷ n) = elim (compare u v) [ Ordering.lt ↦ Ordering.lt | Ordering.eq ↦ order m n | Ordering.gt ↦ Ordering.gt ]

abbrev pub vars : Term → List ℕ
vars (plus m) = m
vars (minus m) = m

abbrev pub flip : Term → Term
flip (plus m) = minus m
flip (minus m) = plus m

abbrev pub scale : Term → Term → Term
scale (plus m) (plus n) = plus (times m n)
scale (plus m) (minus n) = minus (times m n)
scale (minus m) (plus n) = minus (times m n)
scale (minus m) (minus n) = plus (times m n)

-- two terms with the same variables, before the terms of q: they cancel if their signs differ. `rest` adds the terms
-- that come after t.
abbrev pub meet : Term → (List Term → List Term) → Term → List Term → List Term
meet (plus m) rest (plus n) q = plus m ∷ rest (plus n ∷ q)
meet (plus m) rest (minus n) q = rest q
meet (minus m) rest (plus n) q = rest q
meet (minus m) rest (minus n) q = minus m ∷ rest (minus n ∷ q)

abbrev pub join : Term → (List Term → List Term) → List Term → List Term
join t rest [] = t ∷ rest []
join t rest (u ∷ q) =
    elim (order (vars t) (vars u)) [ Ordering.lt ↦ t ∷ rest (u ∷ q) | Ordering.eq ↦ meet t rest u q | Ordering.gt ↦ u ∷ join t rest q ]

abbrev pub add : List Term → List Term → List Term
add [] q = q
add (t ∷ p) q = join t (add p) q

abbrev pub each : (Term → Term) → List Term → List Term
each f [] = []
each f (t ∷ p) = f t ∷ each f p

abbrev pub mul : List Term → List Term → List Term
mul [] q = []
mul (t ∷ p) q = add (each (scale t) q) (mul p q)

abbrev pub norm : Expr → List Term
norm (var i) = plus (i ∷ []) ∷ []
norm :0 = []
norm :1 = plus [] ∷ []
norm (e :+ f) = add (norm e) (norm f)
norm (e :* f) = mul (norm e) (norm f)
norm (:- e) = each flip (norm e)

module _ (R : Ring) where
  open R use {C, ◌⊕◌, ◌⊗◌, ⊖◌, 𝟘, 𝟙, ⊕_assoc, ⊕-zero, ⊕-neg, ⊗_assoc, ⊗-one, ⊗_dist}

  abbrev pub look : List C → ℕ → C
  look [] i = 𝟘
  look (x ∷ ρ) zero = x
  look (x ∷ ρ) (suc i) = look ρ i

  abbrev pub eval : Expr → List C → C
  eval (var i) ρ = look ρ i
  eval :0 ρ = 𝟘
  eval :1 ρ = 𝟙
  eval (e :+ f) ρ = eval e ρ ⊕ eval f ρ
  eval (e :* f) ρ = eval e ρ ⊗ eval f ρ
  eval (:- e) ρ = ⊖ eval e ρ

  pub product : List C → List ℕ → C
  product ρ [] = 𝟙
  product ρ (v ∷ m) = look ρ v ⊗ product ρ m

  pub term : List C → Term → C
  term ρ (plus m) = product ρ m
  term ρ (minus m) = ⊖ product ρ m

  pub value : List C → List Term → C
  value ρ [] = 𝟘
  value ρ (t ∷ p) = term ρ t ⊕ value ρ p

  module _ (ρ : List C) where
    insert-value : (v : ℕ) (m : List ℕ) → product ρ (insert v m) ≡ look ρ v ⊗ product ρ m
    unfolding product
    insert-value v [] = refl
    insert-value v (u ∷ m) = place (compare v u) (insert-value v m)
      where
        place : (o : Ordering) → product ρ (insert v m) ≡ look ρ v ⊗ product ρ m
            → product ρ (elim o [ Ordering.lt ↦ v ∷ u ∷ m | Ordering.eq ↦ v ∷ u ∷ m | Ordering.gt ↦ u ∷ insert v m ]) ≡ look ρ v ⊗ (look ρ u ⊗ product ρ m)
        place Ordering.lt ih = refl
        place Ordering.eq ih = refl
        place Ordering.gt ih = ap (λ (x : C). look ρ u ⊗ x) ih ∙ ⊗_left_comm R (look ρ u) (look ρ v) (product ρ m)

    times-value : (m n : List ℕ) → product ρ (times m n) ≡ product ρ m ⊗ product ρ n
    unfolding product
    times-value [] n = sym (one-⊗ R (product ρ n))
    times-value (v ∷ m) n =
        insert-value v (times m n)
        ∙ ap (λ (x : C). look ρ v ⊗ x) (times-value m n)
        ∙ sym (⊗_assoc (look ρ v) (product ρ m) (product ρ n))

    -- products that the order finds equal have one value
    order_value : (m n : List ℕ) → order m n ≡ Ordering.eq → product ρ m ≡ product ρ n
    unfolding product
    order_value [] [] h = refl
    order_value [] (v ∷ n) h = cc
    order_value (u ∷ m) [] h = cc
    order_value (u ∷ m) (v ∷ n) h = first (compare u v) refl h (order_value m n)
      where
        first : (o : Ordering) → compare u v ≡ o → (elim o [ Ordering.lt ↦ Ordering.lt | Ordering.eq ↦ order m n | Ordering.gt ↦ Ordering.gt ]) ≡ Ordering.eq
            → (order m n ≡ Ordering.eq → product ρ m ≡ product ρ n) → look ρ u ⊗ product ρ m ≡ look ρ v ⊗ product ρ n
        first Ordering.lt e h ih = cc
        first Ordering.eq e h ih =
            ap₂ (λ (x y : C). x ⊗ y) (ap (look ρ) (eq_by_compare u v (subst IsEq (sym e) (compare_of_eq 0 0 refl)))) (ih h)
        first Ordering.gt e h ih = cc

    flip-value : (t : Term) → term ρ (flip t) ≡ ⊖ term ρ t
    unfolding term
    flip-value (plus m) = refl
    flip-value (minus m) = sym (neg-neg R (product ρ m))

    scale-value : (t u : Term) → term ρ (scale t u) ≡ term ρ t ⊗ term ρ u
    unfolding term
    scale-value (plus m) (plus n) = times-value m n
    scale-value (plus m) (minus n) = ap (λ (x : C). ⊖ x) (times-value m n) ∙ sym (⊗-neg R (product ρ m) (product ρ n))
    scale-value (minus m) (plus n) = ap (λ (x : C). ⊖ x) (times-value m n) ∙ sym (neg-⊗ R (product ρ m) (product ρ n))
    scale-value (minus m) (minus n) =
        times-value m n
        ∙ sym (neg-neg R (product ρ m ⊗ product ρ n))
        ∙ ap (λ (x : C). ⊖ x) (sym (⊗-neg R (product ρ m) (product ρ n)))
        ∙ sym (neg-⊗ R (product ρ m) (⊖ product ρ n))

    each-flip-value : (p : List Term) → value ρ (each flip p) ≡ ⊖ value ρ p
    unfolding value
    each-flip-value [] = sym (neg-zero R)
    each-flip-value (t ∷ p) = ap₂ (λ (x y : C). x ⊕ y) (flip-value t) (each-flip-value p) ∙ sym (neg_dist R (term ρ t) (value ρ p))

    each-scale-value : (t : Term) (p : List Term) → value ρ (each (scale t) p) ≡ term ρ t ⊗ value ρ p
    unfolding value
    each-scale-value t [] = sym (⊗-zero R (term ρ t))
    each-scale-value t (u ∷ p) =
        ap₂ (λ (x y : C). x ⊕ y) (scale-value t u) (each-scale-value t p)
        ∙ sym (⊗_dist (term ρ t) (term ρ u) (value ρ p))

    -- `rest` adds x to what it is given
    Adds : (List Term → List Term) → C → Type 0
    Adds rest x = (q : List Term) → value ρ (rest q) ≡ x ⊕ value ρ q

    -- the term t, and then x, before q
    before : (t : Term) (rest : List Term → List Term) (x : C) → Adds rest x → (q : List Term) → term ρ t ⊕ value ρ (rest q) ≡ (term ρ t ⊕ x) ⊕ value ρ q
    unfolding Adds
    before t rest x h q = ap (λ (y : C). term ρ t ⊕ y) (h q) ∙ sym (⊕_assoc (term ρ t) x (value ρ q))

    -- terms that cancel
    cancel : (t u x y : C) → t ⊕ u ≡ 𝟘 → x ⊕ y ≡ (t ⊕ x) ⊕ (u ⊕ y)
    cancel t u x y h =
        sym (zero-⊕ R (x ⊕ y))
        ∙ ap (λ (z : C). z ⊕ (x ⊕ y)) (sym h)
        ∙ simp (⊕_assoc, ⊕_left_comm R)

    meet-value : (t : Term) (rest : List Term → List Term) (x : C) → Adds rest x → (u : Term) (q : List Term) → product ρ (vars t) ≡ product ρ (vars u)
        → value ρ (meet t rest u q) ≡ (term ρ t ⊕ x) ⊕ (term ρ u ⊕ value ρ q)
    unfolding value term Adds
    meet-value (plus m) rest x h (plus n) q e = before (plus m) rest x h (plus n ∷ q)
    meet-value (plus m) rest x h (minus n) q e =
        h q ∙ cancel (product ρ m) (⊖ product ρ n) x (value ρ q) (ap (λ (y : C). y ⊕ (⊖ product ρ n)) e ∙ ⊕-neg (product ρ n))
    meet-value (minus m) rest x h (plus n) q e =
        h q ∙ cancel (⊖ product ρ m) (product ρ n) x (value ρ q) (ap (λ (y : C). (⊖ y) ⊕ product ρ n) e ∙ neg-⊕ R (product ρ n))
    meet-value (minus m) rest x h (minus n) q e = before (minus m) rest x h (minus n ∷ q)

    join-value : (t : Term) (rest : List Term → List Term) (x : C) → Adds rest x → (q : List Term) → value ρ (join t rest q) ≡ (term ρ t ⊕ x) ⊕ value ρ q
    unfolding value
    join-value t rest x h [] = before t rest x h []
    join-value t rest x h (u ∷ q) = place (order (vars t) (vars u)) refl (join-value t rest x h q)
      where
        place : (o : Ordering) → order (vars t) (vars u) ≡ o → value ρ (join t rest q) ≡ (term ρ t ⊕ x) ⊕ value ρ q
            → value ρ (elim o [ Ordering.lt ↦ t ∷ rest (u ∷ q) | Ordering.eq ↦ meet t rest u q | Ordering.gt ↦ u ∷ join t rest q ]) ≡ (term ρ t ⊕ x) ⊕ (term ρ u ⊕ value ρ q)
        place Ordering.lt e ih = before t rest x h (u ∷ q)
        place Ordering.eq e ih = meet-value t rest x h u q (order_value (vars t) (vars u) e)
        place Ordering.gt e ih = ap (λ (y : C). term ρ u ⊕ y) ih ∙ ⊕_left_comm R (term ρ u) (term ρ t ⊕ x) (value ρ q)

    add-value : (p q : List Term) → value ρ (add p q) ≡ value ρ p ⊕ value ρ q
    unfolding value Adds
    add-value [] q = sym (zero-⊕ R (value ρ q))
    add-value (t ∷ p) q = join-value t (add p) (value ρ p) (add-value p) q

    mul-value : (p q : List Term) → value ρ (mul p q) ≡ value ρ p ⊗ value ρ q
    unfolding value
    mul-value [] q = sym (zero-⊗ R (value ρ q))
    mul-value (t ∷ p) q =
        add-value (each (scale t) q) (mul p q)
        ∙ ap₂ (λ (x y : C). x ⊕ y) (each-scale-value t q) (mul-value p q)
        ∙ sym (dist-⊗ R (term ρ t) (value ρ p) (value ρ q))

    pub norm-value : (e : Expr) → value ρ (norm e) ≡ eval e ρ
    unfolding value term product
    norm-value (var i) = ⊕-zero (look ρ i ⊗ 𝟙) ∙ ⊗-one (look ρ i)
    norm-value :0 = refl
    norm-value :1 = ⊕-zero 𝟙
    norm-value (e :+ f) = add-value (norm e) (norm f) ∙ ap₂ (λ (x y : C). x ⊕ y) (norm-value e) (norm-value f)
    norm-value (e :* f) = mul-value (norm e) (norm f) ∙ ap₂ (λ (x y : C). x ⊗ y) (norm-value e) (norm-value f)
    norm-value (:- e) = each-flip-value (norm e) ∙ ap (λ (x : C). ⊖ x) (norm-value e)

  pub solve : (e₁ e₂ : Expr) (ρ : List C) → norm e₁ ≡ norm e₂ → eval e₁ ρ ≡ eval e₂ ρ
  solve e₁ e₂ ρ h = sym (norm-value ρ e₁) ∙ ap (value ρ) h ∙ norm-value ρ e₂

  -- How it is used: the square of a sum, terms that cancel, and the determinant of a product of two by two matrices.
  square : (x y : C) → (x ⊕ y) ⊗ (x ⊕ y) ≡ x ⊗ x ⊕ (x ⊗ y ⊕ x ⊗ y) ⊕ y ⊗ y
  square x y =
      solve ((var 0 :+ var 1) :* (var 0 :+ var 1)) (var 0 :* var 0 :+ (var 0 :* var 1 :+ var 0 :* var 1) :+ var 1 :* var 1) (x ∷ y ∷ []) refl

  difference : (x y : C) → (x ⊕ (⊖ y)) ⊗ (x ⊕ y) ⊕ y ⊗ y ≡ x ⊗ x
  difference x y = solve ((var 0 :+ (:- var 1)) :* (var 0 :+ var 1) :+ var 1 :* var 1) (var 0 :* var 0) (x ∷ y ∷ []) refl

  two_by_two : (x y z w p q r s : C)
      → (x ⊗ w ⊕ (⊖ (y ⊗ z))) ⊗ (p ⊗ s ⊕ (⊖ (q ⊗ r)))
      ≡ (x ⊗ p ⊕ y ⊗ r) ⊗ (z ⊗ q ⊕ w ⊗ s) ⊕ (⊖ ((x ⊗ q ⊕ y ⊗ s) ⊗ (z ⊗ p ⊕ w ⊗ r)))
  two_by_two x y z w p q r s =
      solve ((var 0 :* var 3 :+ (:- (var 1 :* var 2))) :* (var 4 :* var 7 :+ (:- (var 5 :* var 6))))
      ((var 0 :* var 4 :+ var 1 :* var 6) :* (var 2 :* var 5 :+ var 3 :* var 7)
      :+ (:- ((var 0 :* var 5 :+ var 1 :* var 7) :* (var 2 :* var 4 :+ var 3 :* var 6))))
      (x ∷ y ∷ z ∷ w ∷ p ∷ q ∷ r ∷ s ∷ []) refl
