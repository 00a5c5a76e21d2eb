-- The bytes that reads bring and writes take, one after the other.
--
--   consumes_none, consumes_more   nothing is brought by no read; what two reads bring is what both bring together
--   appends_none, appends_more     the same of writes
--   filled_more                    a read into the middle of a body, after what the body holds already
use Rattle.std.specs.Prelude.{ℕ, ◌+◌, ◌≤◌, ◌≡◌, refl, Option, Some, None, length, take, drop}
use Rattle.std.specs.Io.KnownBytes.{Consumes, Appends}
use Rattle.std.proofs.Common.{sym, ap, ◌∙◌, subst, append_assoc, append-nil}
use Rattle.std.proofs.Math.Seq.{take-append-add}
use Rattle.std.proofs.lemmas.List.{take-append-le, length-take-le}
use borrow.Rule.Slice.PartMut.{put_mid}
use mathlib.Core.List.{List, [], ◌++◌}

pub consumes_none : (a : Option (List ℕ)) → Consumes a a []
consumes_none None = tt
consumes_none (Some us) = refl

pub consumes_more : (a b c : Option (List ℕ)) (xs ys : List ℕ) → Consumes a b xs → Consumes b c ys → Consumes a c (xs ++ ys)
consumes_more None b c xs ys first second = tt
consumes_more (Some us) None c xs ys first second = absurd first
consumes_more (Some us) (Some vs) None xs ys first second = second
consumes_more (Some us) (Some vs) (Some ws) xs ys first second =
    first ∙ ap (λ (t : List ℕ). xs ++ t) second ∙ sym (append_assoc xs ys ws)

pub appends_none : (a : Option (List ℕ)) → Appends a a []
appends_none None = tt
appends_none (Some us) = sym (append-nil us)

pub appends_more : (a b c : Option (List ℕ)) (xs ys : List ℕ) → Appends a b xs → Appends b c ys → Appends a c (xs ++ ys)
appends_more None b c xs ys first second = tt
appends_more (Some us) None c xs ys first second = absurd first
appends_more (Some us) (Some vs) None xs ys first second = second
appends_more (Some us) (Some vs) (Some ws) xs ys first second =
    second ∙ ap (λ (t : List ℕ). t ++ ys) first ∙ append_assoc us xs ys

-- of a body that holds its first a bytes and was lent from there on, what it holds after m more
filled : (a k m : ℕ) (xs ys : List ℕ) → a ≤ length xs → m ≤ length ys → take (a + m) (put_mid a k xs ys) ≡ take a xs ++ take m ys
filled a k m xs ys within few =
    ap (λ (n : ℕ). take (n + m) (take a xs ++ (ys ++ drop k (drop a xs)))) (sym (length-take-le a xs within))
    ∙ take-append-add (take a xs) (ys ++ drop k (drop a xs)) m
    ∙ ap (λ (t : List ℕ). take a xs ++ t) (take-append-le m ys (drop k (drop a xs)) few)

pub filled_more : (a b c : Option (List ℕ)) (n k m : ℕ) (body part : List ℕ) → n ≤ length body → m ≤ length part
    → Consumes a b (take n body) → Consumes b c (take m part) → Consumes a c (take (n + m) (put_mid n k body part))
filled_more a b c n k m body part within few first second =
    subst (λ (t : List ℕ). Consumes a c t) (sym (filled n k m body part within few)) (consumes_more a b c (take n body) (take m part) first second)
