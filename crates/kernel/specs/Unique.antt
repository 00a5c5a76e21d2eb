-- Each contract fixes the answer and every lent slice at exit: two results that meet it are equal. A slice that is handed
-- back is fixed in its entries and its pointer.
--
--   row_unique .. shot_unique     for each public call
--   plain-agrees                  the plain determinant and the row resultant, where both accept
use Rattle.std.specs.Prelude.{ℕ, List, ◌≡◌}
use Rattle.std.proofs.Common.{sym, ◌∙◌}
use Rattle.std.specs.Borrow.{Bor}
use Rattle.job.specs.declared.Job.{Job}
use Rattle.job.specs.declared.JobAnswer.{JobAnswer}
use Rattle.job.specs.declared.ReadAnswer.{ReadAnswer}
use Rattle.kernel.specs.declared.RowAnswer.{RowAnswer}
use Rattle.kernel.specs.declared.PlainAnswer.{PlainAnswer}
use Rattle.kernel.specs.declared.DivisionAnswer.{DivisionAnswer}
use Rattle.scope.specs.Number.{row_number, plain_number}
use Rattle.scope.specs.Answers.{row_value, plain_value}
use Rattle.scope.specs.TestLaws.{then-zero}
use Rattle.kernel.specs.RowLaws.{done}
use Rattle.kernel.specs.Results.{RowResult, PlainResult, DivisionResult, DivisorResult, OpenResult, OfferResult, LotResult, ReadResult, ShotResult}

-- both equal the definition
both : {A : Type 0} {x y z : A} → x ≡ z → y ≡ z → x ≡ y
both p q = p ∙ sym q

job_path : (r r' : JobAnswer) → r.number ≡ r'.number → r.job ≡ r'.job → r ≡ r'
job_path r r' p q = λ i. record { number = p i; job = q i }

read_path : (r r' : ReadAnswer) → r.number ≡ r'.number → r.wanted ≡ r'.wanted → r.degree ≡ r'.degree → r.zero ≡ r'.zero → r ≡ r'
read_path r r' p q s t = λ i. record { number = p i; wanted = q i; degree = s i; zero = t i }

pub row_unique : (p : ℕ) (a b : List ℕ) (r r' : RowAnswer) → RowResult p a b r → RowResult p a b r' → r ≡ r'
row_unique p a b r r' h h' = λ i. record { number = both h.number h'.number i; value = both h.value h'.value i; steps = both h.steps h'.steps i }

pub plain_unique : (p : ℕ) (a b : List ℕ) (r r' : PlainAnswer) → PlainResult p a b r → PlainResult p a b r' → r ≡ r'
plain_unique p a b r r' h h' = λ i. record { number = both h.number h'.number i; value = both h.value h'.value i }

pub division_unique : (p : ℕ) (row b : List ℕ) (r r' : DivisionAnswer) (left left' : List ℕ)
    → DivisionResult p row b r left → DivisionResult p row b r' left' → (r ≡ r') × (left ≡ left')
division_unique p row b r r' left left' h h' =
    ((λ i. record { number = both h.number h'.number i; count = both h.count h'.count i }), both h.left h'.left)

pub divisor_unique : (a b r r' : Bor (List ℕ)) → DivisorResult a b r → DivisorResult a b r' → (r.now ≡ r'.now) × (r.ref_ptr ≡ r'.ref_ptr)
divisor_unique a b r r' h h' = (both h.stretch h'.stretch, both h.own h'.own)

pub open_unique : (p m e n f : ℕ) (s t : List ℕ) (r r' : JobAnswer) → OpenResult p m e n f s t r → OpenResult p m e n f s t r' → r ≡ r'
open_unique p m e n f s t r r' h h' = job_path r r' (both h.number h'.number) (both h.job h'.job)

pub offer_unique : (j : Job) (a : ℕ) (r r' : JobAnswer) → OfferResult j a r → OfferResult j a r' → r ≡ r'
offer_unique j a r r' h h' = job_path r r' (both h.number h'.number) (both h.job h'.job)

pub lot_unique : (j : Job) (xs bytes : List ℕ) (r r' : JobAnswer) (left left' : List ℕ)
    → LotResult j xs bytes r left → LotResult j xs bytes r' left' → (r ≡ r') × (left ≡ left')
lot_unique j xs bytes r r' left left' h h' =
    (job_path r r' (both h.number h'.number) (both h.job h'.job), both h.left h'.left)

pub read_unique : (j : Job) (out : List ℕ) (r r' : ReadAnswer) (left left' : List ℕ)
    → ReadResult j out r left → ReadResult j out r' left' → (r ≡ r') × (left ≡ left')
read_unique j out r r' left left' h h' =
    (read_path r r' (both h.number h'.number) (both h.wanted h'.wanted) (both h.degree h'.degree) (both h.zero h'.zero), both h.left h'.left)

pub shot_unique : (p m e n f : ℕ) (s t out : List ℕ) (r r' : ReadAnswer) (left left' : List ℕ)
    → ShotResult p m e n f s t out r left → ShotResult p m e n f s t out r' left' → (r ≡ r') × (left ≡ left')
shot_unique p m e n f s t out r r' left left' h h' =
    (read_path r r' (both h.number h'.number) (both h.wanted h'.wanted) (both h.degree h'.degree) (both h.zero h'.zero), both h.left h'.left)

-- on every input that both accept, the plain determinant and the row resultant agree
pub plain-agrees : (p : ℕ) (a b : List ℕ) (r : RowAnswer) (s : PlainAnswer) → RowResult p a b r → PlainResult p a b s → s.number ≡ 0
    → (r.number ≡ 0) × (r.value ≡ s.value)
unfolding row_value plain_value plain_number
plain-agrees p a b r s h g z =
    let q : row_number p a b ≡ 0 = ((then-zero (row_number p a b) _).0 (sym g.number ∙ z)).0 in
    (h.number ∙ q, h.value ∙ done (row_number p a b) _ q ∙ sym (done (plain_number p a b) _ (sym g.number ∙ z)) ∙ sym g.value)
