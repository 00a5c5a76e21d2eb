-- What the public calls promise.
--
--   RowResult p a b r              the row resultant answers r
--   PlainResult p a b r            the plain determinant answers r
--   DivisionResult p row b r row'  division answers r and leaves row' in the work row
--   DivisorResult a b r            which row divides answers r: its entries, and where it lies
--   OpenResult .. r                opening answers r
--   OfferResult j a r              a single offer answers r
--   LotResult j xs bytes r bytes'  a lot answers r and leaves bytes' in the lent answer bytes
--   ReadResult j out r out'        a read answers r and leaves out' in the lent output
--   ShotResult .. out r out'       the one-shot answers r and leaves out'
use Rattle.std.specs.Prelude.{ℕ, ◌*◌, ◌<◌, ◌≤◌, List, ◌≡◌, get_or}
use Rattle.std.specs.Borrow.{Bor}
use Rattle.euclid.specs.Row.{declared}
use Rattle.scope.specs.Number.{row_number, plain_number, division_number}
use Rattle.scope.specs.Answers.{row_value, row_count, plain_value, divided_row, divided_count}
use Rattle.scope.specs.Pair.{tables, coefficient}
use Rattle.scope.specs.Point.{room}
use Rattle.rows.specs.Which.{lower, first?, pick}
use Rattle.job.specs.declared.Job.{Job}
use Rattle.job.specs.declared.JobAnswer.{JobAnswer}
use Rattle.job.specs.declared.ReadAnswer.{ReadAnswer}
use Rattle.job.specs.Job.{pair_of}
use Rattle.job.specs.Public.{open_answer, open_job, offer_answer, offer_job, lot_answer, lot_job, lot_bytes, read_answer, read_wanted, read_degree, read_zero, read_out, shot_answer, shot_degree, shot_zero, shot_out}
use Rattle.kernel.specs.declared.RowAnswer.{RowAnswer}
use Rattle.kernel.specs.declared.PlainAnswer.{PlainAnswer}
use Rattle.kernel.specs.declared.DivisionAnswer.{DivisionAnswer}

pub record RowResult (p : ℕ) (a b : List ℕ) (r : RowAnswer) : Type 0 where
  pub number : r.number ≡ row_number p a b
  pub value : r.value ≡ row_value p a b
  pub steps : r.steps ≡ row_count p a b
  pub few : r.steps ≤ declared a * declared b

pub record PlainResult (p : ℕ) (a b : List ℕ) (r : PlainAnswer) : Type 0 where
  pub number : r.number ≡ plain_number p a b
  pub value : r.value ≡ plain_value p a b

pub record DivisionResult (p : ℕ) (row b : List ℕ) (r : DivisionAnswer) (row' : List ℕ) : Type 0 where
  pub number : r.number ≡ division_number p row b
  pub count : r.count ≡ divided_count p row b
  pub left : row' ≡ divided_row p row b

pub record DivisorResult (a b r : Bor (List ℕ)) : Type 0 where
  pub stretch : r.now ≡ lower a.now b.now
  -- it begins where the caller's own row begins
  pub own : r.ref_ptr ≡ pick (first? a.now b.now) a.ref_ptr b.ref_ptr

pub record OpenResult (p m e n f : ℕ) (s t : List ℕ) (r : JobAnswer) : Type 0 where
  pub number : r.number ≡ open_answer p m e n f s t
  pub job : r.job ≡ open_job p m e n f s t

pub record OfferResult (j : Job) (a : ℕ) (r : JobAnswer) : Type 0 where
  pub number : r.number ≡ offer_answer j a
  pub job : r.job ≡ offer_job j a

pub record LotResult (j : Job) (xs bytes : List ℕ) (r : JobAnswer) (bytes' : List ℕ) : Type 0 where
  pub number : r.number ≡ lot_answer j xs bytes
  pub job : r.job ≡ lot_job j xs bytes
  pub left : bytes' ≡ lot_bytes j xs bytes

pub record ReadResult (j : Job) (out : List ℕ) (r : ReadAnswer) (out' : List ℕ) : Type 0 where
  pub number : r.number ≡ read_answer j out
  pub wanted : r.wanted ≡ read_wanted j out
  pub degree : r.degree ≡ read_degree j out
  pub zero : r.zero ≡ read_zero j out
  pub left : out' ≡ read_out j out
  -- entry k is coefficient k of the determinant
  pub entries : r.number ≡ 0 → (k : ℕ) → k < room (pair_of j) → get_or out' k 0 ≡ coefficient (pair_of j) k

pub record ShotResult (p m e n f : ℕ) (s t out : List ℕ) (r : ReadAnswer) (out' : List ℕ) : Type 0 where
  pub number : r.number ≡ shot_answer p m e n f s t out
  pub wanted : r.wanted ≡ 0
  pub degree : r.degree ≡ shot_degree p m e n f s t out
  pub zero : r.zero ≡ shot_zero p m e n f s t out
  pub left : out' ≡ shot_out p m e n f s t out
  pub entries : r.number ≡ 0 → (k : ℕ) → k < room (tables p m e n f s t) → get_or out' k 0 ≡ coefficient (tables p m e n f s t) k
