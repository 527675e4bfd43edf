-- One step, as an elimination of one variable.
use Rattle.std.proofs.Common.{◌≡◌, ℕ, ℤ, pos, List, [], ◌∷◌, ◌+◌, ◌≤◌, Bool, true, false, Some, None, Err, length, refl, ap, arith}
use Rattle.std.specs.Prelude.{All, ◌↔◌}
use Rattle.std.proofs.lemmas.List.Elements.{All-nil, All-cons, All-head, All-tail}
use Rattle.exact128.specs.Sums.{entry}
use Rattle.linear_rows.specs.Rows.{HoldsOn}
use Rattle.linear_rows.specs.Plain.{plain_row, plain_rows, HaveWidth}
use Rattle.linear_rows.specs.Step.{eliminated, HasFloor}
use Rattle.linear_rows.specs.Blown.{numbers_fit, step_fault, blown_step, or_else}
use Rattle.linear_rows.specs.declared.row.Row.{Row}
use Rattle.linear_rows.proofs.Members.{to_All}
use Rattle.linear_rows.proofs.Whole.{left_on, kept_on, back_on}
use Rattle.linear_rows.proofs.Origins.{gone}
use Rattle.sparse_rows.specs.Adding.{AllLong}
use Rattle.fourier.specs.Saying.{Eliminates, EliminatesAll}
use Rattle.fourier.specs.declared.fault.ElimFault.{ElimFault}
use Rattle.fourier.specs.declared.fault.ElimFault.TheVariants.{Blown, Memory}

pub one_not_fit : (m k : ℕ) (rows : List (List ℤ)) → numbers_fit rows ≡ false → blown_step m (k ∷ []) rows ≡ Some (0, true)
unfolding blown_step
one_not_fit m k rows e = rw e refl

pub one_blown : (m k : ℕ) (rows : List (List ℤ)) (wide : Bool) → numbers_fit rows ≡ true → step_fault m k rows ≡ Some wide → blown_step m (k ∷ []) rows ≡ Some (1, wide)
unfolding blown_step
one_blown m k rows wide e f = rw e (ap (λ o. or_else o 1 None) f)

pub one_whole : (m k : ℕ) (rows : List (List ℤ)) → numbers_fit rows ≡ true → step_fault m k rows ≡ None → blown_step m (k ∷ []) rows ≡ None
unfolding blown_step
one_whole m k rows e f = rw e (ap (λ o. or_else o 1 None) f)

pub long_of : (n : ℕ) (rows : List Row) → HaveWidth n rows → AllLong (n + 1) (plain_rows rows)
long_of n [] h = All-nil (λ r. length r ≡ n + 1)
long_of n (r ∷ rs) h =
    All-cons (λ r. length r ≡ n + 1) (plain_row r) (plain_rows rs) (let e = All-head (λ (r : Row). length r.coeffs ≡ n) r rs h in omega (arith, e)) (long_of n rs (All-tail (λ (r : Row). length r.coeffs ≡ n) r rs h))

-- what is left, if the rows that are left are these
pub all_vanish : (m k : ℕ) (rows left : List (List ℤ)) → k ≤ m → left ≡ eliminated m k rows → All (λ row. entry row k ≡ pos 0) left
all_vanish m k rows left km e = rw e (to_All (λ row. entry row k ≡ pos 0) (eliminated m k rows) (λ q i. gone m k rows q km i))

pub all_hold_on : (m k : ℕ) (rows left : List (List ℤ)) → k ≤ m → left ≡ eliminated m k rows → All (HoldsOn (m + 1) rows) left
all_hold_on m k rows left km e = rw e (to_All (HoldsOn (m + 1) rows) (eliminated m k rows) (λ q i. left_on m k rows q km i))

pub same_points : (m k : ℕ) (rows left : List (List ℤ)) → 1 ≤ k → k ≤ m → left ≡ eliminated m k rows → HasFloor m k rows → (row : List ℤ) → entry row k ≡ pos 0 → HoldsOn (m + 1) left row ↔ HoldsOn (m + 1) rows row
same_points m k rows left k1 km e f row z = rw e (back_on m k rows row km, kept_on m k rows f.row row k1 km f.here f.floors z)

-- the elimination of one column is that of a list of columns
pub said_once : (m k : ℕ) (rows : List (List ℤ)) (fault : ElimFault) → EliminatesAll m (k ∷ []) rows (Err fault) → Eliminates m k rows (Err fault)
said_once m k rows (Blown step wide) e = e
said_once m k rows Memory e = tt
