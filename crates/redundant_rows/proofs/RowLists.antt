-- Rows and their plain lists.
use Rattle.std.proofs.Common.{◌≡◌, ℕ, zero, suc, ◌<◌, ℤ, List, [], ◌∷◌, length, get_or, IfOk, Result, Ok, Err, sym, subst, ◌∙◌, arith}
use Rattle.std.specs.Prelude.{All}
use Rattle.linear_rows.specs.Plain.{plain_row, plain_rows, HaveWidth}
use Rattle.linear_rows.specs.declared.row.Row.{Row}
use Rattle.linear_rows.specs.declared.row.Rows.{Rows}
pub use Rattle.simplex.proofs.RowLists.{long_rows}

pub widths_of : (n : ℕ) (rows : List Row) → All (λ r. length r ≡ suc n) (plain_rows rows) → HaveWidth n rows
widths_of n [] h k d l = absurd (omega arith)
widths_of n (r ∷ rows) h zero d l = let e = h 0 (plain_row r) (omega arith) in omega arith
widths_of n (r ∷ rows) h (suc k) d l = widths_of n rows (λ j e m. h (suc j) e (omega arith)) k d (omega arith)

-- rows that keep their width while one is pushed
pub still_wide : (old new : Rows) (n : ℕ) → old.width ≡ n → new.width ≡ old.width → (HaveWidth old.width old.list → HaveWidth new.width new.list) → HaveWidth n old.list → HaveWidth n new.list
still_wide old new n same width rows wide = subst (λ (k : ℕ). HaveWidth k new.list) (width ∙ same) (rows (subst (λ (k : ℕ). HaveWidth k old.list) (sym same) wide))

-- what each of the plain rows has
pub plain_has : (P : List ℤ → Type 0) (rows : List Row) (i : ℕ) (r : Row) → i < length rows → r ≡ get_or rows i r → All P (plain_rows rows) → P (plain_row r)
plain_has P [] i r l e h = absurd (omega arith)
plain_has P (x ∷ rows) zero r l e h = subst (λ (q : Row). P (plain_row q)) (sym e) (h 0 (plain_row x) (omega arith))
plain_has P (x ∷ rows) (suc i) r l e h = plain_has P rows i r (omega arith) e (λ k d m. h (suc k) d (omega arith))

-- what follows where a call succeeds
pub ok_then : {X E : Type 0} (P Q : X → Type 0) → ((x : X) → P x → Q x) → (r : Result X E) → IfOk r P → IfOk r Q
ok_then P Q f (Ok x) h = f x h
ok_then P Q f (Err e) h = h
