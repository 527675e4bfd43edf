use Rattle.std.proofs.Common.{◌≡◌, ◌∙◌, ◌++◌, ◌∷◌, [], ℕ, zero, suc, ◌+◌, List, take, ap, sym, slice_get, Some, arith}
use Rattle.linear_rows.specs.Plain.{plain_row, plain_rows}
use Rattle.linear_rows.specs.declared.row.Row.{Row}
use Rattle.sparse_rows.proofs.converting.lines_of.Goals as goal

-- one more row
row_more : (rows : List Row) (i : ℕ) (r : Row) → slice_get rows i ≡ Some r → plain_rows (take i rows) ++ plain_row r ∷ [] ≡ plain_rows (take (i + 1) rows)
row_more [] i r e = cc
row_more (x ∷ rows) zero r e =
    let same : x ≡ r = cc in
    ap (λ (q : Row). plain_row q ∷ []) (sym same)
row_more (x ∷ rows) (suc i) r e =
    let one : suc i + 1 ≡ suc (i + 1) = omega arith in
    ap (λ l. plain_row x ∷ l) (row_more rows i r e) ∙ ap (λ k. plain_rows (take k (x ∷ rows))) (sym one)

pub loop-i-preserved : goal.loop-i-preserved
loop-i-preserved c =
    c.in_ok-push.ensures
    ∙ ap (λ l. l ++ c.in_ok-line.line ∷ []) c.loop-i.invariant
    ∙ ap (λ r. plain_rows (take c.loop-i.i c.args.rows.now.list) ++ r ∷ []) c.in_ok-line.ensures
    ∙ row_more c.args.rows.now.list c.loop-i.i c.get.result.now c.get.ensures
