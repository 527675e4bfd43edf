use Rattle.std.proofs.Common.{◌≡◌, ℕ, ◌+◌, ℤ, List, [], ◌∷◌, ◌++◌, take, slice_get, Some, subst, ap, ◌∙◌, sym}
use Rattle.linear_rows.specs.Plain.{plain_row, plain_rows, HaveWidth}
use Rattle.linear_rows.specs.declared.row.Row.{Row}
use Rattle.termination_model.proofs.Lists.{at_place, taken_more}
use Rattle.polyhedra.specs.Keeping.{IsKept}
use Rattle.simplex.proofs.RowLists.{map_push}
use Rattle.polyhedra.proofs.Keeps.{kept_more}
use Rattle.polyhedra.proofs.Remembered.{remembered}
use Rattle.polyhedra.proofs.keeping.kept_on.Goals as goal

pub loop-row-preserved : goal.loop-row-preserved
loop-row-preserved c =
    let i = c.loop-row.invariant in
    let l = c.args.rows.now.list in
    let k = c.keep.new.kept in
    let items : List Row = c.as_slice-row-items.result.now in
    let at : slice_get l c.loop-row.row-index ≡ Some c.row-item.result =
    ap (λ (rs : List Row). slice_get rs c.loop-row.row-index) (sym c.as_slice-row-items.ensures) ∙ at_place items c.loop-row.row-index c.row-item.result c.loop-row-test.true c.row-item.is in
    let more : take (c.loop-row.row-index + 1) l ≡ take c.loop-row.row-index l ++ c.row-item.result ∷ [] = taken_more l c.loop-row.row-index c.row-item.result at in
    let plain : plain_rows (take (c.loop-row.row-index + 1) l) ≡ plain_rows (take c.loop-row.row-index l) ++ plain_row c.row-item.result ∷ [] = ap plain_rows more ∙ map_push plain_row (take c.loop-row.row-index l) c.row-item.result in
    record {
      width = c.in_ok-keep.ensures.width ∙ i.width;
      widths = subst (λ (n : ℕ). HaveWidth n k.rows.list) i.width c.in_ok-keep.ensures.widths;
      last = remembered c.args.system.now (plain_row c.row-item.result) c.in_ok-held.held c.loop-row.kept.last k.last c.in_ok-held.ensures c.in_ok-keep.ensures.last i.last;
      says = subst (λ (rs : List (List ℤ)). IsKept c.args.system.now rs k) (sym plain)
          (kept_more c.args.system.now (plain_row c.row-item.result) c.in_ok-held.held c.in_ok-held.ensures (plain_rows (take c.loop-row.row-index l)) c.loop-row.kept k i.says c.in_ok-keep.ensures.more);
    }
