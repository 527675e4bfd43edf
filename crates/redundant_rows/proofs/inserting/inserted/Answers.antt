use Rattle.std.proofs.Common.{◌≡◌, List, refl, sym, subst}
use Rattle.linear_rows.specs.Plain.{plain_rows}
use Rattle.linear_rows.specs.declared.row.Rows.{Rows}
use Rattle.redundant_rows.specs.declared.mark.Mark.{Mark}
use Rattle.redundant_rows.specs.Inserting.{kept_of}
use Rattle.redundant_rows.specs.Sweeping.{IsLess}
use Rattle.redundant_rows.proofs.InsertionLemmas.{less_of}
use Rattle.redundant_rows.proofs.RowLists.{ok_then}
use Rattle.redundant_rows.proofs.inserting.inserted.Goals as goal

pub returns-clause-less : goal.returns-clause-less
returns-clause-less c =
    let n = c.args.rows.now.width in
    let all = c.args.rows.now.list in
    let i = c.in_ok-insertion-3.insertion in
    let marks : List Mark = c.as_slice-2.result.now in
    let less : IsLess n (plain_rows all) (kept_of i.marks.items (plain_rows all)) = less_of n all i.marks.items i.kept c.in_ok-insertion-3.ensures.insertion (c.in_ok-insertion-3.ensures.known refl refl) in
    let left : IsLess n (plain_rows all) (kept_of marks (plain_rows all)) = subst (λ (ms : List Mark). IsLess n (plain_rows all) (kept_of ms (plain_rows all))) (sym c.as_slice-2.ensures.value) less in
    ok_then (λ (r : Rows). plain_rows r.list ≡ kept_of marks (plain_rows all)) (λ (r : Rows). IsLess n (plain_rows all) (plain_rows r.list))
    (λ r e. subst (IsLess n (plain_rows all)) (sym e) left) c.kept_rows.result c.kept_rows.ensures.rows
