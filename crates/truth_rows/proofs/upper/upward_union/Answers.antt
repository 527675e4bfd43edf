use Rattle.std.proofs.Common.{◌≡◌, ◌||◌, slice_get, slice_index_or, Some, sym, ◌∙◌}
use Rattle.bool_diagrams.specs.declared.diagram.Diagram.{Diagram}
use Rattle.bool_diagrams.specs.Cubes.{truth_rows, values_of}
use Rattle.bool_diagrams.proofs.CallerLemmas.{holds_later, keeps_twice}
use Rattle.termination_model.specs.mappings.View.{all_upper}
use Rattle.truth_rows.proofs.CellLaws.{any_next}
use Rattle.termination_model.proofs.Lists.{there}
use Rattle.truth_rows.proofs.SetLaws.{none}
use Rattle.truth_rows.proofs.upper.upward_union.Goals as goal

pub loop-set-preserved : goal.loop-set-preserved
loop-set-preserved c =
    let i = c.loop-set.invariant in
    let n = c.loop-set.set-index in
    let set = slice_index_or c.args.sets.now n none in
    let old = c.args.table.now in
    let at : slice_get c.args.sets.now n ≡ Some set = there c.args.sets.now n none c.loop-set-test.true in
    let later = holds_later c.loop-set.table c.upper_rows.new.table c.loop-set.rows c.upper_rows.ensures.keeps i.known in
    let e = c.in_ok-rows.ensures.rows in
    record {
      keeps = keeps_twice _ _ _ i.keeps (keeps_twice _ _ _ c.upper_rows.ensures.keeps c.or.ensures.keeps);
      known = c.in_ok-rows.ensures.known;
      reads = λ row other agree. e row ∙ (λ k. (later row ∙ i.reads row other agree ∙ sym (later other)) k || c.in_ok-upper.ensures.reads row other agree k) ∙ sym (e other);
      rows = λ row long.
          let upper = c.in_ok-upper.ensures.rows row long
          ∙ (λ k. all_upper (λ us. holds_later old c.loop-set.table set i.keeps (c.requires.known n set at) (values_of us) k) row) in
          e (values_of row) ∙ (λ k. (later (values_of row) ∙ i.rows row long) k || upper k)
          ∙ any_next (λ (s : Diagram). all_upper (truth_rows old s) row) c.args.sets.now n set at;
    }
