use Rattle.std.proofs.Common.{◌<◌, ◌∙◌, length, arith, subst}
use Rattle.std.specs.Prelude.{slice_index_or}
use Rattle.std.proofs.lemmas.Option.{slice_get-get_or}
use Rattle.linear_rows.specs.Plain.{plain_rows, HaveWidth}
use Rattle.redundant_rows.specs.Inserting.{kept_of}
use Rattle.redundant_rows.specs.declared.mark.Mark.TheVariants.{Waiting}
use Rattle.redundant_rows.proofs.InsertionLemmas.{kept_moved}
use Rattle.redundant_rows.proofs.inserting.kept_rows.Goals as goal

pub loop-place-preserved : goal.loop-place-preserved
loop-place-preserved c =
    let i = c.loop-place.invariant in
    let list = c.args.rows.now.list in
    let marks = c.args.marks.now in
    let p = c.loop-place.place in
    let less : p < length marks = omega (arith, c.requires.marks, c.len-place-end.ensures, c.loop-place-test.true) in
    record {
      width = c.push_kept.ensures.width ∙ i.width;
      widths = subst (λ n. HaveWidth n c.push_kept.new.all.list) i.width c.push_kept.ensures.widths;
      rows = kept_moved (plain_rows c.loop-place.all.list) (plain_rows c.push_kept.new.all.list) (kept_of marks (plain_rows list)) marks list p (slice_index_or marks p Waiting) c.get.result.now
          (slice_get-get_or marks p Waiting less) c.get.ensures c.in_ok-push_kept.ensures.rows i.rows;
    }
