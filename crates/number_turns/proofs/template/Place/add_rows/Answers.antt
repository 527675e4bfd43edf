use Rattle.std.proofs.Common.{◌≡◌, ◌++◌, suc, [], ◌∷◌, map, length, ap, sym, ◌∙◌, arith}
use Rattle.linear_rows.specs.Plain.{plain_row, plain_rows}
use Rattle.linear_rows.specs.Step.{columns}
use Rattle.termination_model.proofs.Lists.{append_assoc, map_push}
use Rattle.transitions.specs.Templates.{template_row}
use Rattle.number_turns.specs.Demanding.{target_of, with_numbers}
use Rattle.number_turns.specs.Recalled.{spelled}
use Rattle.number_turns.proofs.DemandRows.{row_is, row_long}
use Rattle.number_turns.proofs.RowLists.{columns_more}
use Rattle.number_turns.proofs.template.Place.add_rows.Goals as goal

pub push-requires : goal.push-requires
push-requires c =
    let place = c.args.self.now in
    let x = c.loop-x.x in
    let made : suc (length c.in_ok-row.row.coeffs) ≡ suc (length (with_numbers place.features.now place.demand place.before place.after x [])) =
    ap length (c.in_ok-row.ensures ∙ sym (row_is place.features.now place.demand place.before place.after x)) in
    omega (arith, made, row_long place.features.now place.demand place.before place.after x, c.requires.width, c.loop-x.invariant.width)

pub loop-x-preserved : goal.loop-x-preserved
loop-x-preserved c =
    let i = c.loop-x.invariant in
    let x = c.loop-x.x in
    let place = c.args.self.now in
    let made = template_row place.before place.after (target_of (map spelled place.features.now) place.demand) in
    record {
      width = c.push.ensures.width ∙ i.width;
      widths = λ h. c.push.ensures.rows (i.widths h);
      rows = ap plain_rows c.in_ok-push.ensures.ok
          ∙ map_push plain_row c.loop-x.system.list c.in_ok-row.row
          ∙ (λ j. i.rows j ++ c.in_ok-row.ensures j ∷ [])
          ∙ append_assoc (plain_rows c.args.system.now.list) (map made (columns 0 x)) (made x ∷ [])
          ∙ ap (λ s. plain_rows c.args.system.now.list ++ s) (sym (ap (map made) (columns_more x) ∙ map_push made (columns 0 x) x));
    }

pub returns-clause-rows : goal.returns-clause-rows
returns-clause-rows c =
    let place = c.args.self.now in
    let made = template_row place.before place.after (target_of (map spelled place.features.now) place.demand) in
    let end : c.loop-x.x ≡ suc place.demand.transition.now.rows.width = omega (arith, c.loop-x-test.false) in
    c.loop-x.invariant.rows ∙ ap (λ n. plain_rows c.args.system.now.list ++ map made (columns 0 n)) end
