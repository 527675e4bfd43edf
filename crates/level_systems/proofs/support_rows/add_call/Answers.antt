use Rattle.std.proofs.Common.{◌≡◌, ◌++◌, suc, [], ◌∷◌, map, length, ap, sym, ◌∙◌, arith}
use Rattle.call_components.specs.Numbers.{number_of}
use Rattle.linear_rows.specs.Plain.{plain_row, plain_rows}
use Rattle.linear_rows.specs.Step.{columns}
use Rattle.termination_model.specs.mappings.SupportSystem.{call_row}
use Rattle.termination_model.proofs.Lists.{append_assoc, map_push}
use Rattle.level_systems.specs.Held.{held_numbers, spelled}
use Rattle.level_systems.proofs.Holding.{held_row}
use Rattle.level_systems.proofs.RowLengths.{columns_more, held_length}
use Rattle.level_systems.proofs.support_rows.add_call.Goals as goal

pub call_row-requires-clause-head : goal.call_row-requires-clause-head
call_row-requires-clause-head c = (c.requires.numbers.natural c.loop-x.x (omega (arith, c.loop-x-test.true))).0

pub call_row-requires-clause-call : goal.call_row-requires-clause-call
call_row-requires-clause-call c = (c.requires.numbers.natural c.loop-x.x (omega (arith, c.loop-x-test.true))).1

pub push-requires : goal.push-requires
push-requires c =
    let long : suc (length c.in_ok-call_row.field-0.coeffs) ≡ suc (length (held_numbers c.args.own.now c.args.positions.now c.args.members.now c.args.before c.args.after c.loop-x.x)) = ap length c.in_ok-call_row.ensures in
    omega (arith, long, held_length c.args.own.now c.args.positions.now c.args.members.now c.args.before c.args.after c.loop-x.x, c.requires.width, c.loop-x.invariant.width)

pub loop-x-preserved : goal.loop-x-preserved
loop-x-preserved c =
    let i = c.loop-x.invariant in
    let x = c.loop-x.x in
    let positions = map spelled c.args.positions.now in
    let members = map number_of c.args.members.now in
    record {
      width = c.push.ensures.width ∙ i.width;
      widths = λ h. c.push.ensures.rows (i.widths h);
      rows = λ expression o r.
          let row : plain_row c.in_ok-call_row.field-0 ≡ call_row expression positions members c.args.before c.args.after o x =
          c.in_ok-call_row.ensures ∙ held_row expression o c.args.own.now r c.args.positions.now c.args.members.now c.args.before c.args.after x in
          ap plain_rows c.in_ok-push.ensures.ok
          ∙ map_push plain_row c.loop-x.system.list c.in_ok-call_row.field-0
          ∙ (λ j. i.rows expression o r j ++ row j ∷ [])
          ∙ append_assoc (plain_rows c.args.system.now.list) (map (call_row expression positions members c.args.before c.args.after o) (columns 0 x)) (call_row expression positions members c.args.before c.args.after o x ∷ [])
          ∙ ap (λ s. plain_rows c.args.system.now.list ++ s) (sym (ap (map (call_row expression positions members c.args.before c.args.after o)) (columns_more x) ∙ map_push (call_row expression positions members c.args.before c.args.after o) (columns 0 x) x));
    }

pub returns-clause-rows : goal.returns-clause-rows
returns-clause-rows c = λ expression o r.
    let end : c.loop-x.x ≡ suc o.rule.vars = omega (arith, r.vars, c.loop-x-test.false) in
    c.loop-x.invariant.rows expression o r ∙ ap (λ n. plain_rows c.args.system.now.list ++ map (call_row expression (map spelled c.args.positions.now) (map number_of c.args.members.now) c.args.before c.args.after o) (columns 0 n)) end
