use Rattle.std.proofs.Common.{◌≡◌, ◌++◌, suc, [], ◌∷◌, map, length, ap, sym, ◌∙◌, arith}
use Rattle.call_components.specs.Numbers.{number_of}
use Rattle.linear_rows.specs.Plain.{plain_row, plain_rows}
use Rattle.linear_rows.specs.Step.{columns}
use Rattle.termination_model.specs.lists.TurnSystem.{turn_row}
use Rattle.termination_model.proofs.Lists.{append_assoc, map_push}
use Rattle.level_systems.specs.Held.{spelled}
use Rattle.level_systems.specs.Turned.{turned_numbers}
use Rattle.level_systems.proofs.TurnSteps.{turned_length, turned_row}
use Rattle.level_systems.proofs.RowLengths.{columns_more}
use Rattle.level_systems.proofs.turn_rows.Unknowns.add_turn.Goals as goal

pub turn_row-requires-clause-head : goal.turn_row-requires-clause-head
turn_row-requires-clause-head c = (c.requires.numbers.natural c.loop-x.x (omega (arith, c.loop-x-test.true))).0

pub turn_row-requires-clause-call : goal.turn_row-requires-clause-call
turn_row-requires-clause-call c = (c.requires.numbers.natural c.loop-x.x (omega (arith, c.loop-x-test.true))).1

pub push-requires : goal.push-requires
push-requires c =
    let long : suc (length c.in_ok-row.row.coeffs) ≡ suc (length (turned_numbers c.args.own.now c.args.self.now.positions.now c.args.self.now.members.now c.args.self.now.earlier c.args.self.now.later c.args.self.now.before c.args.self.now.after c.loop-x.x)) = ap length c.in_ok-row.ensures in
    omega (arith, long, turned_length c.args.own.now c.args.self.now.positions.now c.args.self.now.members.now c.args.self.now.earlier c.args.self.now.later c.args.self.now.before c.args.self.now.after c.loop-x.x, c.requires.width, c.loop-x.invariant.width)

pub loop-x-preserved : goal.loop-x-preserved
loop-x-preserved c =
    let i = c.loop-x.invariant in
    let x = c.loop-x.x in
    let positions = map spelled c.args.self.now.positions.now in
    let members = map number_of c.args.self.now.members.now in
    record {
      width = c.push.ensures.width ∙ i.width;
      widths = λ h. c.push.ensures.rows (i.widths h);
      rows = λ expression o r.
          let made = turn_row expression positions members c.args.self.now.earlier c.args.self.now.later c.args.self.now.before c.args.self.now.after o in
          let row : plain_row c.in_ok-row.row ≡ turn_row expression positions members c.args.self.now.earlier c.args.self.now.later c.args.self.now.before c.args.self.now.after o x =
          c.in_ok-row.ensures ∙ turned_row expression o c.args.own.now r c.args.self.now.positions.now c.args.self.now.members.now c.args.self.now.earlier c.args.self.now.later c.args.self.now.before c.args.self.now.after x in
          ap plain_rows c.in_ok-push.ensures.ok
          ∙ map_push plain_row c.loop-x.system.list c.in_ok-row.row
          ∙ (λ j. i.rows expression o r j ++ row j ∷ [])
          ∙ append_assoc (plain_rows c.args.system.now.list) (map made (columns 0 x)) (made x ∷ [])
          ∙ ap (λ s. plain_rows c.args.system.now.list ++ s) (sym (ap (map made) (columns_more x) ∙ map_push made (columns 0 x) x));
    }

pub returns-clause-rows : goal.returns-clause-rows
returns-clause-rows c = λ expression o r.
    let end : c.loop-x.x ≡ suc o.rule.vars = omega (arith, r.vars, c.loop-x-test.false) in
    c.loop-x.invariant.rows expression o r ∙ ap (λ n. plain_rows c.args.system.now.list ++ map (turn_row expression (map spelled c.args.self.now.positions.now) (map number_of c.args.self.now.members.now) c.args.self.now.earlier c.args.self.now.later c.args.self.now.before c.args.self.now.after o) (columns 0 n)) end
