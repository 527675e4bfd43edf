use Rattle.std.proofs.Common.{◌≡◌, IsTrue, length, map}
use Rattle.linear_rows.specs.Plain.{plain_rows}
use Rattle.number_tests.proofs.CallFacts.{if_ok_more}
use Rattle.number_tests.specs.Shape.{list_at}
use Rattle.number_tests.specs.Targets.{AreFallColumns}
use Rattle.lex_checker.proofs.DropLists.{can_drop, drops_decided}
use Rattle.lex_checker.proofs.dropping.call_drops.Given.{Over}
use Rattle.lex_checker.proofs.dropping.call_drops.Goals.{After-as_slice-3}
use Rattle.lex_checker.proofs.dropping.call_drops.Goals as goal

-- the lists at the head and at the call, and the columns of their arguments
module _ (g : Over) (c : After-as_slice-3 g) where
  heads : c.items_at-heads.result.now ≡ list_at c.args.parts.now.lists c.args.clause.now.head.pred.0
  heads = cc

  calls : c.items_at-calls.result.now ≡ list_at c.args.parts.now.lists c.args.call.now.pred.0
  calls = cc

  columns : let e = g.N.Norm.expression c.args.norm.now in let clause = c.args.clause.now in AreFallColumns (map (e clause.vars) clause.head.args) (map (e clause.vars) c.args.call.now.args) clause.vars c.as_slice-3.result.now
  columns = rw (c.as_slice-3.ensures.value, ← c.requires.system.1.head, ← c.requires.system.1.head_width) c.in_ok-columns.ensures

pub lists_drop-requires-clause-parts : goal.lists_drop-requires-clause-parts
lists_drop-requires-clause-parts g c =
    let here = (goal.at.lists_drop-requires-clause-parts g c).After-as_slice-3 in
    let norm = c.args.norm.now in
    let clause = c.args.clause.now in
    let call = c.args.call.now in
    let lists = c.args.parts.now.lists in
    λ m. rw (heads g here, calls g here) (can_drop (g.N.Norm.size norm) (g.N.Norm.truth norm) (g.N.Norm.expression norm) (g.met.N.Norm.laws norm) (length c.args.system.now.rows.list) clause call c.as_slice-3.result.now (columns g here)
    (list_at lists clause.head.pred.0) (list_at lists call.pred.0) c.args.proofs.now c.requires.lists m)

pub returns : goal.returns
returns g c =
    let here = (goal.at.returns g c).After-as_slice-3 in
    let norm = c.args.norm.now in
    let clause = c.args.clause.now in
    let call = c.args.call.now in
    let lists = c.args.parts.now.lists in
    let tested = rw (heads g here, calls g here) at c.lists_drop.ensures in
    if_ok_more _ _
    (λ yes decides. drops_decided (g.N.Norm.size norm) (g.N.Norm.truth norm) (g.N.Norm.expression norm) (g.met.N.Norm.laws norm) (length c.args.system.now.rows.list) clause call c.as_slice-3.result.now (columns g here)
    (list_at lists clause.head.pred.0) (list_at lists call.pred.0) c.args.proofs.now c.requires.lists (IsTrue yes) (plain_rows c.args.system.now.rows.list) decides) c.lists_drop.result tested
