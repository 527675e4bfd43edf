use Rattle.std.proofs.Common.{◌≡◌, [], map, ◌∙◌}
use Rattle.number_tests.specs.Shape.{list_at}
use Rattle.number_tests.specs.Targets.{AreFallColumns}
use Rattle.number_tests.proofs.CallFacts.{can_weigh}
use Rattle.termination_model.proofs.Lists.{any_default}
use Rattle.cert_checker.proofs.CallFallLaws.{finds_call}
use Rattle.cert_checker.proofs.fall_faults.call_fault.Given.{Over}
use Rattle.cert_checker.proofs.fall_faults.call_fault.Goals.{After-as_slice-columns}
use Rattle.cert_checker.proofs.fall_faults.call_fault.Goals as goal

-- the parts of the head and of the call, and their columns
module _ (g : Over) (c : After-as_slice-columns g) where
  heads : c.as_slice-heads.result.now ≡ list_at c.args.own.now.levels.now c.args.own.now.clause.now.head.pred.0
  heads = c.as_slice-heads.ensures ∙ any_default c.args.own.now.levels.now c.args.own.now.clause.now.head.pred.0 c.index-own-own.result [] c.requires.head_there

  calls : c.as_slice-calls.result.now ≡ list_at c.args.own.now.levels.now c.args.own.now.call.now.pred.0
  calls = c.as_slice-calls.ensures ∙ any_default c.args.own.now.levels.now c.args.own.now.call.now.pred.0 c.index-own-own-2.result [] c.requires.call_there

  columns : let e = g.N.Norm.expression c.args.norm.now in let clause = c.args.own.now.clause.now in AreFallColumns (map (e clause.vars) clause.head.args) (map (e clause.vars) c.args.own.now.call.now.args) clause.vars c.as_slice-columns.result.now
  columns = rw (c.as_slice-columns.ensures.value, ← c.requires.head, ← c.requires.head_width) c.in_ok-columns.ensures

pub mapping_fault-requires-clause-parts : goal.mapping_fault-requires-clause-parts
mapping_fault-requires-clause-parts g c =
    let own = c.args.own.now in
    rw (heads g c, calls g c) (can_weigh own.clause.now own.call.now c.as_slice-columns.result.now (list_at own.levels.now own.clause.now.head.pred.0) (list_at own.levels.now own.call.now.pred.0) c.requires.heads c.requires.calls
    (g.N.Norm.expression c.args.norm.now) (columns g c))

pub returns : goal.returns
returns g c =
    let h = (goal.at.returns g c).After-as_slice-columns in
    let own = c.args.own.now in
    let norm = c.args.norm.now in
    let hold = rw (heads g h, calls g h) at c.mapping_fault.ensures.hold in
    let first = rw (heads g h, calls g h) at c.mapping_fault.ensures.first in
    finds_call (g.N.Norm.size norm) (g.N.Norm.truth norm) (g.N.Norm.expression norm) (g.met.N.Norm.laws norm) own.levels.now own.clause.now own.call.now own.system.now c.args.proofs.now c.requires
    c.as_slice-columns.result.now (columns g h) c.args.line c.mapping_fault.result hold first
