use Rattle.std.proofs.Common.{◌<◌, ◌∙◌, length, sym, arith}
use Rattle.cti_terms.specs.declared.predicates.Pred.{Pred}
use Rattle.clause_normal.specs.Numbering.{is_equality}
use Rattle.clause_variables.proofs.ListLemmas.{all_get, place_found, place_next, place_none}
use Rattle.clause_normal.proofs.text_program.equality_pred.Goals as goal

pub is_equality-requires : goal.is_equality-requires
is_equality-requires c = all_get (λ (q : Pred). q.name.0 < length c.args.names.now) c.args.program.now.preds c.loop-i.i c.pred.result.now c.requires c.pred.ensures

pub loop-i-preserved : goal.loop-i-preserved
loop-i-preserved c = place_next (is_equality c.args.names.now) c.args.program.now.preds c.loop-i.i c.pred.result.now c.pred.ensures (sym c.is_equality.ensures ∙ c.if-is_equality.false) c.loop-i.invariant

pub returns-then-is_equality : goal.returns-then-is_equality
returns-then-is_equality c = place_found (is_equality c.args.names.now) c.args.program.now.preds c.loop-i.i c.pred.result.now c.pred.ensures (sym c.is_equality.ensures ∙ c.if-is_equality.true) c.loop-i.invariant

pub returns : goal.returns
returns c = place_none (is_equality c.args.names.now) c.args.program.now.preds c.loop-i.i (omega arith) c.loop-i.invariant
