use Rattle.std.proofs.Common.{List, ap, sym, subst, ◌∙◌, arith}
use Rattle.std.specs.List.{list_any}
use Rattle.bool_diagrams.specs.Cubes.{truth_rows}
use Rattle.bool_diagrams.specs.declared.diagram.Diagram.{Diagram}
use Rattle.precond_fixpoint.specs.Solving.{FitPredicate}
use Rattle.precond_fixpoint.proofs.FamilyLaws.{put_unions}
use Rattle.precond_fixpoint.proofs.PlaceLaws.{items_at}
use Rattle.termination_model.specs.mappings.View.{all_upper}
use Rattle.truth_rows.proofs.ListLaws.{set_elsewhere, set_there}
use Rattle.precond_fixpoint.proofs.columns.put_member.Goals as goal

pub returns-clause-allowed : goal.returns-clause-allowed
returns-clause-allowed c =
    let preds = c.args.p.now.preds in
    let T = c.args.table.now in
    let q = c.args.member.0 in
    let own = c.swap.new.x in
    let fit = subst (FitPredicate preds T q) (sym c.swap.ensures.x_after) c.requires.fit in
    put_unions T c.upward_union.new.table c.upward_union.ensures.keeps preds c.args.sets.now c.args.allowed.now c.requires.sets c.requires.allowed q c.pred.result.now c.pred.ensures own
    fit.known (λ m d e. fit.reads m d c.pred.result.now e c.pred.ensures)
    c.in_ok-upper.upper c.in_ok-upper.ensures.known c.in_ok-upper.ensures.reads
    (λ row long. c.in_ok-upper.ensures.rows row long ∙ ap (λ (ds : List Diagram). list_any (λ (s : Diagram). all_upper (truth_rows T s) row) ds) (c.as_slice.ensures ∙ sym c.swap.ensures.x_after))

pub returns-clause-own : goal.returns-clause-own
returns-clause-own c =
    let q = c.args.member.0 in
    let own = c.swap.new.x in
    items_at _ q own (set_there c.args.sets.now q own (omega (arith, c.requires.sets.each, c.requires.there))) ∙ c.swap.ensures.x_after

pub returns-clause-others : goal.returns-clause-others
returns-clause-others c = λ q other. set_elsewhere c.args.sets.now c.args.member.0 q c.swap.new.x other
