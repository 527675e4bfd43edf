use Rattle.std.proofs.Common.{refl, sym, ◌∙◌}
use Rattle.truth_rows.specs.Sets.{family_of}
use Rattle.termination_model.specs.chains.Chain.{is_member}
use Rattle.groundness.proofs.ComponentLaws.{least_stays}
use Rattle.groundness.proofs.RoundLaws.{kept_later}
use Rattle.groundness.proofs.solving.solve_component.Goals as goal

pub returns-clause-others : goal.returns-clause-others
returns-clause-others g c = λ q off. c.in_ok-add_all.ensures.others q off ∙ c.in_ok-begin.ensures.others q off

pub returns-clause-least : goal.returns-clause-least
returns-clause-least g c =
    let s = c.args.setting.now in
    let p = s.program.now in
    let T = c.begin.new.table in
    let family = family_of p.preds c.add_all.new.table c.add_all.new.sets in
    least_stays (g.N.Norm.truth s.norm.now) p (is_member s.comps.now c.args.c) (family_of p.preds T c.begin.new.sets) family (family_of p.preds c.args.table.now c.args.sets.now) family (λ q is. refl)
    (λ j k at is i b e off. sym (kept_later p.preds c.args.table.now T c.begin.ensures.keeps c.args.sets.now c.requires.sets.known c.begin.new.sets b.pred.0 (c.in_ok-begin.ensures.others b.pred.0 off)))
    c.in_ok-add_all.ensures.least
