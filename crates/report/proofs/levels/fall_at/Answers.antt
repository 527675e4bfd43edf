use Rattle.std.proofs.Common.{◌≡◌, Some, slice_get, ap, sym, subst, ◌∙◌, List}
use Rattle.level_systems.specs.declared.fall.Fall.{Fall}
use Rattle.level_dual.proofs.Results.{if_ok}
use Rattle.termination_model.proofs.Lists.{there}
use Rattle.report.specs.Levels.{by_or_none}
use Rattle.report.proofs.FallLaws.{fall_first}
use Rattle.report.proofs.levels.fall_at.Goals as goal

pub returns-in-Some : goal.returns-in-Some
returns-in-Some c =
    let falls = c.args.mapping.now.falls in
    let f : Fall = c.in-Some.fall.now in
    let looked = c.in-Some.ensures.lookup.3 in
    let at : slice_get falls c.args.at ≡ Some f = subst (λ (fs : List Fall). slice_get fs c.args.at ≡ Some f) c.as_slice.ensures (there c.as_slice.result.now c.args.at f looked.0 ∙ ap Some (sym (looked.1 f))) in
    if_ok c.copy.result (λ by is. is ∙ sym (ap by_or_none (fall_first falls c.args.at c.args.clause c.args.call f c.requires at c.if-fall-clause.true c.if-fall-call.true))) c.copy.ensures
