use Rattle.std.proofs.Common.{map, sym, subst, ◌∙◌}
use Rattle.std.specs.List.{AllByRecursion}
use Rattle.call_components.specs.Numbers.{number_of}
use Rattle.termination_model.specs.mappings.SupportSystem.{support_rows}
use Rattle.level_systems.specs.Held.{live_of, spelled}
use Rattle.level_systems.specs.Recalled.{Recalls}
use Rattle.level_systems.specs.declared.own_call.OwnCall.{OwnCall}
use Rattle.level_systems.proofs.HeldCalls.{all_recall, re}
use Rattle.level_dual.proofs.Results.{if_ok}
use Rattle.level_dual.proofs.searching.system_at.Goals as goal

pub returns-clause-rows : goal.returns-clause-rows
returns-clause-rows c = if_ok c.support_system.result (λ system spells. λ size truth expression comps rows r h.
    let x = c.args.component.now in
    let own = re expression c.args.p.now comps rows r in
    let recalled = subst (AllByRecursion (λ (y : OwnCall). Recalls expression (own y) y)) (sym c.as_slice.ensures.value) (all_recall expression c.args.p.now comps rows r x.calls.items h.held) in
    spells expression own recalled
    ∙ (λ j. support_rows expression (map spelled c.args.at.now) (map number_of (c.as_slice-2.ensures.value j)) (map own (live_of (c.as_slice.ensures.value j))))) c.support_system.ensures.rows
