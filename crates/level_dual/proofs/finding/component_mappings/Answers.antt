use Rattle.std.proofs.Common.{◌≡◌, ◌<◌, ◌↔◌, ℕ, IfSome, IsTrue, length, ap, sym, subst, ◌∙◌}
use Rattle.std.proofs.lemmas.List.{length-map}
use Rattle.linear_rows.specs.Step.{columns}
use Rattle.termination_model.specs.sizes.Sizes.{rows_of}
use Rattle.level_systems.specs.Found.{count}
use Rattle.level_systems.specs.Held.{spelled}
use Rattle.level_systems.specs.Searched.{IsComponent}
use Rattle.level_dual.proofs.BlownSets.{all_blown}
use Rattle.level_dual.proofs.FoundCases.{undecided_is}
use Rattle.level_dual.proofs.Results.{if_ok}
use Rattle.level_dual.proofs.finding.component_mappings.Goals as goal

pub returns-in_default : goal.returns-in_default
returns-in_default g c =
    let e = g.N.Norm.expression c.args.norm.now in
    let p = c.args.own.now.program.now in
    let comps = c.args.own.now.comps.now in
    let rows = rows_of c.args.sizes.now.rows in
    let items = c.in_ok-positions.positions.items in
    let long : length items ≡ count e p comps rows c.args.own.now.number = sym (length-map items spelled) ∙ ap length c.in_ok-positions.ensures in
    let large = subst (λ (n : ℕ). IsTrue c.is_large-large.result ↔ (12 < n)) (ap length c.as_slice.ensures.value ∙ long) c.is_large-large.ensures in
    let full : c.in_ok-full.full ≡ columns 1 (count e p comps rows c.args.own.now.number) = c.in_ok-full.ensures.numbers ∙ ap (columns 1) (c.count_of.ensures ∙ ap length c.as_slice-2.ensures.value ∙ long) in
    if_ok c.nothing_decided.result (λ f is. undecided_is e p comps rows c.args.own.now.number c.is_large-large.result large (all_blown e p comps rows c.args.own.now.number (c.in_ok-component.ensures.given_up c.in_default.is)) c.in_ok-full.full full f is) c.nothing_decided.ensures

pub find-requires-clause-full : goal.find-requires-clause-full
find-requires-clause-full g c =
    let e = g.N.Norm.expression c.args.norm.now in
    let size = g.N.Norm.size c.args.norm.now in
    let truth = g.N.Norm.truth c.args.norm.now in
    let p = c.args.own.now.program.now in
    let comps = c.args.own.now.comps.now in
    let rows = rows_of c.args.sizes.now.rows in
    let items = c.in_ok-positions.positions.items in
    let long : length items ≡ count e p comps rows c.args.own.now.number = sym (length-map items spelled) ∙ ap length c.in_ok-positions.ensures in
    let x = subst (λ o. IfSome o (IsComponent size truth e p comps rows c.args.own.now.number)) c.in-Some.is c.in_ok-component.ensures.component in
    let same : count e p comps rows c.args.own.now.number ≡ length c.in-Some.component.positions.items = sym (ap length x.positions) ∙ length-map c.in-Some.component.positions.items spelled in
    c.in_ok-full.ensures.numbers ∙ ap (columns 1) (c.count_of.ensures ∙ ap length c.as_slice-2.ensures.value ∙ long ∙ same)

pub returns : goal.returns
returns g c =
    let e = g.N.Norm.expression c.args.norm.now in
    let size = g.N.Norm.size c.args.norm.now in
    let truth = g.N.Norm.truth c.args.norm.now in
    let p = c.args.own.now.program.now in
    let comps = c.args.own.now.comps.now in
    let rows = rows_of c.args.sizes.now.rows in
    let items = c.in_ok-positions.positions.items in
    let long : length items ≡ count e p comps rows c.args.own.now.number = sym (length-map items spelled) ∙ ap length c.in_ok-positions.ensures in
    let large = subst (λ (n : ℕ). IsTrue c.is_large-large.result ↔ (12 < n)) (ap length c.as_slice.ensures.value ∙ long) c.is_large-large.ensures in
    let x = subst (λ o. IfSome o (IsComponent size truth e p comps rows c.args.own.now.number)) c.in-Some.is c.in_ok-component.ensures.component in
    c.in_ok-found.ensures comps c.args.own.now.number x large
