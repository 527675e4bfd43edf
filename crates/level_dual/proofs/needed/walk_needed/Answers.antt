use Rattle.std.proofs.Common.{◌≡◌, ◌∷◌, [], length, ap, sym, subst, ◌∙◌}
use Rattle.std.proofs.lemmas.List.{length-map}
use Rattle.termination_model.specs.mappings.ComponentViews.{positions_in}
use Rattle.level_systems.specs.Held.{spelled}
use Rattle.level_systems.specs.Mappings.{support_of}
use Rattle.level_systems.specs.Searched.{IsAnswer}
use Rattle.level_dual.specs.Walked.{IsAllWalked}
use Rattle.level_dual.proofs.NeededLaws.{all_walked_at_once}
use Rattle.level_dual.proofs.WalkLaws.{sets}
use Rattle.level_dual.proofs.needed.walk_needed.Goals as goal

pub returns-in_ok-walked_with-in-Mapping : goal.returns-in_ok-walked_with-in-Mapping
returns-in_ok-walked_with-in-Mapping c = λ size truth expression comps rows r h needed.
    let p = c.args.p.now in
    let x = c.args.component.now in
    let m = c.in-Mapping.mapping in
    let found = subst (IsAnswer expression p comps rows r c.args.needed.now) c.in-Mapping.is (c.in_ok-mapping.ensures size truth expression comps rows r h) in
    let many : length x.positions.items ≡ length (positions_in p comps r) = sym (length-map x.positions.items spelled) ∙ ap length h.positions in
    let is = c.in_ok-walked_with-in-Mapping.ensures ∙ (λ k. record { found = support_of (h.positions k) m ∷ []; mappings = m ∷ []; blown = [] }) in
    subst (IsAllWalked expression p comps rows r) (sym is)
    (all_walked_at_once expression p comps rows r (length x.positions.items) (sets size truth expression p comps rows r x h) c.args.needed.now needed m found many)
