use Rattle.std.proofs.Common.{◌≡◌, ◌<◌, ◌↔◌, ◌∷◌, [], ℕ, Bool, List, None, IsTrue, length, true, sym, subst, ◌∙◌}
use Rattle.termination_model.specs.mappings.ComponentViews.{positions_in}
use Rattle.termination_model.specs.grounds.Modes.{is_part}
use Rattle.termination_model.specs.sizes.Sizes.{rows_of}
use Rattle.level_systems.specs.Found.{IsBlownSet, count}
use Rattle.level_systems.specs.Mappings.{support_of}
use Rattle.level_systems.specs.Searched.{IsAnswer}
use Rattle.level_dual.proofs.FoundCases.{given_up_is, part_full}
use Rattle.level_dual.proofs.Results.{if_ok}
use Rattle.level_dual.proofs.WalkLaws.{full_in, sets}
use Rattle.level_dual.proofs.finding.find.Goals as goal

pub returns-in-Refuted : goal.returns-in-Refuted
returns-in-Refuted g c =
    let e = g.N.Norm.expression c.args.norm.now in
    let size = g.N.Norm.size c.args.norm.now in
    let truth = g.N.Norm.truth c.args.norm.now in
    let p = c.args.p.now in
    let x = c.args.component.now in
    let rows = rows_of c.args.sizes.now.rows in
    let full = c.as_slice.ensures ∙ c.requires.full in
    if_ok c.none_decreases.result (λ f is. λ comps r h large.
    let excluded = subst (IsAnswer e p comps rows r c.as_slice.result.now) c.in-Refuted.is (c.in_ok-search.ensures size truth e comps rows r h) in
    is comps r h large (λ s k. excluded s (subst (λ (t : List ℕ). is_part s t ≡ true) (sym full) (part_full (length x.positions.items) s (sets size truth e p comps rows r x h s k))) k)) c.none_decreases.ensures

pub returns-else-large : goal.returns-else-large
returns-else-large g c =
    let e = g.N.Norm.expression c.args.norm.now in
    let size = g.N.Norm.size c.args.norm.now in
    let truth = g.N.Norm.truth c.args.norm.now in
    let p = c.args.p.now in
    let rows = rows_of c.args.sizes.now.rows in
    if_ok c.find_small.result (λ f is. λ comps r h large.
    let found = subst (IsAnswer e p comps rows r c.as_slice.result.now) c.in-Mapping.is (c.in_ok-search.ensures size truth e comps rows r h) in
    is size truth e comps rows r h (subst (λ (b : Bool). IsTrue b ↔ (12 < count e p comps rows r)) c.if-large.false large)
    (λ yes. cc) (λ q none. none (support_of (positions_in p comps r) c.in-Mapping.mapping) found.has)) c.find_small.ensures

pub returns-else-large-2 : goal.returns-else-large-2
returns-else-large-2 g c =
    let e = g.N.Norm.expression c.args.norm.now in
    let size = g.N.Norm.size c.args.norm.now in
    let truth = g.N.Norm.truth c.args.norm.now in
    let p = c.args.p.now in
    let rows = rows_of c.args.sizes.now.rows in
    if_ok c.find_small-in-Blown.result (λ f is. λ comps r h large.
    let blown = subst (IsAnswer e p comps rows r c.as_slice.result.now) c.in-Blown.is (c.in_ok-search.ensures size truth e comps rows r h) in
    is size truth e comps rows r h (subst (λ (b : Bool). IsTrue b ↔ (12 < count e p comps rows r)) c.if-large-2.false large) (λ yes. subst (IsBlownSet e p comps rows r) c.as_slice.ensures blown) (λ q none. cc)) c.find_small-in-Blown.ensures

pub returns-then-large-2 : goal.returns-then-large-2
returns-then-large-2 g c =
    let e = g.N.Norm.expression c.args.norm.now in
    let size = g.N.Norm.size c.args.norm.now in
    let truth = g.N.Norm.truth c.args.norm.now in
    let p = c.args.p.now in
    let x = c.args.component.now in
    let rows = rows_of c.args.sizes.now.rows in
    if_ok c.all_given_up.result (λ f is. λ comps r h large.
    let blown = subst (IsAnswer e p comps rows r c.as_slice.result.now) c.in-Blown.is (c.in_ok-search.ensures size truth e comps rows r h) in
    given_up_is e p comps rows r (subst (λ (b : Bool). IsTrue b ↔ (12 < count e p comps rows r)) c.if-large-2.true large) c.args.full (subst (IsBlownSet e p comps rows r) c.as_slice.ensures blown)
    (c.requires.full ∙ full_in size truth e p comps rows r x h) f (subst (λ (b : Bool). f ≡ record { mappings = []; refutation = None; blown = c.args.full ∷ []; large = b }) c.if-large-2.true is)) c.all_given_up.ensures
