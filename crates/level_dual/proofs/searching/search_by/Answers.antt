use Rattle.std.proofs.Common.{◌≡◌, ◌≤ℤ◌, ◌+◌, ℤ, pos, List, Ok, Err, filter, length, map, ap, sym, subst, ◌∙◌}
use Rattle.std.specs.Prelude.{All}
use Rattle.std.specs.List.{list_any}
use Rattle.std.proofs.lemmas.List.{length-map}
use Rattle.call_components.specs.Numbers.{number_of}
use Rattle.fourier.specs.Solves.{Spells}
use Rattle.linear_rows.specs.Decides.{Decides}
use Rattle.fourier.specs.declared.fault.ElimFault.{ElimFault}
use Rattle.linear_rows.specs.declared.solved.Solved.{Solved}
use Rattle.linear_rows.specs.Plain.{plain_rows}
use Rattle.linear_rows.specs.Proves.{Refutes}
use Rattle.linear_rows.specs.Rows.{IsPoint}
use Rattle.linear_rows.specs.Solving.{solution}
use Rattle.simplex.specs.Solving.{IsBlownAs}
use Rattle.termination_model.specs.mappings.BlownSupports.{same_position}
use Rattle.termination_model.specs.mappings.SupportSystem.{support_rows}
use Rattle.termination_model.specs.mappings.Supports.{AreDistinct, picked_from}
use Rattle.level_systems.specs.Held.{live_of, spelled}
use Rattle.level_systems.specs.Recalled.{count_of}
use Rattle.level_systems.specs.Searched.{IsMappingIf}
use Rattle.level_systems.specs.declared.position.Position.{Position}
use Rattle.level_dual.proofs.BlownSets.{mapping_blown, solving_blown}
use Rattle.level_dual.proofs.Excluded.{set_excluded}
use Rattle.level_dual.proofs.FoundLaws.{found_at}
use Rattle.level_systems.proofs.HeldCalls.{re}
use Rattle.level_dual.proofs.PartLaws.{all_natural}
use Rattle.level_systems.proofs.SoundLaws.{filter_distinct}
use Rattle.level_dual.proofs.searching.search_by.Goals as goal

pub mapping_at-requires-clause-distinct : goal.mapping_at-requires-clause-distinct
mapping_at-requires-clause-distinct c =
    let x = c.args.component.now in
    subst (λ (ps : List Position). AreDistinct (map spelled ps)) (sym c.as_slice-in-Ok-Point.ensures.value)
    (subst AreDistinct (sym c.in_ok-at.ensures) (filter_distinct (λ r. list_any (same_position r) (picked_from 1 (map spelled x.positions.items) c.args.set.now)) (map spelled x.order.items) c.requires.sound.distinct))

pub mapping_at-requires-clause-naturals : goal.mapping_at-requires-clause-naturals
mapping_at-requires-clause-naturals c =
    let system = c.in_ok-system.system in
    let point : IsPoint system.width (plain_rows system.list) c.in-Ok-Point.point.t c.in-Ok-Point.point.w =
    subst (Decides system.width (plain_rows system.list)) c.in-Ok-Point.field-0-is c.in-Ok-Point.ensures.decides in
    subst (λ (xs : List ℤ). All (λ x. pos 0 ≤ℤ x) xs) (sym point.w_is) (all_natural point.values)

pub returns-in-Some-clause-some : goal.returns-in-Some-clause-some
returns-in-Some-clause-some c = λ size truth expression comps rows r h.
    let system = c.in_ok-system.system in
    let x = c.args.component.now in
    let p = c.args.p.now in
    let set = c.args.set.now in
    let at = c.as_slice-in-Ok-Point.result.now in
    let point : IsPoint system.width (plain_rows system.list) c.in-Ok-Point.point.t c.in-Ok-Point.point.w =
    subst (Decides system.width (plain_rows system.list)) c.in-Ok-Point.field-0-is c.in-Ok-Point.ensures.decides in
    let is : map spelled at ≡ filter (λ k. list_any (same_position k) (picked_from 1 (map spelled x.positions.items) set)) (map spelled x.order.items) =
    ap (map spelled) c.as_slice-in-Ok-Point.ensures.value ∙ c.in_ok-at.ensures in
    let same : c.as_slice.result.now ≡ at = c.as_slice.ensures.value ∙ sym c.as_slice-in-Ok-Point.ensures.value in
    let width : system.width ≡ length at + (length x.by_clauses.items + count_of x.calls.items) = c.in_ok-system.ensures.width ∙ (λ j. length (same j) + (length x.by_clauses.items + count_of x.calls.items)) in
    let own = re expression p comps rows r in
    let lines : plain_rows system.list ≡ support_rows expression (map spelled at) (map number_of x.by_clauses.items) (map own (live_of x.calls.items)) =
    c.in_ok-system.ensures.rows size truth expression comps rows r h ∙ (λ j. support_rows expression (map spelled (same j)) (map number_of x.by_clauses.items) (map own (live_of x.calls.items))) in
    let found = subst (IsMappingIf p x at c.in-Ok-Point.point.w) c.in-Some.is c.in_ok-mapping-in-Ok-Point.ensures in
    found_at size truth expression p comps rows r x h set at is system.width (plain_rows system.list) width lines c.in-Ok-Point.point.t c.in-Ok-Point.point.w point c.in-Some.mapping found.0 found.1 found.2

pub returns-in-Ok-Point-clause-none : goal.returns-in-Ok-Point-clause-none
returns-in-Ok-Point-clause-none c = λ _ alone size truth expression comps rows r h.
    let system = c.in_ok-system.system in
    let x = c.args.component.now in
    let p = c.args.p.now in
    let set = c.args.set.now in
    let at = c.as_slice-in-Ok-Point.result.now in
    let point : IsPoint system.width (plain_rows system.list) c.in-Ok-Point.point.t c.in-Ok-Point.point.w =
    subst (Decides system.width (plain_rows system.list)) c.in-Ok-Point.field-0-is c.in-Ok-Point.ensures.decides in
    let is : map spelled at ≡ filter (λ k. list_any (same_position k) (picked_from 1 (map spelled x.positions.items) set)) (map spelled x.order.items) =
    ap (map spelled) c.as_slice-in-Ok-Point.ensures.value ∙ c.in_ok-at.ensures in
    let same : c.as_slice.result.now ≡ at = c.as_slice.ensures.value ∙ sym c.as_slice-in-Ok-Point.ensures.value in
    let width : system.width ≡ length at + (length x.by_clauses.items + count_of x.calls.items) = c.in_ok-system.ensures.width ∙ (λ j. length (same j) + (length x.by_clauses.items + count_of x.calls.items)) in
    let own = re expression p comps rows r in
    let lines : plain_rows system.list ≡ support_rows expression (map spelled at) (map number_of x.by_clauses.items) (map own (live_of x.calls.items)) =
    c.in_ok-system.ensures.rows size truth expression comps rows r h ∙ (λ j. support_rows expression (map spelled (same j)) (map number_of x.by_clauses.items) (map own (live_of x.calls.items))) in
    let none = subst (IsMappingIf p x at c.in-Ok-Point.point.w) c.in-None.is c.in_ok-mapping-in-Ok-Point.ensures in
    let found = subst (λ (solved : Solved). Spells (solution system.width (plain_rows system.list)) (Ok solved)) c.in-Ok-Point.field-0-is (c.in-Ok-Point.ensures.exact alone) in
    mapping_blown size truth expression p comps rows r x h set at is system.width (plain_rows system.list) width lines c.in-Ok-Point.point.t c.in-Ok-Point.point.w found point none.0 none.1 none.2

pub returns-in-Ok-Refuted-clause-some : goal.returns-in-Ok-Refuted-clause-some
returns-in-Ok-Refuted-clause-some c = λ size truth expression comps rows r h.
    let system = c.in_ok-system.system in
    let x = c.args.component.now in
    let p = c.args.p.now in
    let set = c.args.set.now in
    let at = c.as_slice.result.now in
    let told = subst (Decides system.width (plain_rows system.list)) c.in-Ok-Refuted.field-0-is c.in-Ok-Refuted.ensures.decides in
    let is : map spelled at ≡ filter (λ k. list_any (same_position k) (picked_from 1 (map spelled x.positions.items) set)) (map spelled x.order.items) = ap (map spelled) c.as_slice.ensures.value ∙ c.in_ok-at.ensures in
    let width : system.width ≡ length (map spelled at) + (length x.by_clauses.items + count_of x.calls.items) =
    c.in_ok-system.ensures.width ∙ (λ j. sym (length-map at spelled) j + (length x.by_clauses.items + count_of x.calls.items)) in
    set_excluded size truth expression p comps rows r x h h.inside set (map spelled at)
    (is ∙ (λ i. filter (λ k. list_any (same_position k) (picked_from 1 (h.positions i) set)) (h.order i))) system.width c.in-Ok-Refuted.field-0-0.list width
    (subst (λ (rs : List (List ℤ)). Refutes system.width rs c.in-Ok-Refuted.field-0-0.list) (c.in_ok-system.ensures.rows size truth expression comps rows r h) told.1)

pub returns-in-Err-Blown-clause-some : goal.returns-in-Err-Blown-clause-some
returns-in-Err-Blown-clause-some c = λ size truth expression comps rows r h.
    let system = c.in_ok-system.system in
    let x = c.args.component.now in
    let p = c.args.p.now in
    let set = c.args.set.now in
    let at = c.as_slice.result.now in
    let is : map spelled at ≡ filter (λ k. list_any (same_position k) (picked_from 1 (map spelled x.positions.items) set)) (map spelled x.order.items) = ap (map spelled) c.as_slice.ensures.value ∙ c.in_ok-at.ensures in
    let blown = subst (λ (fault : ElimFault). IsBlownAs (solution system.width (plain_rows system.list)) (Err fault)) c.in-Err-Blown.field-0-is c.in-Err-Blown.ensures.blown in
    solving_blown size truth expression p comps rows r x h set at is system.width (plain_rows system.list) c.in_ok-system.ensures.width (c.in_ok-system.ensures.rows size truth expression comps rows r h)
    c.in-Err-Blown.field-0-0 c.in-Err-Blown.field-0-1 blown
