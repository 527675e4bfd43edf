use Rattle.std.proofs.Common.{◌≡◌, ◌↔◌, ◌≤◌, ◌<◌, ℤ, Bool, IsTrue, List, length, map, ap, sym, subst, ◌∙◌, arith}
use Rattle.bool_diagrams.specs.Cubes.{truth_rows}
use Rattle.bool_diagrams.specs.Rows.{ReadsBelow}
use Rattle.cti_terms.specs.declared.predicates.Pred.{Pred}
use Rattle.number_tests.specs.Levels.{natural}
use Rattle.precond_fixpoint.proofs.FamilyLaws.{family_elsewhere}
use Rattle.precond_fixpoint.proofs.PlaceLaws.{items_at, some_at}
use Rattle.precond_fixpoint.proofs.StartLaws.{cover_own, cover_sets, part_at}
use Rattle.termination_model.proofs.Lists.{at_place, by_places}
use Rattle.termination_model.specs.sizes.Rows.{Covers}
use Rattle.precond_fixpoint.proofs.covering.cover_member.Goals as goal

pub covering_rows-requires : goal.covering_rows-requires
covering_rows-requires c =
    let preds = c.args.p.now.preds in
    let levels = c.args.levels.now in
    let q = c.args.member.0 in
    let m = c.args.m in
    let own = at_place levels q c.index-levels-place.result (omega (arith, c.requires.levels.each, c.requires.there)) c.index-levels-place.is in
    let parts = c.as_slice.result.now in
    let part = c.index-as_slice-m.result in
    let lt : m < length parts = omega (arith, ap length (c.as_slice.ensures ∙ sym (items_at levels q c.index-levels-place.result own)), c.requires.mapping) in
    let is = part_at levels m q c.index-levels-place.result own parts c.as_slice.ensures part (at_place parts m part lt c.index-as_slice-m.is) in
    let x = some_at preds q c.requires.there in
    let wide = c.requires.levels.wide q m x.0 part x.1 is in
    let few : x.0.arity ≤ 12 = by_places (λ (y : Pred). y.arity ≤ 12) preds c.requires.program.arities q x.0 x.1 in
    record { narrow = omega (arith, wide, few, ap length c.as_slice-2.ensures) }

pub returns-clause-sets : goal.returns-clause-sets
returns-clause-sets c =
    let preds = c.args.p.now.preds in
    let levels = c.args.levels.now in
    let q = c.args.member.0 in
    let m = c.args.m in
    let own = at_place levels q c.index-levels-place.result (omega (arith, c.requires.levels.each, c.requires.there)) c.index-levels-place.is in
    let parts = c.as_slice.result.now in
    let part = c.index-as_slice-m.result in
    let lt : m < length parts = omega (arith, ap length (c.as_slice.ensures ∙ sym (items_at levels q c.index-levels-place.result own)), c.requires.mapping) in
    let is = part_at levels m q c.index-levels-place.result own parts c.as_slice.ensures part (at_place parts m part lt c.index-as_slice-m.is) in
    let x = some_at preds q c.requires.there in
    let wide = c.requires.levels.wide q m x.0 part x.1 is in
    cover_sets preds c.args.table.now c.covering_rows.new.table c.covering_rows.ensures.keeps c.args.sets.now c.requires.sets levels m q x.0 x.1 part is wide c.in_ok-set.set c.in_ok-set.ensures.known
    (subst (λ (ns : List ℤ). ReadsBelow c.covering_rows.new.table c.in_ok-set.set (length ns)) c.as_slice-2.ensures c.in_ok-set.ensures.reads)

pub returns-clause-own : goal.returns-clause-own
returns-clause-own c =
    let preds = c.args.p.now.preds in
    let levels = c.args.levels.now in
    let q = c.args.member.0 in
    let m = c.args.m in
    let own = at_place levels q c.index-levels-place.result (omega (arith, c.requires.levels.each, c.requires.there)) c.index-levels-place.is in
    let parts = c.as_slice.result.now in
    let part = c.index-as_slice-m.result in
    let lt : m < length parts = omega (arith, ap length (c.as_slice.ensures ∙ sym (items_at levels q c.index-levels-place.result own)), c.requires.mapping) in
    let is = part_at levels m q c.index-levels-place.result own parts c.as_slice.ensures part (at_place parts m part lt c.index-as_slice-m.is) in
    let x = some_at preds q c.requires.there in
    let wide = c.requires.levels.wide q m x.0 part x.1 is in
    cover_own preds c.args.table.now c.covering_rows.new.table c.covering_rows.ensures.keeps c.args.sets.now c.requires.sets levels m q x.0 x.1 part is wide c.in_ok-set.set c.in_ok-set.ensures.known
    (subst (λ (ns : List ℤ). ReadsBelow c.covering_rows.new.table c.in_ok-set.set (length ns)) c.as_slice-2.ensures c.in_ok-set.ensures.reads)
    (subst (λ (ns : List ℤ). (row : List Bool) → length row ≡ length ns → IsTrue (truth_rows c.covering_rows.new.table c.in_ok-set.set row) ↔ Covers (map natural ns) row) c.as_slice-2.ensures c.in_ok-set.ensures.covering)

pub returns-clause-others : goal.returns-clause-others
returns-clause-others c = family_elsewhere c.args.table.now c.covering_rows.new.table c.covering_rows.ensures.keeps c.args.p.now.preds c.args.sets.now c.requires.sets.known c.args.member.0 c.in_ok-set.set
