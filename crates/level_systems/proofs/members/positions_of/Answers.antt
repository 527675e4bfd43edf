use Rattle.std.proofs.Common.{◌≡◌, ◌<◌, ◌+◌, ◌++◌, ℕ, List, drop, get_or, length, map, slice_get, Some, ap, sym, ◌∙◌}
use Rattle.call_components.specs.Numbers.{number_of}
use Rattle.cti_terms.specs.declared.predicates.PredId.{PredId}
use Rattle.termination_model.specs.mappings.OwnCalls.{Position as Place}
use Rattle.termination_model.specs.mappings.Ready.{arity_in, positions_by}
use Rattle.termination_model.proofs.Lists.{append_assoc, by_places, mapped_place, there}
use Rattle.level_systems.specs.Held.{spelled}
use Rattle.level_systems.specs.Ordered.{arguments_from}
use Rattle.level_systems.proofs.MemberLists.{arguments_are}
use Rattle.level_systems.proofs.PairLists.{drop_at}
use Rattle.level_systems.proofs.members.positions_of.Goals as goal

pub add_positions-requires : goal.add_positions-requires
add_positions-requires c =
    let members = c.args.members.now in
    let i = c.loop-member.member-index in
    let x : PredId = get_or members i (record { 0 = 0 }) in
    let at : slice_get members i ≡ Some x = there members i (record { 0 = 0 }) c.loop-member-test.true in
    by_places (λ (q : ℕ). q < length c.args.p.now.preds) (map number_of members) c.requires i x.0 (mapped_place number_of members i x at)

pub loop-member-preserved : goal.loop-member-preserved
loop-member-preserved c =
    let members = c.args.members.now in
    let i = c.loop-member.member-index in
    let x : PredId = get_or members i (record { 0 = 0 }) in
    let at : slice_get members i ≡ Some x = there members i (record { 0 = 0 }) c.loop-member-test.true in
    let arity = arity_in c.args.p.now in
    let rest = positions_by arity (map number_of (drop (i + 1) members)) in
    let before = map spelled c.loop-member.positions.items in
    ap (λ (s : List Place). s ++ rest) c.in_ok-add_positions.ensures
    ∙ append_assoc before (arguments_from x.0 0 (arity x.0)) rest
    ∙ ap (λ (s : List Place). before ++ (s ++ rest)) (arguments_are x.0 0 (arity x.0))
    ∙ sym (ap (λ (ms : List PredId). before ++ positions_by arity (map number_of ms)) (drop_at members i x at))
    ∙ c.loop-member.invariant
