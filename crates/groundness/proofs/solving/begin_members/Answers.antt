use Rattle.std.proofs.Common.{◌≡◌, ◌<◌, ◌+◌, ℕ, length, get_or, slice_set, ap, subst, sym, arith, ◌∙◌}
use Rattle.bool_diagrams.specs.declared.diagram.Diagram.{Diagram}
use Rattle.cti_terms.specs.declared.predicates.PredId.{PredId}
use Rattle.termination_model.proofs.Lists.{there}
use Rattle.groundness.specs.Sets.{set_as}
use Rattle.groundness.proofs.StartLaws.{AreBegunTo, begun_all, begun_next, member_there}
use Rattle.groundness.proofs.solving.begin_members.Goals as goal

pub builtin-requires : goal.builtin-requires
builtin-requires c =
    let members = c.members-member-items.result.now in
    let n = c.loop-member.member-index in
    member_there c.args.p.now c.args.comps.now c.requires.components c.args.c members c.members-member-items.ensures n (get_or members n (record { 0 = 0 })) (there members n (record { 0 = 0 }) c.loop-member-test.true)

pub bounds-sets-member : goal.bounds-sets-member
bounds-sets-member c =
    let members = c.members-member-items.result.now in
    let n = c.loop-member.member-index in
    let lt = member_there c.args.p.now c.args.comps.now c.requires.components c.args.c members c.members-member-items.ensures n (get_or members n (record { 0 = 0 })) (there members n (record { 0 = 0 }) c.loop-member-test.true) in
    omega (arith, lt, c.loop-member.auto.sets, c.requires.each)

pub loop-member-preserved : goal.loop-member-preserved
loop-member-preserved c =
    let p = c.args.p.now in
    let members = c.members-member-items.result.now in
    let n = c.loop-member.member-index in
    let a : PredId = get_or members n (record { 0 = 0 }) in
    let at = there members n (record { 0 = 0 }) c.loop-member-test.true in
    let lt : a.0 < length c.loop-member.sets = omega (arith, member_there p c.args.comps.now c.requires.components c.args.c members c.members-member-items.ensures n a at, c.loop-member.auto.sets, c.requires.each) in
    let is : c.first_set.result ≡ set_as c.args.none c.args.both _ = c.first_set.ensures ∙ ap (set_as c.args.none c.args.both) c.builtin.ensures in
    subst (λ (d : Diagram). AreBegunTo p.arithmetic c.args.none c.args.both members c.args.sets.now (n + 1) (slice_set c.loop-member.sets a.0 d)) (sym is)
    (begun_next p.arithmetic c.args.none c.args.both members c.args.sets.now n c.loop-member.sets a at lt c.loop-member.invariant)

pub returns : goal.returns
returns c =
    let members = c.members-member-items.result.now in
    let end : c.loop-member.member-index ≡ length members = omega (arith, c.loop-member-test.false, c.loop-member.auto.member-index-end) in
    begun_all c.args.p.now c.args.comps.now c.requires.components c.args.c members c.members-member-items.ensures c.args.none c.args.both c.args.sets.now c.loop-member.sets
    (subst (λ (n : ℕ). AreBegunTo c.args.p.now.arithmetic c.args.none c.args.both members c.args.sets.now n c.loop-member.sets) end c.loop-member.invariant)
