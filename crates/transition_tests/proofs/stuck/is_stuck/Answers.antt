use Rattle.std.proofs.Common.{◌≡◌, ◌∙◌, ◌≤◌, ◌==◌, false, map, length, refl, sym, arith, eqb-true}
use Rattle.std.proofs.lemmas.Bool.Decides.{nat_tests}
use Rattle.number_turns.specs.Recalled.{recalled_of, spelled}
use Rattle.number_turns.specs.declared.feature.Feature.{Feature}
use Rattle.termination_model.proofs.Lists.{there}
use Rattle.transition_tests.specs.StuckGroups.{IsStuckSet}
use Rattle.transition_tests.specs.Testing.{AreBalanced}
use Rattle.transition_tests.proofs.Places.{up_all, up_next}
use Rattle.transition_tests.proofs.StuckLaws.{at_features, in_features, of_stuck_balanced, of_stuck_hold, of_stuck_some, to_stuck}
use Rattle.transition_tests.proofs.stuck.is_stuck.Goals as goal

pub returns-then-is_empty : goal.returns-then-is_empty
returns-then-is_empty c = (
  λ h. cc,
  λ (h : IsStuckSet (map spelled c.args.features.now) (recalled_of c.args.transitions.now) c.args.groups.now).
      let some = of_stuck_some (recalled_of c.args.transitions.now) c.args.groups.now c.requires.groups (map spelled c.args.features.now) h in
      let none = eqb-true (length c.args.groups.now) 0 (sym c.is_empty.ensures ∙ c.if-is_empty.true) in
      absurd (omega (arith, some, none)),
)

pub returns-then-not-groups_hold : goal.returns-then-not-groups_hold
returns-then-not-groups_hold c = (
  λ h. cc,
  λ (h : IsStuckSet (map spelled c.args.features.now) (recalled_of c.args.transitions.now) c.args.groups.now).
      sym c.if-not-groups_hold.true ∙ c.groups_hold.ensures.1 (of_stuck_hold (recalled_of c.args.transitions.now) c.args.groups.now c.requires.groups (map spelled c.args.features.now) h),
)

pub loop-feature-init : goal.loop-feature-init
loop-feature-init c = λ k lt. absurd (omega (arith, lt))

pub returns-then-not-are_balanced : goal.returns-then-not-are_balanced
returns-then-not-are_balanced c = (
  λ h. cc,
  λ (h : IsStuckSet (map spelled c.args.features.now) (recalled_of c.args.transitions.now) c.args.groups.now).
      sym c.if-not-are_balanced.true
      ∙ c.are_balanced.ensures.1 (of_stuck_balanced (recalled_of c.args.transitions.now) c.args.groups.now c.requires.groups (map spelled c.args.features.now) h _
      (in_features c.args.features.now c.loop-feature.feature-index _ (there c.args.features.now c.loop-feature.feature-index _ c.loop-feature-test.true))),
)

pub loop-feature-preserved : goal.loop-feature-preserved
loop-feature-preserved c =
    up_next (λ _ (f : Feature). AreBalanced (recalled_of c.args.transitions.now) c.args.groups.now (spelled f)) c.args.features.now c.loop-feature.feature-index _ c.loop-feature.invariant
    (there c.args.features.now c.loop-feature.feature-index _ c.loop-feature-test.true) (c.are_balanced.ensures.0 c.if-not-are_balanced.false)

pub returns : goal.returns
returns c =
    let τs = recalled_of c.args.transitions.now in
    let gs = c.args.groups.now in
    let features = c.args.features.now in
    let empty : (length gs == 0) ≡ false = sym c.is_empty.ensures ∙ c.if-is_empty.false in
    let some : 1 ≤ length gs = grind (arith, nat_tests) in (
      λ _. to_stuck τs gs c.requires.groups (map spelled features) some (c.groups_hold.ensures.0 c.if-not-groups_hold.false)
          (at_features τs gs features (up_all (λ _ (f : Feature). AreBalanced τs gs (spelled f)) features c.loop-feature.feature-index c.loop-feature.invariant c.loop-feature-test.false)),
      λ _. refl,
    )
