use Rattle.std.proofs.Common.{◌≡◌, ℤ, List, All, length, sym, subst, ◌∙◌}
use Rattle.termination_model.specs.sizes.Replacing.{IsRowIfFits, over_columns}
use Rattle.number_tests.specs.Targets.{fall_weights}
use Rattle.cert_checker.proofs.fall_faults.mapping_flaw.Goals as goal

pub weigh_drop-requires-clause-coefficients : goal.weigh_drop-requires-clause-coefficients
weigh_drop-requires-clause-coefficients c = c.requires.weighed.naturals

pub replaced-requires-clause-lengths : goal.replaced-requires-clause-lengths
replaced-requires-clause-lengths c =
    subst (λ (ws : List ℤ). All (λ x. length x ≡ length ws) c.args.columns.now) (sym (c.as_slice.ensures.value ∙ c.in_ok-weights.ensures)) c.requires.weighed.long

pub returns-clause-shown : goal.returns-clause-shown
returns-clause-shown c =
    let target = over_columns c.args.columns.now (fall_weights c.args.head.now c.args.call.now) in
    c.multipliers_flaw.ensures.shows target (subst (λ (ws : List ℤ). IsRowIfFits (over_columns c.args.columns.now ws) c.in_ok-target.target) (c.as_slice.ensures.value ∙ c.in_ok-weights.ensures) c.in_ok-target.ensures)

pub returns-clause-fails : goal.returns-clause-fails
returns-clause-fails c =
    let target = over_columns c.args.columns.now (fall_weights c.args.head.now c.args.call.now) in
    c.multipliers_flaw.ensures.fails target (subst (λ (ws : List ℤ). IsRowIfFits (over_columns c.args.columns.now ws) c.in_ok-target.target) (c.as_slice.ensures.value ∙ c.in_ok-weights.ensures) c.in_ok-target.ensures)
