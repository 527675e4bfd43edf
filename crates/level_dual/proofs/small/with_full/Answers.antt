use Rattle.std.proofs.Common.{rules, ◌≡◌, sym, subst, ◌∙◌, true, false}
use Rattle.std.specs.List.{list_any}
use Rattle.termination_model.specs.grounds.Modes.{is_part}
use Rattle.level_dual.specs.Walked.{IsCompleted}
use Rattle.level_dual.proofs.FoundCases.{as_given_up, below_there, pushed_full}
use Rattle.level_dual.proofs.small.with_full.Goals as goal

pub returns-then-is_below : goal.returns-then-is_below
returns-then-is_below c =
    let below : list_any (λ t. is_part c.args.full t) c.args.blown ≡ true =
    (λ j. list_any (λ t. is_part (sym c.as_slice-2.ensures j) t) (sym c.as_slice.ensures j)) ∙ sym c.is_below.ensures ∙ c.if-is_below.true in
    as_given_up c.args.given_up c.args.none c.args.full c.args.blown (λ g n. below_there c.args.full c.args.blown below)

pub returns : goal.returns
returns c =
    let below : list_any (λ t. is_part c.args.full t) c.args.blown ≡ false =
    (λ j. list_any (λ t. is_part (sym c.as_slice-2.ensures j) t) (sym c.as_slice.ensures j)) ∙ sym c.is_below.ensures ∙ c.if-is_below.false in
    subst (IsCompleted c.args.given_up c.args.none c.args.full c.args.blown) (sym c.in_ok-push.ensures.ok) (pushed_full c.args.given_up c.args.none c.args.full c.args.blown (search rules) (search rules) below)
