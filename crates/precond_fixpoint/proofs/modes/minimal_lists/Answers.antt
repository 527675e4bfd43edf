use Rattle.std.proofs.Common.{◌≡◌, ◌&&◌, ◌++◌, ◌∷◌, [], ℕ, nat_lt, not, true, false, List, length, ap, sym, ◌∙◌}
use Rattle.std.specs.List.{list_any}
use Rattle.precond_fixpoint.proofs.ModeLaws.{filter_kept_at, filter_left_at}
use Rattle.termination_model.specs.grounds.Modes.{is_part}
use Rattle.termination_model.proofs.Lists.{at_place}
use Rattle.precond_fixpoint.proofs.modes.minimal_lists.Goals as goal

pub loop-args-preserved-then-has_less : goal.loop-args-preserved-then-has_less
loop-args-preserved-then-has_less c =
    let lists = c.args.lists.now in
    let n = c.loop-args.args-index in
    let args = c.args-item.result in
    let at = at_place lists n args c.loop-args-test.true c.args-item.is in
    let less : list_any (λ less. nat_lt (length less) (length c.args-item.result) && is_part less c.args-item.result) c.args.lists.now ≡ true =
    ap (λ (xs : List ℕ). list_any (λ less. nat_lt (length less) (length xs) && is_part less xs) lists) (sym c.as_slice.ensures) ∙ sym c.has_less.ensures ∙ c.if-has_less.true in
    c.loop-args.invariant ∙ sym (filter_left_at (λ (xs : List ℕ). not (list_any (λ less. nat_lt (length less) (length xs) && is_part less xs) lists)) lists n args at (ap not less))

pub loop-args-preserved : goal.loop-args-preserved
loop-args-preserved c =
    let lists = c.args.lists.now in
    let n = c.loop-args.args-index in
    let args = c.args-item.result in
    let at = at_place lists n args c.loop-args-test.true c.args-item.is in
    let less : list_any (λ less. nat_lt (length less) (length c.args-item.result) && is_part less c.args-item.result) c.args.lists.now ≡ false =
    ap (λ (xs : List ℕ). list_any (λ less. nat_lt (length less) (length xs) && is_part less xs) lists) (sym c.as_slice.ensures) ∙ sym c.has_less.ensures ∙ c.if-has_less.false in
    c.in_ok-add_mode.ensures
    ∙ (λ i. c.loop-args.invariant i ++ c.as_slice-in-loop-args.ensures i ∷ [])
    ∙ sym (filter_kept_at (λ (xs : List ℕ). not (list_any (λ less. nat_lt (length less) (length xs) && is_part less xs) lists)) lists n args at (ap not less))
