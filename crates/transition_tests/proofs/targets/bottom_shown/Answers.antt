use Rattle.std.proofs.Common.{rules, ◌≡◌, ◌↔◌, pos, length, None, ap, sym, subst, arith}
use Rattle.std.proofs.lemmas.List.{length-map}
use Rattle.linear_rows.specs.Plain.{plain_row, plain_rows}
use Rattle.linear_rows.specs.Showing.{AreMultipliers, IsShown, bottom_row}
use Rattle.transition_tests.proofs.TargetLaws.{bottom_fits, is_none_of, length_zeros, none_is}
use Rattle.transition_tests.proofs.targets.bottom_shown.Goals as goal

pub multipliers_flaw-requires-clause-target : goal.multipliers_flaw-requires-clause-target
multipliers_flaw-requires-clause-target c =
    let same = ap length c.in_ok-bottom.ensures in
    omega (arith, same, length_zeros c.args.rows.now.width)

pub returns : goal.returns
returns c =
    let rows = c.args.rows.now in
    let by = c.args.by.now in
    let flaw = c.multipliers_flaw.result in
    let shows : (flaw ≡ None) ↔ IsShown (plain_rows rows.list) (bottom_row rows.width) by = c.multipliers_flaw.ensures.shows (bottom_row rows.width) (c.in_ok-bottom.ensures, bottom_fits rows.width) in
    let scale : by.scale ≡ pos 0 = search rules in (
      λ yes. (record { multipliers = subst (λ k. AreMultipliers k by) (sym (length-map rows.list plain_row)) c.requires.multipliers; shown = shows.0 (is_none_of flaw c.is_none.result c.is_none.ensures yes) }, scale),
      λ h. none_is flaw c.is_none.result c.is_none.ensures (shows.1 h.0.shown),
    )
