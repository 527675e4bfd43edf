use Rattle.std.proofs.Common.{◌≡◌, inl, inr, length, refl, ap, ◌∙◌, arith}
use Rattle.truth_rows.specs.Ends.{ArePlacedOrSame}
use Rattle.truth_rows.proofs.EndLaws.{all_told_more, asked_past}
use Rattle.precond_fixpoint.proofs.BreakingLaws.{breaks_later, ready_for_later}
use Rattle.precond_fixpoint.proofs.breaking.breaking_values.Goals as goal

pub put_body_off-requires-clause-small : goal.put_body_off-requires-clause-small
put_body_off-requires-clause-small g c = λ j b at. (c.requires.grounds_ready.body j b at).small

pub breaking_calls-requires-clause-ready : goal.breaking_calls-requires-clause-ready
breaking_calls-requires-clause-ready g c =
    let r = c.args.rule.now in
    ready_for_later (g.N.Norm.truth c.args.norm.now) c.args.table.now c.place_head.new.table c.place_head.ensures.keeps r.ranks.now r.grounds.now r.pre.now r.allowed.now r.clause.now c.requires

pub breaking_calls-requires-clause-told : goal.breaking_calls-requires-clause-told
breaking_calls-requires-clause-told g c = λ j b at.
    all_told_more (g.N.Norm.truth c.args.norm.now) c.put_body_off.new.ends c.place_head.new.ends j b.args (c.place_head.ensures.more j) (c.put_body_off.ensures.told j b at)

pub returns-clause-all : goal.returns-clause-all
returns-clause-all g c = λ row breaks truths.
    let r = c.args.rule.now in
    c.in_ok-values.ensures.says.all row (
      (breaks_later (g.N.Norm.truth c.args.norm.now) c.args.table.now c.place_head.new.table c.place_head.ensures.keeps r.ranks.now r.grounds.now r.pre.now r.allowed.now r.clause.now c.requires row).1 breaks,
      c.in_ok-placed.ensures.all row truths,
    )

pub returns-clause-some : goal.returns-clause-some
returns-clause-some g c = λ row t.
    let truth = g.N.Norm.truth c.args.norm.now in
    let r = c.args.rule.now in
    let k = r.clause.now in
    let ends = c.place_head.new.ends in
    let s = c.in_ok-values.ensures.says.some row t in
    let long : length ends ≡ 48 = c.place_head.ensures.each ∙ c.put_body_off.ensures.each ∙ refl in
    let placed : ArePlacedOrSame truth s.0 row k.head.args = λ j u at. elim (c.in_ok-placed.ensures.some s.0 s.2.1 j u at) [
      | inl e ↦ inl e
      | inr told ↦ inr (told (length k.body) (omega (arith, ap length c.as_slice.ensures)) s.0 row s.1)
    ] in (
      s.0,
      λ x le. s.1 x (asked_past ends (length k.body) x (omega arith)),
      (breaks_later truth c.args.table.now c.place_head.new.table c.place_head.ensures.keeps r.ranks.now r.grounds.now r.pre.now r.allowed.now k c.requires s.0).0 s.2.0,
      placed,
    )
