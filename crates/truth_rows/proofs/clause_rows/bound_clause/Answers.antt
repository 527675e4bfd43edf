use Rattle.std.proofs.Common.{◌≡◌, inl, inr, length, refl, ap, ◌∙◌, arith}
use Rattle.truth_rows.specs.Ends.{ArePlacedOrSame}
use Rattle.truth_rows.proofs.ClauseLaws.{atoms_later, ready_clause_later}
use Rattle.truth_rows.proofs.EndLaws.{all_told_more, asked_past}
use Rattle.truth_rows.proofs.clause_rows.bound_clause.Goals as goal

pub put_body_off-requires-clause-small : goal.put_body_off-requires-clause-small
put_body_off-requires-clause-small g c = λ j b at. (c.requires.body j b at).small

pub join_body-requires-clause-clause : goal.join_body-requires-clause-clause
join_body-requires-clause-clause g c = ready_clause_later c.args.table.now c.place_head.new.table c.place_head.ensures.keeps c.args.sets.now c.args.clause.now c.requires

pub join_body-requires-clause-told : goal.join_body-requires-clause-told
join_body-requires-clause-told g c = λ j b at.
    all_told_more (g.N.Norm.truth c.args.norm.now) c.put_body_off.new.ends c.place_head.new.ends j b.args (c.place_head.ensures.more j) (c.put_body_off.ensures.told j b at)

pub returns-clause-all : goal.returns-clause-all
returns-clause-all g c = λ row atoms truths.
    c.in_ok-rows.ensures.says.all row (
      (atoms_later (g.N.Norm.truth c.args.norm.now) c.args.table.now c.place_head.new.table c.place_head.ensures.keeps c.args.sets.now c.args.clause.now c.requires row (length c.args.clause.now.body)).1 atoms,
      c.in_ok-placed.ensures.all row truths,
    )

pub returns-clause-some : goal.returns-clause-some
returns-clause-some g c = λ row t.
    let truth = g.N.Norm.truth c.args.norm.now in
    let k = c.args.clause.now in
    let ends = c.place_head.new.ends in
    let s = c.in_ok-rows.ensures.says.some row t in
    let long : length ends ≡ 48 = c.place_head.ensures.each ∙ c.put_body_off.ensures.each ∙ refl in
    let placed : ArePlacedOrSame truth s.0 row k.head.args = λ j u at. elim (c.in_ok-placed.ensures.some s.0 s.2.1 j u at) [
      | inl e ↦ inl e
      | inr told ↦ inr (told (length k.body) (omega (arith, ap length c.as_slice.ensures)) s.0 row s.1)
    ] in (
      s.0,
      λ x le. s.1 x (asked_past ends (length k.body) x (omega arith)),
      (atoms_later truth c.args.table.now c.place_head.new.table c.place_head.ensures.keeps c.args.sets.now k c.requires s.0 (length k.body)).0 s.2.0,
      placed,
    )
