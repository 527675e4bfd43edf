use Rattle.std.proofs.Common.{rules, ◌≡◌, ℕ, ◌∷◌, ◌++◌, ◌<◌, length, arith, ◌∙◌, subst, ap, OnOk, true, false, get_or, []}
use Rattle.std.specs.Int.{w128}
use Rattle.std.specs.Prelude.{FitsSigned, int_le}
use Rattle.std.proofs.lemmas.Int.{to_z-of_z}
use Rattle.exact128.specs.Sums.{entry}
use Rattle.linear_rows.specs.Cleaning.{agree}
use Rattle.sparse_rows.proofs.Adds.{insert_keeps, insert_replaces, insert_appends}
use Rattle.sparse_rows.proofs.cleaning.insert.Goals as goal
use Rattle.sparse_rows.proofs.cleaning.insert.Goals.{then-place-len+else-at_most, else-place-len}

pub returns-then-at_most : goal.returns-then-at_most
returns-then-at_most c =
    let f : FitsSigned w128 c.entry.result = search rules in
    let g : FitsSigned w128 c.entry-then-place-len.result = search rules in
    let e = simp to_z-of_z at c.at_most.ensures in
    let lt : c.place_of-place.result < length c.args.kept.now = omega arith in
    let le : int_le (entry (get_or c.args.kept.now c.place_of-place.result []) 0) (entry c.args.row 0) ≡ true = cc (e, ap (λ r. entry r 0) c.get.ensures) in
    insert_keeps c.args.last c.args.kept.now c.args.row c.place_of-place.result lt c.place_of-place.ensures.before (c.place_of-place.ensures.here lt) le

pub returns : goal.returns
returns c = elim c.if-place-len.branch [
  | then-place-len+else-at_most w ↦
      let f : FitsSigned w128 w.entry.result = search rules in
      let g : FitsSigned w128 w.entry-then-place-len.result = search rules in
      let e = simp to_z-of_z at w.at_most.ensures in
      let lt : c.place_of-place.result < length c.args.kept.now = omega arith in
      let le : int_le (entry (get_or c.args.kept.now c.place_of-place.result []) 0) (entry c.args.row 0) ≡ false = cc (e, ap (λ r. entry r 0) w.get.ensures) in
      let is = insert_replaces c.args.last c.args.kept.now c.args.row c.place_of-place.result lt c.place_of-place.ensures.before (c.place_of-place.ensures.here lt) le in
      let pushed = subst (λ k. OnOk c.push.result (c.push.new.self ≡ k ++ c.args.row ∷ [])) (w.kept-is ∙ w.remove.ensures) c.push.ensures in
      subst (λ l. OnOk c.push.result (c.push.new.self ≡ l)) is pushed
  | else-place-len w ↦
      let n : c.place_of-place.result ≡ length c.args.kept.now = let p = c.place_of-place.ensures.within in omega arith in
      let before : (j : ℕ) → j < length c.args.kept.now → agree c.args.last (get_or c.args.kept.now j []) c.args.row ≡ false = λ j l. c.place_of-place.ensures.before j (omega arith) in
      subst (λ l. OnOk c.push.result (c.push.new.self ≡ l)) (insert_appends c.args.last c.args.kept.now c.args.row before) (subst (λ k. OnOk c.push.result (c.push.new.self ≡ k ++ c.args.row ∷ [])) w.kept-is c.push.ensures)
]
