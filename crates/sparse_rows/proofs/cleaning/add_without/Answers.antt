use Rattle.std.proofs.Common.{rules, ◌≡◌, ◌<◌, length, true, false, arith, refl, ap, ◌∙◌, get_or, []}
use Rattle.std.specs.Int.{w128}
use Rattle.std.specs.Prelude.{FitsSigned}
use Rattle.std.proofs.lemmas.Int.{to_z-of_z}
use Rattle.exact128.specs.Sums.{entry}
use Rattle.linear_rows.specs.Elimination.{is_zero}
use Rattle.sparse_rows.proofs.Added.{added_yes, added_no, added_all}
use Rattle.sparse_rows.proofs.cleaning.add_without.Goals as goal
use Rattle.sparse_rows.proofs.cleaning.add_without.Goals.{then-is_zero+in_ok-row+in_ok-add, else-is_zero}

pub loop-i-init : goal.loop-i-init
loop-i-init c = refl

pub loop-i-preserved : goal.loop-i-preserved
loop-i-preserved c =
    let f : FitsSigned w128 c.entry.result = search rules in
    let e = (simp to_z-of_z at c.is_zero.ensures) ∙ ap is_zero (c.entry.ensures ∙ ap (λ r. entry r c.args.k) c.get.ensures) in
    let lt : c.loop-i.i < length c.args.rows.now = omega arith in
    elim c.if-is_zero.branch [
      | then-is_zero+in_ok-row+in_ok-add w ↦
          let t : is_zero (entry (get_or c.args.rows.now c.loop-i.i []) c.args.k) ≡ true = cc (e, w.if-is_zero.true) in
          added_yes c.args.last (λ r. is_zero (entry r c.args.k)) c.args.kept.now c.loop-i.kept c.if-is_zero.kept c.args.rows.now c.loop-i.i w.in_ok-row.row lt c.loop-i.invariant t (w.in_ok-row.ensures ∙ w.get-then-is_zero.ensures) (w.kept-is ∙ w.in_ok-add.ensures)
      | else-is_zero w ↦
          let t : is_zero (entry (get_or c.args.rows.now c.loop-i.i []) c.args.k) ≡ false = cc (e, w.if-is_zero.false) in
          w.kept-is ∙ added_no c.args.last (λ r. is_zero (entry r c.args.k)) c.args.kept.now c.loop-i.kept c.args.rows.now c.loop-i.i lt c.loop-i.invariant t
    ]

pub returns : goal.returns
returns c = added_all c.args.last (λ r. is_zero (entry r c.args.k)) c.args.kept.now c.loop-i.kept c.args.rows.now c.loop-i.i (omega arith) c.loop-i.invariant
