use Rattle.std.proofs.Common.{rules, ◌≡◌, ◌<◌, ◌≤◌, length, true, false, arith, Bool, get_or, [], sym, ap, ◌∙◌, refl}
use Rattle.std.specs.Int.{w128}
use Rattle.std.specs.Prelude.{FitsSigned, ◌&&◌}
use Rattle.std.specs.List.{list_any}
use Rattle.std.proofs.lemmas.Int.{to_z-of_z}
use Rattle.exact128.specs.Sums.{entry}
use Rattle.linear_rows.specs.Elimination.{is_positive}
use Rattle.linear_rows.specs.Equation.{negates, place_of}
use Rattle.fourier.proofs.Finds.{equation_later, equation_here, equation_over, any_from_place, none_from_place}
use Rattle.fourier.proofs.equations.equation.Goals as goal
use Rattle.fourier.proofs.equations.equation.Goals.{then-is_positive+else-j-len, else-is_positive}

pub loop-i-init : goal.loop-i-init
loop-i-init c = refl

pub loop-i-preserved : goal.loop-i-preserved
loop-i-preserved c =
    let f : FitsSigned w128 c.entry.result = search rules in
    let e = (simp to_z-of_z at c.is_positive.ensures) ∙ ap is_positive (ap (λ z. z) c.entry.ensures) in
    let lt : c.loop-i.i < length c.args.rows.now = omega arith in
    elim c.if-is_positive.branch [
      | then-is_positive+else-j-len w ↦
          let row = get_or c.args.rows.now c.loop-i.i [] in
          let over : length c.args.rows.now ≤ place_of (λ s. negates c.args.many row s) c.args.rows.now = omega (arith, w.negation_of-j.ensures) in
          let none : list_any (λ s. negates c.args.many row s) c.args.rows.now ≡ false = none_from_place (λ s. negates c.args.many row s) c.args.rows.now over in
          equation_later c.args.many c.args.k c.loop-i.i c.args.rows.now row lt refl (and_right (is_positive (entry row c.args.k)) (list_any (λ s. negates c.args.many row s) c.args.rows.now) none) ∙ c.loop-i.invariant
      | else-is_positive w ↦
          let t : is_positive (entry c.get.result.now c.args.k) ≡ false = cc (e, w.if-is_positive.false) in
          equation_later c.args.many c.args.k c.loop-i.i c.args.rows.now c.get.result.now lt c.get.ensures (and_left (is_positive (entry c.get.result.now c.args.k)) (list_any (λ s. negates c.args.many c.get.result.now s) c.args.rows.now) t) ∙ c.loop-i.invariant
    ]
  where
    and_left : (a b : Bool) → a ≡ false → (a && b) ≡ false
    and_left a b e = rw e refl

    and_right : (a b : Bool) → b ≡ false → (a && b) ≡ false
    and_right true b e = e
    and_right false b e = refl

pub returns-then-j-len : goal.returns-then-j-len
returns-then-j-len c =
    let f : FitsSigned w128 c.entry.result = search rules in
    let row = get_or c.args.rows.now c.loop-i.i [] in
    let e = (simp to_z-of_z at c.is_positive.ensures) ∙ ap is_positive (c.entry.ensures ∙ ap (λ r. entry r c.args.k) c.get.ensures) in
    let lt : c.loop-i.i < length c.args.rows.now = omega arith in
    let t : is_positive (entry row c.args.k) ≡ true = cc (e, c.if-is_positive.true) in
    let within : place_of (λ s. negates c.args.many row s) c.args.rows.now < length c.args.rows.now = omega (arith, c.negation_of-j.ensures) in
    let any : list_any (λ s. negates c.args.many row s) c.args.rows.now ≡ true = any_from_place (λ s. negates c.args.many row s) c.args.rows.now within in
    sym (equation_here c.args.many c.args.k c.loop-i.i c.negation_of-j.result c.args.rows.now row lt refl t any c.negation_of-j.ensures) ∙ c.loop-i.invariant

pub returns : goal.returns
returns c = sym (equation_over c.args.many c.args.k c.loop-i.i c.args.rows.now (omega arith)) ∙ c.loop-i.invariant
