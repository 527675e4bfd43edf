use Rattle.std.proofs.Common.{rules, ◌≡◌, ℕ, length, sym, subst, ◌∙◌}
use Rattle.std.proofs.lemmas.List.{length-map}
use Rattle.linear_rows.specs.Plain.{plain_row, plain_rows, HaveWidth}
use Rattle.polyhedra.specs.Making.{arity_of}
use Rattle.redundant_rows.specs.Projecting.{IsProjected, IsCut, left_of}
use Rattle.polyhedra.proofs.Cores.{part_spoken, fit_of_spoken, image_of_cut, said_image}
use Rattle.polyhedra.proofs.imaging.image_about.Goals as goal

pub invariant_of-strong : goal.invariant_of-strong
invariant_of-strong c =
    let n = c.in-Ok.arity in
    let r = c.in-Some-2.rows in
    let cut : IsCut n c.args.system.now.variables (plain_rows c.in_ok-rows.rows.list) r = subst (IsProjected n c.args.system.now.variables (plain_rows c.in_ok-rows.rows.list)) c.in-Some-2.is c.in_ok-rows-2.ensures in
    record {
      widths = subst (λ (m : ℕ). HaveWidth m r.list) (sym cut.width) cut.widths;
      fit = fit_of_spoken n r.list (part_spoken n (left_of n c.args.system.now.variables (plain_rows c.in_ok-rows.rows.list)) (plain_rows r.list) cut.core.part cut.spoken);
    }

pub returns-in-Some-2-clause-rows : goal.returns-in-Some-2-clause-rows
returns-in-Some-2-clause-rows c =
    let n = c.in-Ok.arity in
    let r = c.in-Some-2.rows in
    let cut : IsCut n c.args.system.now.variables (plain_rows c.in_ok-rows.rows.list) r = subst (IsProjected n c.args.system.now.variables (plain_rows c.in_ok-rows.rows.list)) c.in-Some-2.is c.in_ok-rows-2.ensures in
    let s = c.args.system.now in
    let count : n ≡ length s.head.list = search rules in
    let arity : n ≡ arity_of s = count ∙ sym (length-map s.head.list plain_row) in
    said_image s c.strong.result.value.rows r c.strong.result.weak c.strong.ensures.rows c.strong.ensures.weak
    (image_of_cut s c.requires.head c.if-system.false n s.variables arity (λ _. s.variables) (plain_rows c.in_ok-rows.rows.list) c.in_ok-rows.ensures.rows r cut)
