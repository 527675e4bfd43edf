use Rattle.std.proofs.Common.{◌≡◌, ◌+◌, ℕ, suc, ℤ, pos, List, IfSome, Ok, length, ap, sym, subst, ◌∙◌}
use Rattle.std.proofs.lemmas.List.{length-map}
use Rattle.fourier.specs.Solves.{Spells, SpellsOrBlown}
use Rattle.linear_rows.specs.Decides.{Decides}
use Rattle.linear_rows.specs.declared.solved.Solved.{Solved}
use Rattle.linear_rows.specs.Plain.{plain_rows}
use Rattle.linear_rows.specs.Rows.{IsPoint}
use Rattle.linear_rows.specs.Showing.{bottom_row}
use Rattle.linear_rows.specs.Solving.{solution}
use Rattle.linear_rows.specs.Solving.Solution.{Found}
use Rattle.simplex.proofs.RowLists.{long_rows}
use Rattle.simplex.proofs.TestLaws.{point_fails}
use Rattle.simplex.proofs.RowLists.{length-zeros}
use Rattle.level_systems.proofs.reaching.point_by_elimination.Goals as goal

pub returns-in-Some-Point : goal.returns-in-Some-Point
returns-in-Some-Point c =
    let n = c.args.rows.now.width in
    let rows = plain_rows c.args.rows.now.list in
    let test = c.in_ok-test.test in
    let w = c.in-Some-Point.point.w in
    let width = c.in_ok-test.ensures.width in
    let lines = c.in_ok-test.ensures.rows in
    let point : IsPoint test.width (plain_rows test.list) c.in-Some-Point.point.t w =
    subst (Decides test.width (plain_rows test.list)) c.in-Some-Point.field-0-is (subst (λ o. IfSome o (Decides test.width (plain_rows test.list))) c.in-Some-Point.is c.in_ok-point.ensures.decides) in
    let told : solution test.width (plain_rows test.list) ≡ Found c.in-Some-Point.point.t w =
    subst (λ (s : Solved). Spells (solution test.width (plain_rows test.list)) (Ok s)) c.in-Some-Point.field-0-is
    (subst (SpellsOrBlown (solution test.width (plain_rows test.list))) c.in-Some-Point.is c.in_ok-point.ensures.spells) in
    let fails = point_fails n rows (bottom_row n) c.in-Some-Point.point.t w (long_rows n c.args.rows.now.list c.requires) (ap suc (length-zeros n))
    (subst (λ (rs : List (List ℤ)). IsPoint (n + 1) rs c.in-Some-Point.point.t w) lines (subst (λ (k : ℕ). IsPoint k (plain_rows test.list) c.in-Some-Point.point.t w) width point)) in
    record {
      long = ap length c.last_first.ensures.w ∙ ap length fails.w_is ∙ length-map fails.values (λ k. pos k) ∙ fails.long;
      exact = (w, (c.in-Some-Point.point.t, sym (λ i. solution (width i) (lines i)) ∙ told), c.last_first.ensures.t, c.last_first.ensures.w);
    }
