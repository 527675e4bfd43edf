use Rattle.std.proofs.Common.{◌≡◌, ◌↔◌, ◌&&◌, ℕ, Bool, true, IsTrue, sym, subst, ◌∙◌, arith}
use Rattle.bool_diagrams.specs.Rows.{holds}
use Rattle.bool_diagrams.specs.Tree.{with_value}
use Rattle.bool_diagrams.proofs.CallerLemmas.{keeps_twice}
use Rattle.truth_rows.proofs.RowLaws.{with_agree}
use Rattle.truth_rows.proofs.UpperLaws.{IsRaised, raised_more, upper_is}
use Rattle.truth_rows.proofs.upper.upper_rows.Goals as goal

pub loop-argument-preserved : goal.loop-argument-preserved
loop-argument-preserved c =
    let i = c.loop-argument.invariant in
    let n = c.loop-argument.argument in
    let e = c.in_ok-rows.ensures.rows in
    record {
      keeps = keeps_twice _ _ _ i.keeps c.raised_rows.ensures.keeps;
      known = c.in_ok-rows.ensures.known;
      reads = λ row other agree.
          e row
          ∙ (λ k. i.reads row other agree k && i.reads (with_value row n true) (with_value other n true) (λ v lt. with_agree row other n true v (agree v lt)) k)
          ∙ sym (e other);
      rows = λ row.
          let s = raised_more (holds c.args.table.now c.args.set) (holds c.loop-argument.table c.loop-argument.rows) n i.rows row in (
            λ t. s.0 (sym (e row) ∙ t),
            λ x. e row ∙ s.1 x,
          );
    }

pub returns-clause-rows : goal.returns-clause-rows
returns-clause-rows c =
    let i = c.loop-argument.invariant in
    let now = holds c.loop-argument.table c.loop-argument.rows in
    let set = holds c.args.table.now c.args.set in
    let same : c.loop-argument.argument ≡ c.args.width = omega (arith, c.loop-argument-test.false, c.loop-argument.auto.argument-end) in
    let rows = subst (λ (n : ℕ). (row : ℕ → Bool) → IsTrue (holds c.loop-argument.table c.loop-argument.rows row) ↔ ((other : ℕ → Bool) → IsRaised n row other → IsTrue (holds c.args.table.now c.args.set other))) same i.rows in
    λ row long. upper_is set now c.args.width c.requires.reads rows row long
