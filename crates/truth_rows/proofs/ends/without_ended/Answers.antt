use Rattle.std.proofs.Common.{ℕ, Bool, IsTrue, arith}
use Rattle.bool_diagrams.specs.Rows.{holds}
use Rattle.bool_diagrams.proofs.CallerLemmas.{keeps_twice}
use Rattle.truth_rows.proofs.EndLaws.{says_without}
use Rattle.termination_model.proofs.Lists.{there}
use Rattle.truth_rows.proofs.ends.without_ended.Goals as goal

pub loop-x-preserved : goal.loop-x-preserved
loop-x-preserved c =
    let i = c.loop-x.invariant in
    let ends = c.args.ends.now in
    let x = c.loop-x.x in
    let at = there ends x 0 (omega (arith, c.loop-x-test.true, c.requires.few, c.requires.each)) in
    record {
      keeps = keeps_twice _ _ _ i.keeps c.exists.ensures.keeps;
      known = c.in_ok-rows.ensures.known;
      rows = says_without ends c.args.place x (λ (v : ℕ → Bool). IsTrue (holds c.args.table.now c.args.set v)) (holds c.loop-x.table c.loop-x.rows) (holds c.exists.new.self c.in_ok-rows.rows)
          (λ asked. absurd (omega (arith, asked _ at, c.if-ends-x.false))) i.rows c.in_ok-rows.ensures.rows;
    }
