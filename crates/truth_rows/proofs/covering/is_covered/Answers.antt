use Rattle.std.proofs.Common.{◌≡◌, true, slice_get, Some, refl, sym, ◌∙◌, arith}
use Rattle.bool_diagrams.specs.Rows.{holds}
use Rattle.bool_diagrams.proofs.CallerLemmas.{holds_later, keeps_twice}
use Rattle.truth_rows.proofs.CoverLaws.{covered_all, covered_one}
use Rattle.truth_rows.proofs.ListLaws.{from_index}
use Rattle.truth_rows.proofs.covering.is_covered.Goals as goal

pub returns-then-not-inside-clause-covered : goal.returns-then-not-inside-clause-covered
returns-then-not-inside-clause-covered c =
    let i = c.loop-argument.invariant in
    let later = holds_later c.args.table.now c.var.new.self c.args.set (keeps_twice _ _ _ i.keeps c.var.ensures.keeps) c.requires.known in
    let at : slice_get c.args.positive.now c.loop-argument.argument ≡ Some true = from_index c.args.positive.now c.loop-argument.argument _ true c.loop-argument-test.true c.if-not-is_positive.false in
    λ coefficients signs. (
      λ t. cc,
      λ all. sym c.if-not-inside.true
          ∙ c.in_ok-inside.ensures.rows.1 (λ row t.
          c.in_ok-rigid.ensures.rows row ∙ covered_one (holds c.args.table.now c.args.set) c.args.positive.now coefficients signs c.requires.reads all c.loop-argument.argument c.loop-argument-test.true at row (sym (later row) ∙ t)),
    )

pub returns-clause-covered : goal.returns-clause-covered
returns-clause-covered c = λ coefficients signs. (
  λ t row long h. covered_all (holds c.args.table.now c.args.set) c.args.positive.now coefficients signs (λ j lt e r s. c.loop-argument.invariant.covered j (omega (arith, lt, c.loop-argument-test.false)) e r s) row long h,
  λ all. refl,
)
