use Rattle.std.proofs.Common.{◌≡◌, ◌&&◌, ℤ, pos, map, get_or, Some, ap, sym, subst, ◌∙◌, arith, rules}
use Rattle.std.specs.Int.{w128}
use Rattle.std.specs.Prelude.{FitsSigned}
use Rattle.std.proofs.lemmas.Int.{to_z-of_z}
use Rattle.std.proofs.lemmas.List.{length-map}
use Rattle.bool_diagrams.proofs.CallerLemmas.{holds_later, keeps_twice}
use Rattle.bool_diagrams.specs.Rows.{ReadsBelow, holds}
use Rattle.number_tests.specs.Levels.{is_positive, natural}
use Rattle.precond_fixpoint.proofs.CoveringLaws.{all_places, covers_places, natural_signs, next_place, reads_places, sign_at, skip_place}
use Rattle.termination_model.proofs.Lists.{there}
use Rattle.precond_fixpoint.proofs.covering.covering_rows.Goals as goal

pub loop-argument-preserved-then-not-is_positive :
    goal.loop-argument-preserved-then-not-is_positive
loop-argument-preserved-then-not-is_positive c =
    let own = c.args.coefficients.now in
    let n = c.loop-argument.argument in
    let i = c.loop-argument.invariant in
    let x : ℤ = get_or own n (pos 0) in
    let fits : FitsSigned w128 x = search rules in
    let told : c.is_positive.result ≡ is_positive x = c.is_positive.ensures ∙ ap is_positive (to_z-of_z w128 x fits) in
    let sign = sign_at own n x (there own n (pos 0) c.loop-argument-test.true) ∙ ap Some (sym told ∙ c.if-not-is_positive.true) in
    record {
      keeps = i.keeps;
      known = i.known;
      rows = λ row. skip_place (map is_positive own) n row sign (holds c.loop-argument.table c.loop-argument.covering row) (i.rows row);
    }

pub loop-argument-preserved : goal.loop-argument-preserved
loop-argument-preserved c =
    let own = c.args.coefficients.now in
    let n = c.loop-argument.argument in
    let i = c.loop-argument.invariant in
    let old = c.loop-argument.table in
    let x : ℤ = get_or own n (pos 0) in
    let fits : FitsSigned w128 x = search rules in
    let told : c.is_positive.result ≡ is_positive x = c.is_positive.ensures ∙ ap is_positive (to_z-of_z w128 x fits) in
    let sign = sign_at own n x (there own n (pos 0) c.loop-argument-test.true) ∙ ap Some (sym told ∙ c.if-not-is_positive.false) in
    let kept = holds_later old c.var.new.self c.loop-argument.covering c.var.ensures.keeps i.known in
    record {
      keeps = keeps_twice _ _ _ i.keeps (keeps_twice _ _ _ c.var.ensures.keeps c.and.ensures.keeps);
      known = c.in_ok-covering.ensures.known;
      rows = λ row. next_place (map is_positive own) n row sign (holds old c.loop-argument.covering row) (holds c.and.new.self c.in_ok-covering.covering row) (i.rows row)
          (c.in_ok-covering.ensures.rows row ∙ (λ k. kept row k && c.in_ok-rigid.ensures.rows row k));
    }

pub returns-clause-covering : goal.returns-clause-covering
returns-clause-covering c = λ row long.
    let own = c.args.coefficients.now in
    let each = length-map own is_positive in
    covers_places (holds c.loop-argument.table c.loop-argument.covering) (map is_positive own)
    (λ row. all_places (map is_positive own) c.loop-argument.argument (omega (arith, each, c.loop-argument-test.false)) row (holds c.loop-argument.table c.loop-argument.covering row) (c.loop-argument.invariant.rows row))
    (map natural own) (natural_signs own) row (long ∙ sym each)

pub returns-clause-reads : goal.returns-clause-reads
returns-clause-reads c =
    let own = c.args.coefficients.now in
    let each = length-map own is_positive in
    subst (ReadsBelow c.loop-argument.table c.loop-argument.covering) each
    (reads_places (holds c.loop-argument.table c.loop-argument.covering) (map is_positive own)
    (λ row. all_places (map is_positive own) c.loop-argument.argument (omega (arith, each, c.loop-argument-test.false)) row (holds c.loop-argument.table c.loop-argument.covering row) (c.loop-argument.invariant.rows row)))
