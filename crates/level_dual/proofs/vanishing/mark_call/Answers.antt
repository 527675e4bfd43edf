use Rattle.std.proofs.Common.{◌<◌, length, sym, subst, arith}
use Rattle.termination_model.specs.mappings.Coefficients.{coefficient}
use Rattle.level_dual.specs.Vanishing.{Vanishes}
use Rattle.level_dual.proofs.VanishLaws.{zero_unless}
use Rattle.level_dual.proofs.vanishing.mark_call.Goals.{then-grows, else-grows}
use Rattle.level_dual.proofs.vanishing.mark_call.Goals as goal

pub loop-argument-preserved : goal.loop-argument-preserved
loop-argument-preserved c = λ m silent v.
    let own = c.args.own.now in
    let a = c.loop-argument.argument in
    let before = c.loop-argument.invariant m silent v in
    let less : a < length own.callee_sizes.list = omega (arith, c.loop-argument-test.true, c.len-argument-end.ensures) in
    elim c.if-grows.branch [
      | then-grows w ↦
          subst (λ t. Vanishes c.args.places.now.positions.now t.items m) (sym w.marks-is)
          (w.mark.ensures m (zero_unless (coefficient (m.coefficients own.callee.0) a) (λ more. c.grows.ensures w.if-grows.true (silent a less more))) before)
      | else-grows w ↦ subst (λ t. Vanishes c.args.places.now.positions.now t.items m) (sym w.marks-is) before
    ]
