use Rattle.std.proofs.Common.{◌≡◌, arith, length, subst}
use Rattle.solved_program.specs.Resolving.{IsProgress}
use Rattle.solved_program.proofs.resolving.Sources.resolve_each.Goals as goal

pub returns : goal.returns
returns g c =
    let e : c.loop-c.c ≡ length c.args.self.now.edit.now.components.now.members = omega (arith, c.count-c-end.ensures, c.loop-c-test.false, c.loop-c.auto.c-end) in
    subst (λ n. IsProgress g.D.Domain.width g.D.Domain.listed c.args.self.now g.D.Domain.speaks (g.N.Norm.expression c.args.norm.now) n c.loop-c.progress c.loop-c.stayed) e c.loop-c.invariant
