use Rattle.std.proofs.Common.{◌∙◌, sym, refl}
use Rattle.size_chains.proofs.Branches.{weakly_all, weakly_some}
use Rattle.size_chains.proofs.stepping.kept_weakly.Goals as goal

pub returns-then-count : goal.returns-then-count
returns-then-count g c =
    weakly_all g.D.Domain.width g.D.Domain.listed g.D.Domain.speaks c.args.system.now c.requires.system c.args.pass (g.D.Domain.listed c.args.old.now) (g.D.Domain.listed c.args.image.now)
    c.args.filled c.requires.filled c.requires.begun (g.D.Domain.listed c.args.kept.value) c.args.kept.failed c.args.kept.weak c.args.kept.by c.requires.kept
    c.requires.licence (sym c.count.ensures ∙ c.if-count.true ∙ c.count-2.ensures)

pub returns : goal.returns
returns g c =
    weakly_some g.D.Domain.width g.D.Domain.listed g.D.Domain.speaks c.args.system.now c.requires.system c.args.pass (g.D.Domain.listed c.args.old.now) (g.D.Domain.listed c.args.image.now)
    c.args.filled c.requires.filled c.requires.begun (g.D.Domain.listed c.args.kept.value) c.args.kept.failed c.args.kept.weak c.args.kept.by c.requires.kept
    c.args.kept.value refl c.requires.width c.requires.licence (λ same. c.if-count.false (c.count.ensures ∙ same ∙ sym c.count-2.ensures))
