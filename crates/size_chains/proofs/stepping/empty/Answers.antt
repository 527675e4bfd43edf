use Rattle.std.proofs.Common.{◌∙◌, sym}
use Rattle.size_chains.proofs.Branches.{nought_all, nought_licence}
use Rattle.size_chains.proofs.stepping.empty.Goals as goal

pub returns-then-count : goal.returns-then-count
returns-then-count g c =
    nought_all g.D.Domain.width g.D.Domain.listed g.D.Domain.speaks c.args.system.now c.requires.system c.args.pass (g.D.Domain.listed c.args.old.now) (g.D.Domain.listed c.args.image.now)
    c.requires.image c.args.filled c.requires.filled (g.D.Domain.listed c.in_ok-tested.tested.value) c.in_ok-tested.tested.failed c.in_ok-tested.tested.weak c.in_ok-tested.tested.by c.in_ok-tested.ensures.rows (sym c.count.ensures ∙ c.if-count.true ∙ c.count-2.ensures)

pub kept_weakly-requires-clause-licence : goal.kept_weakly-requires-clause-licence
kept_weakly-requires-clause-licence g c =
    nought_licence g.D.Domain.width g.D.Domain.listed g.D.Domain.speaks c.args.system.now c.requires.system c.args.pass (g.D.Domain.listed c.args.old.now) (g.D.Domain.listed c.args.image.now)
    c.args.by c.requires.by (g.D.Domain.listed c.in_ok-tested.tested.value) c.in_ok-tested.tested.failed c.in_ok-tested.tested.weak c.in_ok-tested.tested.by c.in_ok-tested.ensures.rows (λ same. c.if-count.false (c.count.ensures ∙ same ∙ sym c.count-2.ensures))
