use Rattle.std.proofs.Common.{Bool, List, ℕ, sym, subst, ap, length, arith, true, slice_set}
use Rattle.groundness.specs.Marks.{AreWaiting, IsMarked}
use Rattle.groundness.proofs.MarkLaws.{marked_more, marked_there, waiting_marked}
use Rattle.groundness.proofs.marks.Marks.mark.Goals as goal

pub invariant_of-self-2 : goal.invariant_of-self-2
invariant_of-self-2 c =
    subst (λ (xs : List ℕ). AreWaiting (slice_set c.self.inside.marked.items c.args.clause true) xs) (sym c.in_ok-push.ensures.items)
    (waiting_marked c.self.inside.marked.items c.self.inside.waiting.items c.args.clause (omega (arith, c.requires, ap length c.self.view_is)) c.self.invariant)

pub returns-clause-marked : goal.returns-clause-marked
returns-clause-marked c = marked_there c.self.inside.marked.items c.args.clause (omega (arith, c.requires, ap length c.self.view_is))

pub returns-clause-more : goal.returns-clause-more
returns-clause-more c = λ j m. marked_more c.self.inside.marked.items c.args.clause (omega (arith, c.requires, ap length c.self.view_is)) j (subst (λ (xs : List Bool). IsMarked xs j) (sym c.self.view_is) m)
