use Rattle.std.proofs.Common.{List, Bool, refl, subst}
use Rattle.carried_preconditions.specs.Resolving.{StandsKept}
use Rattle.carried_preconditions.proofs.Renewed.{taken_over}
use Rattle.carried_preconditions.proofs.resolving.renew.Goals as goal

pub returns-then-stands-clause-found : goal.returns-then-stands-clause-found
returns-then-stands-clause-found g c =
    let s = c.args.sources.now in
    let old = c.args.progress.now in
    let found = c.requires.found in
    let stands = subst (λ (marks : List Bool). StandsKept s c.args.table.now marks c.args.c) c.deref.ensures.value (c.stands.ensures.0 c.if-stands.true) in
    record {
      room = found.room;
      solved = taken_over (g.N.Norm.truth s.norm.now) s c.clauses-before.ensures.sound c.clauses-after.ensures.sound c.args.c c.args.table.now c.requires.sources c.requires.old old.sets.items old.allowed.items old.stayed.items found.solved found.marked stands;
      others = λ r off. refl;
      stayed = refl;
    }
