use Rattle.std.proofs.Common.{◌≡◌, ◌∙◌, Bool, List, length, drop, ap, subst, arith}
use Rattle.std.proofs.lemmas.List.{take_at}
use Rattle.bool_diagrams.specs.declared.diagram.Diagram.{Diagram}
use Rattle.solved_program.specs.Marks.{AreMarked}
use Rattle.carried_preconditions.specs.Resolving.{HasStayed}
use Rattle.carried_preconditions.proofs.Renewed.{marks_more}
use Rattle.carried_preconditions.proofs.resolving.resolve.Goals as goal

pub returns-clause-found : goal.returns-clause-found
returns-clause-found g c =
    let s = c.args.sources.now in
    let T2 = c.renew.new.table in
    let old = c.args.progress.now in
    let new = c.renew.new.progress in
    let a = c.in_ok-renew.ensures.found in
    let more = c.mark_stayed.new.stayed in
    let comps = s.clauses.now.edit.now.components.now in
    let stayed : new.stayed.items ≡ old.stayed.items = ap (λ v. v.items) a.stayed in
    let marked : AreMarked comps c.args.c (HasStayed s T2 new.allowed.items) old.stayed.items more =
    subst (λ (marks : List Bool). AreMarked comps c.args.c (HasStayed s T2 new.allowed.items) marks more) (c.deref_mut.ensures.value ∙ stayed)
    (subst (λ (allowed : List Diagram). AreMarked comps c.args.c (HasStayed s T2 allowed) c.deref_mut.result.now more) c.deref.ensures.value c.mark_stayed.ensures) in
    let same : length more ≡ new.stayed.len = omega (arith, marked.each, ap length stayed, new.stayed.ok.0) in
    let are = marks_more (g.N.Norm.truth s.norm.now) s c.clauses-before.ensures.sound c.clauses-after.ensures.sound c.args.c c.args.table.now c.requires.sources c.requires.old old.sets.items old.allowed.items old.stayed.items
    c.requires.found.solved c.requires.found.marked T2 c.renew.ensures.keeps new.sets.items new.allowed.items a.solved.sets_are a.solved.allowed_are a.others more marked in
    record {
      room = a.room;
      solved = a.solved;
      marked = rw (take_at more (drop (length more) new.stayed.items) new.stayed.len same) are;
    }
