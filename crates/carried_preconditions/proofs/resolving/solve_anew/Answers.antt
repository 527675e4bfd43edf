use Rattle.std.proofs.Common.{◌≡◌, ◌∙◌, ℕ, List, length, drop, slice_get, ap, refl, arith}
use Rattle.std.proofs.lemmas.List.{take_at}
use Rattle.bool_diagrams.specs.declared.diagram.Diagram.{Diagram}
use Rattle.call_components.specs.Partition.{IsIn}
use Rattle.carried_preconditions.proofs.Renewed.{solved_anew}
use Rattle.carried_preconditions.proofs.resolving.solve_anew.Goals as goal

pub returns-clause-found : goal.returns-clause-found
returns-clause-found g c =
    let s = c.args.sources.now in
    let old = c.args.progress.now in
    let found = c.requires.next.found in
    let a = c.in_ok-solve_component.ensures in
    let pre = c.solve_component.new.pre in
    let sets = c.solve_component.new.sets in
    let allowed = c.solve_component.new.allowed in
    let pre_len : length pre ≡ old.room.sets.len = omega (arith, a.pre.each, found.room.sets.each, old.room.sets.ok.0) in
    let sets_len : length sets ≡ old.sets.len = omega (arith, a.sets.each, found.solved.sets_are.each, old.sets.ok.0) in
    let allowed_len : length allowed ≡ old.allowed.len = omega (arith, a.allowed.sets.each, found.solved.allowed_are.sets.each, old.allowed.ok.0) in
    let others : (r : ℕ) → (IsIn s.clauses.now.edit.now.components.now c.args.c r → ⊥) → slice_get sets r ≡ slice_get old.sets.items r =
    λ r off. a.others r off ∙ ap (λ (xs : List (List Diagram)). slice_get xs r) c.deref_mut-2.ensures.value in
    let solved = solved_anew (g.N.Norm.truth s.norm.now) s c.clauses-before.ensures.sound c.clauses-after.ensures.sound c.args.c c.args.table.now c.requires.next.sources c.requires.next.old old.sets.items old.allowed.items old.stayed.items found.solved found.marked
    c.solve_component.new.table c.solve_component.ensures.keeps sets allowed a.sets a.allowed others a.solved c.requires.lost in
    record {
      room = record { marks = a.marks; sets = rw (take_at pre (drop (length pre) old.room.sets.items) old.room.sets.len pre_len) a.pre };
      solved = rw (take_at sets (drop (length sets) old.sets.items) old.sets.len sets_len, take_at allowed (drop (length allowed) old.allowed.items) old.allowed.len allowed_len) solved;
      others = rw (take_at sets (drop (length sets) old.sets.items) old.sets.len sets_len) others;
      stayed = refl;
    }
