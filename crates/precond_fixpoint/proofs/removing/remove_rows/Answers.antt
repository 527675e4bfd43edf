use Rattle.std.proofs.Common.{◌≡◌, ◌<◌, ◌&&◌, ℕ, Bool, length, slice_set, slice_index_or, refl, ap, sym, subst, ◌∙◌, arith}
use Rattle.bool_diagrams.specs.Rows.{holds}
use Rattle.bool_diagrams.proofs.CallerLemmas.{holds_later, known_later, keeps_twice}
use Rattle.cti_terms.specs.Listing.{IsAtom}
use Rattle.cti_terms.specs.declared.atom_list.Atom.{Atom}
use Rattle.cti_terms.specs.declared.clauses.Clause.{Clause}
use Rattle.groundness.specs.Marks.{IsApart}
use Rattle.termination_model.specs.grounds.Grounds.{Family}
use Rattle.truth_rows.proofs.CallerLemmas.{family_later}
use Rattle.truth_rows.specs.Rules.{KeepsSets, same_rank}
use Rattle.truth_rows.specs.Sets.{family_of}
use Rattle.termination_model.proofs.Lists.{by_places, there}
use Rattle.truth_rows.proofs.SetLaws.{none, ready, atom_there}
use Rattle.precond_fixpoint.specs.Removing.{RemovesBroken}
use Rattle.precond_fixpoint.proofs.RemoveLaws.{removed_inside, removed_keeps, removed_less, removed_only, removed_others, removed_sets, same_inside, same_keeps}
use Rattle.precond_fixpoint.proofs.removing.remove_rows.Goals as goal

pub broken_rows-requires : goal.broken_rows-requires
broken_rows-requires g c =
    let p = c.args.setting.now.program.now in
    let program = c.requires.setting.program in
    let T = c.args.table.now in
    let clause = c.clause-clause.result.now in
    let is = c.clause-clause.ensures.sound in
    let within : (b : Atom) → IsAtom p.preds clause.vars b → b.pred.0 < length c.args.setting.now.ranks.now =
    λ b atom. omega (arith, atom_there p program T c.args.sets.now c.requires.sets clause.vars b atom, c.requires.sets.each, c.requires.setting.each) in
    record {
      head = within clause.head is.head;
      body = λ j b at. within b (by_places (IsAtom p.preds clause.vars) clause.body is.body j b at);
      grounds_ready = ready p program T c.args.setting.now.grounds.now c.requires.setting.grounds clause is;
      pre_ready = ready p program T c.args.sets.now c.requires.sets clause is;
      allowed_ready = ready p program T c.args.component.now.allowed.now c.requires.component.allowed clause is;
    }

pub slice_copy_out-and : goal.slice_copy_out-and
slice_copy_out-and g c = atom_there c.args.setting.now.program.now c.requires.setting.program c.args.table.now c.args.sets.now c.requires.sets c.clause-clause.result.now.vars c.clause-clause.result.now.head c.clause-clause.ensures.sound.head

pub and-requires-clause-left : goal.and-requires-clause-left
and-requires-clause-left g c =
    let lt = atom_there c.args.setting.now.program.now c.requires.setting.program c.args.table.now c.args.sets.now c.requires.sets c.clause-clause.result.now.vars c.clause-clause.result.now.head c.clause-clause.ensures.sound.head in
    known_later c.args.table.now c.not.new.self _ (keeps_twice _ _ _ c.broken_rows.ensures.keeps c.not.ensures.keeps) (c.requires.sets.known c.clause-clause.result.now.head.pred.0 _ (there c.args.sets.now c.clause-clause.result.now.head.pred.0 none lt))

pub slice_copy_out-same : goal.slice_copy_out-same
slice_copy_out-same g c = atom_there c.args.setting.now.program.now c.requires.setting.program c.args.table.now c.args.sets.now c.requires.sets c.clause-clause.result.now.vars c.clause-clause.result.now.head c.clause-clause.ensures.sound.head

pub same-requires-clause-left : goal.same-requires-clause-left
same-requires-clause-left g c =
    let lt = atom_there c.args.setting.now.program.now c.requires.setting.program c.args.table.now c.args.sets.now c.requires.sets c.clause-clause.result.now.vars c.clause-clause.result.now.head c.clause-clause.ensures.sound.head in
    known_later c.args.table.now c.and.new.self _ (keeps_twice _ _ _ c.broken_rows.ensures.keeps (keeps_twice _ _ _ c.not.ensures.keeps c.and.ensures.keeps)) (c.requires.sets.known c.clause-clause.result.now.head.pred.0 _ (there c.args.sets.now c.clause-clause.result.now.head.pred.0 none lt))

pub bounds-sets-place : goal.bounds-sets-place
bounds-sets-place g c = atom_there c.args.setting.now.program.now c.requires.setting.program c.args.table.now c.args.sets.now c.requires.sets c.clause-clause.result.now.vars c.clause-clause.result.now.head c.clause-clause.ensures.sound.head

pub returns-then-same-clause-rule : goal.returns-then-same-clause-rule
returns-then-same-clause-rule g c = λ k at apart.
    let clause = c.clause-clause.result.now in
    let to_not = keeps_twice _ _ _ c.broken_rows.ensures.keeps c.not.ensures.keeps in
    let keeps = keeps_twice _ _ _ to_not c.and.ensures.keeps in
    let lt = atom_there c.args.setting.now.program.now c.requires.setting.program c.args.table.now c.args.sets.now c.requires.sets clause.vars clause.head c.clause-clause.ensures.sound.head in
    let own = c.requires.sets.known clause.head.pred.0 _ (there c.args.sets.now clause.head.pred.0 none lt) in
    let early = holds_later c.args.table.now c.not.new.self (slice_index_or c.args.sets.now clause.head.pred.0 none) to_not own in
    let rest = λ (row : ℕ → Bool). c.in_ok-kept.ensures.rows row ∙ (λ i. early row i && c.in_ok-unbroken.ensures.rows row i) in
    let found = c.clause-clause.ensures.there in
    let is : clause ≡ k = cc in
    let late = holds_later c.args.table.now c.and.new.self (slice_index_or c.args.sets.now clause.head.pred.0 none) keeps own in
    subst (λ (f : Family). KeepsSets (g.N.Norm.truth c.args.setting.now.norm.now) f (family_of c.args.setting.now.program.now.preds c.args.table.now c.args.component.now.allowed.now)
    (family_of c.args.setting.now.program.now.preds c.args.table.now c.args.setting.now.grounds.now) (λ q. same_rank c.args.setting.now.ranks.now q k.head.pred.0) k) (sym (family_later c.args.setting.now.program.now.preds c.args.table.now c.and.new.self keeps c.args.sets.now c.requires.sets.known))
    (subst (λ (x : Clause). KeepsSets (g.N.Norm.truth c.args.setting.now.norm.now) (family_of c.args.setting.now.program.now.preds c.args.table.now c.args.sets.now) (family_of c.args.setting.now.program.now.preds c.args.table.now c.args.component.now.allowed.now)
    (family_of c.args.setting.now.program.now.preds c.args.table.now c.args.setting.now.grounds.now) (λ q. same_rank c.args.setting.now.ranks.now q x.head.pred.0) x) is
    (same_keeps c.args.setting.now.program.now c.requires.setting.program c.args.table.now c.args.sets.now c.args.setting.now.grounds.now c.args.component.now.allowed.now c.requires.sets c.requires.setting.grounds c.requires.component.allowed
    (g.N.Norm.truth c.args.setting.now.norm.now) c.args.setting.now.ranks.now c.and.new.self keeps clause c.clause-clause.ensures.sound c.in_ok-kept.kept c.in_ok-kept.ensures.known (holds c.broken_rows.new.table c.in_ok-broken.broken)
    c.in_ok-broken.ensures.rows rest
    (λ row. sym (c.if-same.ensures.rows.0 refl row) ∙ late row)))

pub returns-clause-sets : goal.returns-clause-sets
returns-clause-sets g c =
    let clause = c.clause-clause.result.now in
    let to_not = keeps_twice _ _ _ c.broken_rows.ensures.keeps c.not.ensures.keeps in
    let keeps = keeps_twice _ _ _ to_not c.and.ensures.keeps in
    let lt = atom_there c.args.setting.now.program.now c.requires.setting.program c.args.table.now c.args.sets.now c.requires.sets clause.vars clause.head c.clause-clause.ensures.sound.head in
    let own = c.requires.sets.known clause.head.pred.0 _ (there c.args.sets.now clause.head.pred.0 none lt) in
    let early = holds_later c.args.table.now c.not.new.self (slice_index_or c.args.sets.now clause.head.pred.0 none) to_not own in
    let rest = λ (row : ℕ → Bool). c.in_ok-kept.ensures.rows row ∙ (λ i. early row i && c.in_ok-unbroken.ensures.rows row i) in
    removed_sets c.args.setting.now.program.now c.requires.setting.program c.args.table.now c.args.sets.now c.args.setting.now.grounds.now c.args.component.now.allowed.now c.requires.sets c.requires.setting.grounds c.requires.component.allowed
    (g.N.Norm.truth c.args.setting.now.norm.now) c.args.setting.now.ranks.now c.and.new.self keeps clause c.clause-clause.ensures.sound c.in_ok-kept.kept c.in_ok-kept.ensures.known (holds c.broken_rows.new.table c.in_ok-broken.broken)
    c.in_ok-broken.ensures.rows rest

pub returns-clause-removed : goal.returns-clause-removed
returns-clause-removed g c = λ k at.
    let clause = c.clause-clause.result.now in
    let to_not = keeps_twice _ _ _ c.broken_rows.ensures.keeps c.not.ensures.keeps in
    let keeps = keeps_twice _ _ _ to_not c.and.ensures.keeps in
    let lt = atom_there c.args.setting.now.program.now c.requires.setting.program c.args.table.now c.args.sets.now c.requires.sets clause.vars clause.head c.clause-clause.ensures.sound.head in
    let own = c.requires.sets.known clause.head.pred.0 _ (there c.args.sets.now clause.head.pred.0 none lt) in
    let early = holds_later c.args.table.now c.not.new.self (slice_index_or c.args.sets.now clause.head.pred.0 none) to_not own in
    let rest = λ (row : ℕ → Bool). c.in_ok-kept.ensures.rows row ∙ (λ i. early row i && c.in_ok-unbroken.ensures.rows row i) in
    let found = c.clause-clause.ensures.there in
    let is : clause ≡ k = cc in
    subst (λ (x : Clause). RemovesBroken (g.N.Norm.truth c.args.setting.now.norm.now) c.args.setting.now.program.now c.args.table.now c.and.new.self c.args.setting.now.ranks.now c.args.setting.now.grounds.now c.args.component.now.allowed.now c.args.sets.now
    (slice_set c.args.sets.now clause.head.pred.0 c.in_ok-kept.kept) x) is
    (removed_only c.args.setting.now.program.now c.requires.setting.program c.args.table.now c.args.sets.now c.args.setting.now.grounds.now c.args.component.now.allowed.now c.requires.sets c.requires.setting.grounds c.requires.component.allowed
    (g.N.Norm.truth c.args.setting.now.norm.now) c.args.setting.now.ranks.now c.and.new.self keeps clause c.clause-clause.ensures.sound c.in_ok-kept.kept c.in_ok-kept.ensures.known (holds c.broken_rows.new.table c.in_ok-broken.broken)
    c.in_ok-broken.ensures.rows rest)

pub returns-clause-less : goal.returns-clause-less
returns-clause-less g c = λ shrank.
    let clause = c.clause-clause.result.now in
    let to_not = keeps_twice _ _ _ c.broken_rows.ensures.keeps c.not.ensures.keeps in
    let keeps = keeps_twice _ _ _ to_not c.and.ensures.keeps in
    let lt = atom_there c.args.setting.now.program.now c.requires.setting.program c.args.table.now c.args.sets.now c.requires.sets clause.vars clause.head c.clause-clause.ensures.sound.head in
    let own = c.requires.sets.known clause.head.pred.0 _ (there c.args.sets.now clause.head.pred.0 none lt) in
    let early = holds_later c.args.table.now c.not.new.self (slice_index_or c.args.sets.now clause.head.pred.0 none) to_not own in
    let rest = λ (row : ℕ → Bool). c.in_ok-kept.ensures.rows row ∙ (λ i. early row i && c.in_ok-unbroken.ensures.rows row i) in
    removed_less c.args.setting.now.program.now c.requires.setting.program c.args.table.now c.args.sets.now c.args.setting.now.grounds.now c.args.component.now.allowed.now c.requires.sets c.requires.setting.grounds c.requires.component.allowed
    (g.N.Norm.truth c.args.setting.now.norm.now) c.args.setting.now.ranks.now c.and.new.self keeps clause c.clause-clause.ensures.sound c.in_ok-kept.kept c.in_ok-kept.ensures.known (holds c.broken_rows.new.table c.in_ok-broken.broken)
    c.in_ok-broken.ensures.rows rest
    (λ same. let f = c.if-same.ensures.rows.1 same in absurd (cc))

pub returns-clause-inside : goal.returns-clause-inside
returns-clause-inside g c =
    let clause = c.clause-clause.result.now in
    let to_not = keeps_twice _ _ _ c.broken_rows.ensures.keeps c.not.ensures.keeps in
    let keeps = keeps_twice _ _ _ to_not c.and.ensures.keeps in
    let lt = atom_there c.args.setting.now.program.now c.requires.setting.program c.args.table.now c.args.sets.now c.requires.sets clause.vars clause.head c.clause-clause.ensures.sound.head in
    let own = c.requires.sets.known clause.head.pred.0 _ (there c.args.sets.now clause.head.pred.0 none lt) in
    let early = holds_later c.args.table.now c.not.new.self (slice_index_or c.args.sets.now clause.head.pred.0 none) to_not own in
    let rest = λ (row : ℕ → Bool). c.in_ok-kept.ensures.rows row ∙ (λ i. early row i && c.in_ok-unbroken.ensures.rows row i) in
    removed_inside c.args.setting.now.program.now c.requires.setting.program c.args.table.now c.args.sets.now c.args.setting.now.grounds.now c.args.component.now.allowed.now c.requires.sets c.requires.setting.grounds c.requires.component.allowed
    (g.N.Norm.truth c.args.setting.now.norm.now) c.args.setting.now.ranks.now c.and.new.self keeps clause c.clause-clause.ensures.sound c.in_ok-kept.kept c.in_ok-kept.ensures.known (holds c.broken_rows.new.table c.in_ok-broken.broken)
    c.in_ok-broken.ensures.rows rest

pub returns-then-same-clause-inside : goal.returns-then-same-clause-inside
returns-then-same-clause-inside g c =
    same_inside c.args.setting.now.program.now.preds c.args.table.now c.and.new.self (keeps_twice _ _ _ c.broken_rows.ensures.keeps (keeps_twice _ _ _ c.not.ensures.keeps c.and.ensures.keeps)) c.args.sets.now c.requires.sets

pub returns-then-same-clause-others : goal.returns-then-same-clause-others
returns-then-same-clause-others g c = λ k at r ne.
    ap (λ (f : Family). f r) (family_later c.args.setting.now.program.now.preds c.args.table.now c.and.new.self (keeps_twice _ _ _ c.broken_rows.ensures.keeps (keeps_twice _ _ _ c.not.ensures.keeps c.and.ensures.keeps)) c.args.sets.now c.requires.sets.known)

pub returns-clause-others : goal.returns-clause-others
returns-clause-others g c = λ k at r ne.
    let clause = c.clause-clause.result.now in
    let to_not = keeps_twice _ _ _ c.broken_rows.ensures.keeps c.not.ensures.keeps in
    let keeps = keeps_twice _ _ _ to_not c.and.ensures.keeps in
    let lt = atom_there c.args.setting.now.program.now c.requires.setting.program c.args.table.now c.args.sets.now c.requires.sets clause.vars clause.head c.clause-clause.ensures.sound.head in
    let own = c.requires.sets.known clause.head.pred.0 _ (there c.args.sets.now clause.head.pred.0 none lt) in
    let early = holds_later c.args.table.now c.not.new.self (slice_index_or c.args.sets.now clause.head.pred.0 none) to_not own in
    let rest = λ (row : ℕ → Bool). c.in_ok-kept.ensures.rows row ∙ (λ i. early row i && c.in_ok-unbroken.ensures.rows row i) in
    let found = c.clause-clause.ensures.there in
    let is : k ≡ clause = cc in
    removed_others c.args.setting.now.program.now c.requires.setting.program c.args.table.now c.args.sets.now c.args.setting.now.grounds.now c.args.component.now.allowed.now c.requires.sets c.requires.setting.grounds c.requires.component.allowed
    (g.N.Norm.truth c.args.setting.now.norm.now) c.args.setting.now.ranks.now c.and.new.self keeps clause c.clause-clause.ensures.sound c.in_ok-kept.kept c.in_ok-kept.ensures.known (holds c.broken_rows.new.table c.in_ok-broken.broken)
    c.in_ok-broken.ensures.rows rest r (subst (λ (x : Clause). (r ≡ x.head.pred.0) → ⊥) is ne)

pub returns-clause-rule : goal.returns-clause-rule
returns-clause-rule g c = λ k at apart.
    let clause = c.clause-clause.result.now in
    let to_not = keeps_twice _ _ _ c.broken_rows.ensures.keeps c.not.ensures.keeps in
    let keeps = keeps_twice _ _ _ to_not c.and.ensures.keeps in
    let lt = atom_there c.args.setting.now.program.now c.requires.setting.program c.args.table.now c.args.sets.now c.requires.sets clause.vars clause.head c.clause-clause.ensures.sound.head in
    let own = c.requires.sets.known clause.head.pred.0 _ (there c.args.sets.now clause.head.pred.0 none lt) in
    let early = holds_later c.args.table.now c.not.new.self (slice_index_or c.args.sets.now clause.head.pred.0 none) to_not own in
    let rest = λ (row : ℕ → Bool). c.in_ok-kept.ensures.rows row ∙ (λ i. early row i && c.in_ok-unbroken.ensures.rows row i) in
    let found = c.clause-clause.ensures.there in
    let is : clause ≡ k = cc in
    subst (λ (x : Clause). KeepsSets (g.N.Norm.truth c.args.setting.now.norm.now) (family_of c.args.setting.now.program.now.preds c.and.new.self (slice_set c.args.sets.now clause.head.pred.0 c.in_ok-kept.kept))
    (family_of c.args.setting.now.program.now.preds c.args.table.now c.args.component.now.allowed.now) (family_of c.args.setting.now.program.now.preds c.args.table.now c.args.setting.now.grounds.now) (λ q. same_rank c.args.setting.now.ranks.now q x.head.pred.0) x) is
    (removed_keeps c.args.setting.now.program.now c.requires.setting.program c.args.table.now c.args.sets.now c.args.setting.now.grounds.now c.args.component.now.allowed.now c.requires.sets c.requires.setting.grounds c.requires.component.allowed
    (g.N.Norm.truth c.args.setting.now.norm.now) c.args.setting.now.ranks.now c.and.new.self keeps clause c.clause-clause.ensures.sound c.in_ok-kept.kept c.in_ok-kept.ensures.known (holds c.broken_rows.new.table c.in_ok-broken.broken)
    c.in_ok-broken.ensures.rows rest (subst (λ (x : Clause). IsApart x x.head.pred.0) (sym is) (apart refl)))
