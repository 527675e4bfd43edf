use Rattle.std.proofs.Common.{◌≡◌, ap, refl, slice_set, sym, subst, ◌∙◌}
use Rattle.bool_diagrams.proofs.CallerLemmas.{known_later, keeps_twice}
use Rattle.call_components.proofs.Lists.{slice_get-set_other}
use Rattle.cti_terms.specs.declared.clauses.Clause.{Clause}
use Rattle.termination_model.specs.grounds.Grounds.{Family, IsClosedUnder}
use Rattle.truth_rows.specs.Sets.{family_of}
use Rattle.truth_rows.proofs.CallerLemmas.{family_later}
use Rattle.termination_model.proofs.Lists.{there}
use Rattle.truth_rows.proofs.SetLaws.{none, ready, atom_there}
use Rattle.groundness.specs.Marks.{IsApart}
use Rattle.groundness.specs.Sets.{AddsOnlyNeeded}
use Rattle.groundness.proofs.SetLaws.{added_apart, added_closed, added_inside, added_less, added_needed, added_sets}
use Rattle.groundness.proofs.solving.add_rows.Goals as goal

pub clause_rows-requires : goal.clause_rows-requires
clause_rows-requires g c = ready c.args.p.now c.requires.program c.args.table.now c.args.sets.now c.requires.sets c.clause-clause.result.now c.clause-clause.ensures.sound

pub slice_copy_out-or : goal.slice_copy_out-or
slice_copy_out-or g c = atom_there c.args.p.now c.requires.program c.args.table.now c.args.sets.now c.requires.sets c.clause-clause.result.now.vars c.clause-clause.result.now.head c.clause-clause.ensures.sound.head

pub or-requires-clause-left : goal.or-requires-clause-left
or-requires-clause-left g c =
    let lt = atom_there c.args.p.now c.requires.program c.args.table.now c.args.sets.now c.requires.sets c.clause-clause.result.now.vars c.clause-clause.result.now.head c.clause-clause.ensures.sound.head in
    known_later c.args.table.now c.clause_rows.new.table _ c.clause_rows.ensures.keeps (c.requires.sets.known c.clause-clause.result.now.head.pred.0 _ (there c.args.sets.now c.clause-clause.result.now.head.pred.0 none lt))

pub slice_copy_out-same : goal.slice_copy_out-same
slice_copy_out-same g c = atom_there c.args.p.now c.requires.program c.args.table.now c.args.sets.now c.requires.sets c.clause-clause.result.now.vars c.clause-clause.result.now.head c.clause-clause.ensures.sound.head

pub same-requires-clause-left : goal.same-requires-clause-left
same-requires-clause-left g c =
    let lt = atom_there c.args.p.now c.requires.program c.args.table.now c.args.sets.now c.requires.sets c.clause-clause.result.now.vars c.clause-clause.result.now.head c.clause-clause.ensures.sound.head in
    known_later c.args.table.now c.or.new.self _ (keeps_twice _ _ _ c.clause_rows.ensures.keeps c.or.ensures.keeps) (c.requires.sets.known c.clause-clause.result.now.head.pred.0 _ (there c.args.sets.now c.clause-clause.result.now.head.pred.0 none lt))

pub bounds-sets-place : goal.bounds-sets-place
bounds-sets-place g c = atom_there c.args.p.now c.requires.program c.args.table.now c.args.sets.now c.requires.sets c.clause-clause.result.now.vars c.clause-clause.result.now.head c.clause-clause.ensures.sound.head

pub returns-then-same-clause-closed : goal.returns-then-same-clause-closed
returns-then-same-clause-closed g c = λ k at apart.
    let f = c.clause-clause.ensures.there in
    let is : c.clause-clause.result.now ≡ k = cc in
    subst (IsClosedUnder (g.N.Norm.truth c.args.norm.now) (family_of c.args.p.now.preds c.or.new.self c.args.sets.now)) is
    (added_closed c.args.p.now c.requires.program c.args.table.now c.args.sets.now c.requires.sets (g.N.Norm.truth c.args.norm.now) c.clause_rows.new.table c.or.new.self c.clause_rows.ensures.keeps c.or.ensures.keeps c.clause-clause.result.now c.clause-clause.ensures.sound c.in_ok-given.given c.in_ok-joined.joined c.in_ok-joined.ensures.known c.in_ok-given.ensures.rows c.in_ok-joined.ensures.rows
    (c.if-same.ensures.rows.0 refl))

pub returns-clause-sets : goal.returns-clause-sets
returns-clause-sets g c = added_sets c.args.p.now c.requires.program c.args.table.now c.args.sets.now c.requires.sets (g.N.Norm.truth c.args.norm.now) c.clause_rows.new.table c.or.new.self c.clause_rows.ensures.keeps c.or.ensures.keeps c.clause-clause.result.now c.clause-clause.ensures.sound c.in_ok-given.given c.in_ok-joined.joined c.in_ok-joined.ensures.known c.in_ok-given.ensures.rows c.in_ok-joined.ensures.rows

pub returns-clause-needed : goal.returns-clause-needed
returns-clause-needed g c = λ x at.
    let f = c.clause-clause.ensures.there in
    let is : c.clause-clause.result.now ≡ x = cc in
    subst (λ (y : Clause). AddsOnlyNeeded (g.N.Norm.truth c.args.norm.now) y (family_of c.args.p.now.preds c.args.table.now c.args.sets.now) (family_of c.args.p.now.preds c.or.new.self (slice_set c.args.sets.now c.clause-clause.result.now.head.pred.0 c.in_ok-joined.joined))) is
    (added_needed c.args.p.now c.requires.program c.args.table.now c.args.sets.now c.requires.sets (g.N.Norm.truth c.args.norm.now) c.clause_rows.new.table c.or.new.self c.clause_rows.ensures.keeps c.or.ensures.keeps c.clause-clause.result.now c.clause-clause.ensures.sound c.in_ok-given.given c.in_ok-joined.joined c.in_ok-joined.ensures.known c.in_ok-given.ensures.rows c.in_ok-joined.ensures.rows)

pub returns-clause-less : goal.returns-clause-less
returns-clause-less g c = λ grew. added_less c.args.p.now c.requires.program c.args.table.now c.args.sets.now c.requires.sets (g.N.Norm.truth c.args.norm.now) c.clause_rows.new.table c.or.new.self c.clause_rows.ensures.keeps c.or.ensures.keeps c.clause-clause.result.now c.clause-clause.ensures.sound c.in_ok-given.given c.in_ok-joined.joined c.in_ok-joined.ensures.known c.in_ok-given.ensures.rows c.in_ok-joined.ensures.rows
    (λ same. let f = c.if-same.ensures.rows.1 same in absurd (cc))

pub returns-then-same-clause-inside : goal.returns-then-same-clause-inside
returns-then-same-clause-inside g c = λ q row t.
    ap (λ (f : Family). f q row) (family_later c.args.p.now.preds c.args.table.now c.or.new.self (keeps_twice _ _ _ c.clause_rows.ensures.keeps c.or.ensures.keeps) c.args.sets.now c.requires.sets.known) ∙ t

pub returns-clause-inside : goal.returns-clause-inside
returns-clause-inside g c = added_inside c.args.p.now c.requires.program c.args.table.now c.args.sets.now c.requires.sets (g.N.Norm.truth c.args.norm.now) c.clause_rows.new.table c.or.new.self c.clause_rows.ensures.keeps c.or.ensures.keeps c.clause-clause.result.now c.clause-clause.ensures.sound c.in_ok-given.given c.in_ok-joined.joined c.in_ok-joined.ensures.known c.in_ok-given.ensures.rows c.in_ok-joined.ensures.rows

pub returns-clause-others : goal.returns-clause-others
returns-clause-others g c = λ k at r ne.
    let f = c.clause-clause.ensures.there in
    let is : k ≡ c.clause-clause.result.now = cc in
    slice_get-set_other c.args.sets.now c.clause-clause.result.now.head.pred.0 r c.in_ok-joined.joined (subst (λ (y : Clause). (r ≡ y.head.pred.0) → ⊥) is ne)

pub returns-clause-closed : goal.returns-clause-closed
returns-clause-closed g c = λ k at apart.
    let f = c.clause-clause.ensures.there in
    let is : c.clause-clause.result.now ≡ k = cc in
    subst (IsClosedUnder (g.N.Norm.truth c.args.norm.now) (family_of c.args.p.now.preds c.or.new.self (slice_set c.args.sets.now c.clause-clause.result.now.head.pred.0 c.in_ok-joined.joined))) is
    (added_apart c.args.p.now c.requires.program c.args.table.now c.args.sets.now c.requires.sets (g.N.Norm.truth c.args.norm.now) c.clause_rows.new.table c.or.new.self c.clause_rows.ensures.keeps c.or.ensures.keeps c.clause-clause.result.now c.clause-clause.ensures.sound c.in_ok-given.given c.in_ok-joined.joined c.in_ok-joined.ensures.known c.in_ok-given.ensures.rows c.in_ok-joined.ensures.rows
    (subst (λ (y : Clause). IsApart y y.head.pred.0) (sym is) (apart refl)))

pub returns-then-same-clause-needed : goal.returns-then-same-clause-needed
returns-then-same-clause-needed g c = λ x at other closed inside q row t.
    inside q row (ap (λ (f : Family). f q row) (sym (family_later c.args.p.now.preds c.args.table.now c.or.new.self (keeps_twice _ _ _ c.clause_rows.ensures.keeps c.or.ensures.keeps) c.args.sets.now c.requires.sets.known)) ∙ t)
