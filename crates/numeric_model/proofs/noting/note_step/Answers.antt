use Rattle.std.proofs.Common.{◌≡◌, ℕ, ◌-◌, slice_get, Some, subst, ◌∙◌, sym}
use Rattle.cti_terms.specs.declared.clauses.Clause.{Clause}
use Rattle.linear_rows.specs.Plain.{plain_rows}
use Rattle.polyhedra.specs.Making.{SaysImage}
use Rattle.termination_model.specs.sizes.Sizes.{rows_of}
use Rattle.termination_model.proofs.Lists.{one_element}
use Rattle.numeric_model.specs.Filling.{IsFilled}
use Rattle.numeric_model.specs.Noting.{IsNoted}
use Rattle.numeric_model.specs.Stepping.{IsStep}
use Rattle.numeric_model.proofs.ClauseSystems.{system_is, of_clause, natural_head, arity_is}
use Rattle.numeric_model.proofs.Notes.{noted}
use Rattle.numeric_model.proofs.Results.{ok_two}
use Rattle.numeric_model.proofs.noting.note_step.Goals as goal

pub note_on-requires-clause-system : goal.note_on-requires-clause-system
note_on-requires-clause-system g c = system_is c.in_ok-system.system c.in_ok-system.ensures.widths

pub note_on-requires-clause-head : goal.note_on-requires-clause-head
note_on-requires-clause-head g c =
    let k = c.clause-clause.result.now in
    let n = c.args.norm.now in
    let e = g.N.Norm.expression n in
    let there = c.clause-clause.ensures.there in
    let f = c.in_ok-system.ensures in
    let is = of_clause e (rows_of c.args.sizes.now.rows) k c.in_ok-system.system c.len.result c.len.ensures (f.variables k there) (f.rows k there) (f.wide k there) (f.head k there) in
    natural_head (g.N.Norm.size n) (g.N.Norm.truth n) e (g.met.N.Norm.laws n) (rows_of c.args.sizes.now.rows) k c.in_ok-system.system is c.clause-clause.ensures.sound.head.below

pub note_on-requires-clause-old_width : goal.note_on-requires-clause-old_width
note_on-requires-clause-old_width g c =
    let k = c.clause-clause.result.now in
    let e = g.N.Norm.expression c.args.norm.now in
    let there = c.clause-clause.ensures.there in
    let f = c.in_ok-system.ensures in
    let is = of_clause e (rows_of c.args.sizes.now.rows) k c.in_ok-system.system c.len.result c.len.ensures (f.variables k there) (f.rows k there) (f.wide k there) (f.head k there) in
    (c.requires.old k there).width_is ∙ sym (arity_is e (rows_of c.args.sizes.now.rows) k c.in_ok-system.system is)

pub note_on-requires-clause-filled : goal.note_on-requires-clause-filled
note_on-requires-clause-filled g c =
    let k = c.clause-clause.result.now in
    let e = g.N.Norm.expression c.args.norm.now in
    let there = c.clause-clause.ensures.there in
    let f = c.in_ok-system.ensures in
    let is = of_clause e (rows_of c.args.sizes.now.rows) k c.in_ok-system.system c.len.result c.len.ensures (f.variables k there) (f.rows k there) (f.wide k there) (f.head k there) in
    subst (λ (m : ℕ). IsFilled m c.args.old.now.filled (g.D.Domain.listed c.args.old.now.of)) (sym (arity_is e (rows_of c.args.sizes.now.rows) k c.in_ok-system.system is)) (c.requires.old k there).known

pub returns : goal.returns
returns g c =
    let k = c.clause-clause.result.now in
    let e = g.N.Norm.expression c.args.norm.now in
    let rows = rows_of c.args.sizes.now.rows in
    let there = c.clause-clause.ensures.there in
    let f = c.in_ok-system.ensures in
    let s = c.in_ok-system.system in
    let is = of_clause e rows k s c.len.result c.len.ensures (f.variables k there) (f.rows k there) (f.wide k there) (f.head k there) in
    let d = c.args.old.now.of in
    let width = g.D.Domain.width in
    let listed = g.D.Domain.listed in
    let speaks = g.D.Domain.speaks in
    ok_two (λ x. SaysImage speaks s (plain_rows x.image.value.list) x.image_weak) (λ x. IsStep width listed speaks s c.args.pass (listed d) (plain_rows x.image.value.list) c.args.old.now.filled x.stepped)
    (λ x. (k' : Clause) → slice_get c.args.p.now.clauses (c.args.k - 1) ≡ Some k' → IsNoted width listed speaks e c.args.pass rows k' c.args.k c.args.old.now.filled x)
    (λ x says step k' at.
    subst (λ (y : Clause). IsNoted width listed speaks e c.args.pass rows y c.args.k c.args.old.now.filled x) (one_element c.args.p.now.clauses (c.args.k - 1) k k' there at)
    (noted width listed speaks e c.args.pass rows k c.args.k s is c.args.old.now.filled d (c.requires.old k there) x says step))
    c.note_on.result c.note_on.ensures.image c.note_on.ensures.step
