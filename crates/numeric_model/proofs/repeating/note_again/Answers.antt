use Rattle.std.proofs.Common.{◌∙◌, ◌-◌, None, sym, subst, Bool, false, ap, refl}
use Rattle.cti_terms.specs.declared.clauses.Clause.{Clause}
use Rattle.linear_rows.specs.declared.row.Rows.{Rows}
use Rattle.polyhedra.specs.Making.{SaysKept}
use Rattle.termination_model.specs.sizes.Sizes.{rows_of}
use Rattle.termination_model.specs.declared.how.How.TheVariants.{Same}
use Rattle.termination_model.proofs.Lists.{one_element}
use Rattle.numeric_model.specs.declared.noting.Noted.{Noted}
use Rattle.numeric_model.specs.Noting.{IsNoted}
use Rattle.numeric_model.specs.declared.filled.Filled.TheVariants.{Inhabited}
use Rattle.numeric_model.proofs.ClauseSystems.{system_is, of_clause, arity_is}
use Rattle.numeric_model.proofs.Repeats.{again}
use Rattle.numeric_model.proofs.repeating.note_again.Goals as goal

pub widen-requires-clause-system : goal.widen-requires-clause-system
widen-requires-clause-system g c = system_is c.in_ok-system.system c.in_ok-system.ensures.widths

pub widen-requires-clause-arity : goal.widen-requires-clause-arity
widen-requires-clause-arity g c =
    let k = c.clause.result.now in
    let e = g.N.Norm.expression c.args.norm.now in
    let rows = rows_of c.args.sizes.now.rows in
    let there = c.clause.ensures.there in
    let f = c.in_ok-system.ensures in
    let is = of_clause e rows k c.in_ok-system.system c.len-atoms.result c.len-atoms.ensures (f.variables k there) (f.rows k there) (f.wide k there) (f.head k there) in
    (c.requires.earlier k there).head.width_is ∙ sym (arity_is e rows k c.in_ok-system.system is)

pub returns : goal.returns
returns g c = λ pass k' at.
    let k = c.clause.result.now in
    let e = g.N.Norm.expression c.args.norm.now in
    let rows = rows_of c.args.sizes.now.rows in
    let there = c.clause.ensures.there in
    let f = c.in_ok-system.ensures in
    let s = c.in_ok-system.system in
    let is = of_clause e rows k s c.len-atoms.result c.len-atoms.ensures (f.variables k there) (f.rows k there) (f.wide k there) (f.head k there) in
    let d = c.args.old.now in
    let width = g.D.Domain.width in
    let listed = g.D.Domain.listed in
    let speaks = g.D.Domain.speaks in
    let number = c.args.earlier.now.clause in
    let kept = listed c.in_ok-kept.kept.value in
    let by = c.in_ok-kept.kept.by in
    let says = subst (λ (b : Bool). SaysKept s (listed d) kept false b by) c.if-kept-2.false
    (subst (λ (b : Bool). SaysKept s (listed d) kept b c.in_ok-kept.kept.weak by) c.if-kept.false c.in_ok-kept.ensures.rows) in
    let x : Noted g.row.D.Denot = record { image = c.in_ok-image.image; image_weak = c.args.earlier.now.image_weak; stepped = record { how = Same; weak = false; next = None; filled = Inhabited; by = c.in_ok-kept.kept.by } } in
    subst (λ (y : Clause). IsNoted width listed speaks e pass rows y number Inhabited x) (one_element c.args.p.now.clauses (number - 1) k k' there at)
    (again width listed speaks e rows k s (system_is s f.widths) is d c.args.earlier.now (c.requires.earlier k there) (c.if-not-has_point.ensures.strong refl) (c.if-not-has_point.ensures.some refl) kept by says x (ap (λ (r : Rows). r.list) c.in_ok-image.ensures.cases) refl refl pass number)
