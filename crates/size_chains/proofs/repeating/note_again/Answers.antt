use Rattle.std.proofs.Common.{◌∙◌, ◌-◌, None, slice_get, sym, subst, Bool, false, ap, refl}
use Rattle.cti_terms.specs.declared.clauses.Clause.{Clause}
use Rattle.linear_rows.specs.declared.row.Rows.{Rows}
use Rattle.polyhedra.specs.Making.{SaysKept}
use Rattle.termination_model.specs.sizes.Sizes.{rows_of}
use Rattle.termination_model.specs.declared.how.How.TheVariants.{Same}
use Rattle.termination_model.proofs.Lists.{one_element}
use Rattle.size_chains.specs.declared.noting.Noted.{Noted}
use Rattle.size_chains.specs.Noting.{IsNoted}
use Rattle.size_chains.specs.declared.filled.Filled.TheVariants.{Inhabited}
use Rattle.cti_terms.specs.Listing.{Listing}
use Rattle.size_chains.proofs.Makes.{columns_at, columns_of}
use Rattle.size_chains.proofs.Repeats.{again}
use Rattle.size_chains.proofs.repeating.note_again.Goals as goal

pub widen-requires-clause-system : goal.widen-requires-clause-system
widen-requires-clause-system g c = (c.in_ok-system.ensures c.clause-clause.result.now (ap (λ (p : Listing). slice_get p.clauses (c.args.earlier.now.clause - 1)) c.requires.same ∙ c.clause-clause.ensures.there)).system

pub widen-requires-clause-arity : goal.widen-requires-clause-arity
widen-requires-clause-arity g c =
    let k = c.clause-clause.result.now in
    let e = g.S.ClauseSystems.systems c.args.systems.now in
    let rows = rows_of c.args.sizes.now.rows in
    let made = c.in_ok-system.ensures k (ap (λ (p : Listing). slice_get p.clauses (c.args.earlier.now.clause - 1)) c.requires.same ∙ c.clause-clause.ensures.there) in
    (c.requires.earlier k c.clause-clause.ensures.there).head.width_is ∙ sym (columns_of e rows k c.in_ok-system.system made.of)

pub returns : goal.returns
returns g c = λ pass k' at.
    let k = c.clause-clause.result.now in
    let e = g.S.ClauseSystems.systems c.args.systems.now in
    let rows = rows_of c.args.sizes.now.rows in
    let there = c.clause-clause.ensures.there in
    let s = c.in_ok-system.system in
    let made = c.in_ok-system.ensures k (ap (λ (p : Listing). slice_get p.clauses (c.args.earlier.now.clause - 1)) c.requires.same ∙ there) in
    let of = columns_at e c.args.p.now _ c.requires.same c.program-program.ensures.lawful (c.args.earlier.now.clause - 1) k there in
    let d = c.args.old.now in
    let width = g.D.Domain.width in
    let listed = g.D.Domain.listed in
    let speaks = g.D.Domain.speaks in
    let number = c.args.earlier.now.clause in
    let kept = listed c.in_ok-kept.kept.value in
    let by = c.in_ok-kept.kept.by in
    let says = subst (λ (b : Bool). SaysKept s (listed d) kept false b by) c.if-kept-2.false
    (subst (λ (b : Bool). SaysKept s (listed d) kept b c.in_ok-kept.kept.weak by) c.if-kept.false c.in_ok-kept.ensures.rows) in
    let x : Noted g.row.D.Denot = record { image = c.in_ok-image.image; image_weak = c.args.earlier.now.image_weak; stepped = record { how = Same; weak = false; next = None; filled = Inhabited; by = c.in_ok-kept.kept.by } } in
    subst (λ (y : Clause). IsNoted width listed speaks e pass rows y number Inhabited x) (one_element c.args.p.now.clauses (number - 1) k k' there at)
    (again width listed speaks e rows k s made of d c.args.earlier.now (c.requires.earlier k there) (c.if-not-has_point.ensures.strong refl) (c.if-not-has_point.ensures.some refl) kept by says x (ap (λ (r : Rows). r.list) c.in_ok-image.ensures.cases) refl refl pass number)
