use Rattle.std.proofs.Common.{◌≡◌, ℕ, ◌-◌, slice_get, Some, subst, ◌∙◌, sym, ap}
use Rattle.cti_terms.specs.Listing.{Listing}
use Rattle.cti_terms.specs.declared.clauses.Clause.{Clause}
use Rattle.linear_rows.specs.Plain.{plain_rows}
use Rattle.polyhedra.specs.Making.{SaysImage}
use Rattle.termination_model.specs.sizes.Sizes.{rows_of}
use Rattle.termination_model.proofs.Lists.{one_element}
use Rattle.size_chains.specs.Filling.{IsFilled}
use Rattle.size_chains.specs.Noting.{IsNoted}
use Rattle.size_chains.specs.Stepping.{IsStep}
use Rattle.size_chains.proofs.Makes.{columns_at, columns_of}
use Rattle.size_chains.proofs.Notes.{noted}
use Rattle.size_chains.proofs.Results.{ok_two}
use Rattle.size_chains.proofs.noting.note_step.Goals as goal

pub note_on-requires-clause-system : goal.note_on-requires-clause-system
note_on-requires-clause-system g c = (c.in_ok-system.ensures c.clause-clause.result.now (ap (λ (p : Listing). slice_get p.clauses (c.args.k - 1)) c.requires.same ∙ c.clause-clause.ensures.there)).system

pub note_on-requires-clause-head : goal.note_on-requires-clause-head
note_on-requires-clause-head g c = (c.in_ok-system.ensures c.clause-clause.result.now (ap (λ (p : Listing). slice_get p.clauses (c.args.k - 1)) c.requires.same ∙ c.clause-clause.ensures.there)).natural

pub note_on-requires-clause-old_width : goal.note_on-requires-clause-old_width
note_on-requires-clause-old_width g c =
    let k = c.clause-clause.result.now in
    let e = g.S.ClauseSystems.systems c.args.systems.now in
    let made = c.in_ok-system.ensures k (ap (λ (p : Listing). slice_get p.clauses (c.args.k - 1)) c.requires.same ∙ c.clause-clause.ensures.there) in
    (c.requires.old k c.clause-clause.ensures.there).width_is ∙ sym (columns_of e (rows_of c.args.sizes.now.rows) k c.in_ok-system.system made.of)

pub note_on-requires-clause-filled : goal.note_on-requires-clause-filled
note_on-requires-clause-filled g c =
    let k = c.clause-clause.result.now in
    let e = g.S.ClauseSystems.systems c.args.systems.now in
    let made = c.in_ok-system.ensures k (ap (λ (p : Listing). slice_get p.clauses (c.args.k - 1)) c.requires.same ∙ c.clause-clause.ensures.there) in
    subst (λ (m : ℕ). IsFilled m c.args.old.now.filled (g.D.Domain.listed c.args.old.now.of)) (sym (columns_of e (rows_of c.args.sizes.now.rows) k c.in_ok-system.system made.of)) (c.requires.old k c.clause-clause.ensures.there).known

pub returns : goal.returns
returns g c =
    let k = c.clause-clause.result.now in
    let e = g.S.ClauseSystems.systems c.args.systems.now in
    let rows = rows_of c.args.sizes.now.rows in
    let there = c.clause-clause.ensures.there in
    let s = c.in_ok-system.system in
    let made = c.in_ok-system.ensures k (ap (λ (p : Listing). slice_get p.clauses (c.args.k - 1)) c.requires.same ∙ there) in
    let of = columns_at e c.args.p.now _ c.requires.same c.program-program.ensures.lawful (c.args.k - 1) k there in
    let d = c.args.old.now.of in
    let width = g.D.Domain.width in
    let listed = g.D.Domain.listed in
    let speaks = g.D.Domain.speaks in
    ok_two (λ x. SaysImage speaks s (plain_rows x.image.value.list) x.image_weak) (λ x. IsStep width listed speaks s c.args.pass (listed d) (plain_rows x.image.value.list) c.args.old.now.filled x.stepped)
    (λ x. (k' : Clause) → slice_get c.args.p.now.clauses (c.args.k - 1) ≡ Some k' → IsNoted width listed speaks e c.args.pass rows k' c.args.k c.args.old.now.filled x)
    (λ x says step k' at.
    subst (λ (y : Clause). IsNoted width listed speaks e c.args.pass rows y c.args.k c.args.old.now.filled x) (one_element c.args.p.now.clauses (c.args.k - 1) k k' there at)
    (noted width listed speaks e c.args.pass rows k c.args.k s made of c.args.old.now.filled d (c.requires.old k there) x says step))
    c.note_on.result c.note_on.ensures.image c.note_on.ensures.step
