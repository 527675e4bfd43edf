use Rattle.std.proofs.Common.{◌∙◌, sym, subst, List, ℤ}
use Rattle.linear_rows.specs.Plain.{plain_row}
use Rattle.simplex.specs.declared.held.Held.{Held}
use Rattle.linear_rows.specs.Showing.{Shows}
use Rattle.simplex.specs.Telling.{Tells}
use Rattle.polyhedra.specs.Making.{arity_of}
use Rattle.size_chains.specs.declared.filled.Filled.{Filled}
use Rattle.size_chains.specs.Filling.{IsFilled}
use Rattle.size_chains.proofs.Bottoms.{bottom_width}
use Rattle.size_chains.proofs.Kept.{shows_empty}
use Rattle.size_chains.proofs.Branches.{bottom_empty}
use Rattle.size_chains.proofs.stepping.inhabited.Goals as goal

pub begun-requires-clause-empty : goal.begun-requires-clause-empty
begun-requires-clause-empty g c =
    bottom_empty g.D.Domain.width g.D.Domain.listed g.D.Domain.speaks c.args.system.now c.requires.system c.args.pass (g.D.Domain.listed c.args.old.now) (g.D.Domain.listed c.args.image)
    (subst (λ (f : Filled). IsFilled (arity_of c.args.system.now) f (g.D.Domain.listed c.args.old.now)) c.in-Bottom.is c.requires.filled)

pub holds-requires : goal.holds-requires
holds-requires g c = bottom_width c.args.bottom.now (arity_of c.args.system.now) c.requires.bottom ∙ sym c.requires.old_width

pub begun-requires-in-Yes-clause-empty : goal.begun-requires-in-Yes-clause-empty
begun-requires-in-Yes-clause-empty g c =
    let n = arity_of c.args.system.now in
    let old = g.D.Domain.listed c.args.old.now in
    let told = subst (λ (h : Held). Tells (g.D.Domain.width c.args.old.now) old (plain_row c.args.bottom.now) h) c.in-Yes.is c.in_ok-holds-in-Unknown.ensures in
    shows_empty n old c.in-Yes.field-0 (subst (λ (r : List ℤ). Shows old r c.in-Yes.field-0) c.requires.bottom told)
