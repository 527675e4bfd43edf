use Rattle.std.proofs.Common.{◌∙◌, Some, ap, refl, subst, sym}
use Rattle.carried_mappings.specs.FoundMappings.{IsCarriedAt, IsFoundAt, IsKept}
use Rattle.carried_mappings.proofs.Resolved.{if_ok_is, if_ok_to, nothing_kept}
use Rattle.termination_model.specs.sizes.Sizes.{rows_of}
use Rattle.carried_mappings.proofs.resolving.MappingSources.resolve.Goals as goal

pub returns-then-not-recursive-clause-kept : goal.returns-then-not-recursive-clause-kept
returns-then-not-recursive-clause-kept g c =
    let s = c.args.self.now in
    let no_cycle = c.recursive.ensures ∙ ap Some c.if-not-recursive.true in
    subst (IsKept s c.args.c) (sym c.nothing.ensures) (nothing_kept s c.requires.sources c.preds-old.ensures.sound c.preds-new.ensures.sound c.args.c no_cycle)

pub returns-in-Some-clause-found : goal.returns-in-Some-clause-found
returns-in-Some-clause-found g c =
    let s = c.args.self.now in
    let e = s.sources.edit.now in
    if_ok_to (IsCarriedAt s c.args.c) (IsFoundAt (g.N.Norm.expression c.args.norm.now) e.after.now e.components.now (rows_of s.sizes.now.rows) c.args.c)
    (λ f is. record {
      recursive = λ so. is (g.N.Norm.expression c.args.norm.now) c.requires.found c.requires.kept;
      other = λ not_so. let yes = c.recursive.ensures in let so = c.if-not-recursive.false in cc;
    })
    c.carried.result c.carried.ensures.carried

pub returns-in-None-clause-kept : goal.returns-in-None-clause-kept
returns-in-None-clause-kept g c =
    if_ok_is (IsKept c.args.self.now c.args.c) (λ f d x stands found. absurd (c.in-None.ensures.none refl d stands)) c.searched.result
