use Rattle.std.proofs.Common.{◌∙◌, sym, subst, refl, List, Bool, true, false, Some}
use Rattle.polyhedra.specs.Making.{SaysJoin, IsJoinOf, arity_of}
use Rattle.linear_rows.specs.declared.multipliers.Multipliers.{Multipliers}
use Rattle.termination_model.specs.declared.how.How.TheVariants.{Join}
use Rattle.size_chains.specs.declared.filled.Filled.TheVariants.{Inhabited}
use Rattle.size_chains.specs.Stepping.{IsStep}
use Rattle.size_chains.proofs.Branches.{join_licence, join_some}
use Rattle.size_chains.proofs.stepping.joined.Goals as goal

pub kept_weakly-requires-clause-licence : goal.kept_weakly-requires-clause-licence
kept_weakly-requires-clause-licence g c =
    let n = arity_of c.args.system.now in
    let old = g.D.Domain.listed c.args.old.now in
    let image = g.D.Domain.listed c.args.image.now in
    let new = g.D.Domain.listed c.in_ok-join.join.value in
    let kept = c.args.kept in
    let says = subst (λ (b : Bool). SaysJoin g.D.Domain.speaks (g.D.Domain.width c.args.old.now) old image new b) c.if-join.true c.in_ok-join.ensures.rows in
    let join = subst (λ k. SaysJoin g.D.Domain.speaks k old image new true) c.requires.old_width says in
    join_licence g.D.Domain.width g.D.Domain.listed g.D.Domain.speaks c.args.system.now c.requires.system c.args.pass old image
    (g.D.Domain.listed kept.value) new kept.failed kept.weak kept.by c.requires.kept c.requires.failed c.requires.early join

pub returns : goal.returns
returns g c =
    let n = arity_of c.args.system.now in
    let old = g.D.Domain.listed c.args.old.now in
    let image = g.D.Domain.listed c.args.image.now in
    let new = g.D.Domain.listed c.in_ok-join.join.value in
    let kept = c.args.kept in
    let says = subst (λ (b : Bool). SaysJoin g.D.Domain.speaks (g.D.Domain.width c.args.old.now) old image new b) c.if-join.false c.in_ok-join.ensures.rows in
    let join : IsJoinOf g.D.Domain.speaks n old image new = subst (λ k. IsJoinOf g.D.Domain.speaks k old image new) c.requires.old_width says in
    let step = join_some g.D.Domain.width g.D.Domain.listed g.D.Domain.speaks c.args.system.now c.requires.system c.args.pass old image c.requires.image c.requires.old (g.D.Domain.listed kept.value) kept.by
    kept.failed kept.weak c.requires.kept c.requires.failed c.requires.early c.in_ok-join.join.value new refl (c.in_ok-join.ensures.arity ∙ c.requires.old_width) join c.requires.on_image in
    subst (λ (b : List Multipliers). IsStep g.D.Domain.width g.D.Domain.listed g.D.Domain.speaks c.args.system.now c.args.pass old image Inhabited (record { how = Join; weak = false; next = Some c.in_ok-join.join.value; filled = Inhabited; by = b })) (sym c.new.ensures) step
