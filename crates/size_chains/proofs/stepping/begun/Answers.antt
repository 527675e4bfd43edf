use Rattle.std.proofs.Common.{◌<◌, ◌^◌, sym, subst, refl, arith, List, length, false, Some}
use Rattle.linear_rows.specs.declared.multipliers.Multipliers.{Multipliers}
use Rattle.termination_model.specs.declared.how.How.TheVariants.{First}
use Rattle.size_chains.specs.declared.filled.Filled.TheVariants.{Inhabited}
use Rattle.size_chains.specs.Stepping.{IsStep}
use Rattle.size_chains.proofs.Branches.{begins}
use Rattle.size_chains.proofs.stepping.begun.Goals as goal

pub returns : goal.returns
returns g c =
    let few : length (g.D.Domain.listed c.args.image) < 2 ^ 64 = omega (arith, c.count-few.ensures, c.count-few.type_inv) in
    let step = begins g.D.Domain.width g.D.Domain.listed g.D.Domain.speaks c.args.system.now c.requires.system c.args.pass (g.D.Domain.listed c.args.old.now) (g.D.Domain.listed c.args.image)
    c.args.filled c.requires.filled c.requires.empty c.requires.image c.args.image refl c.requires.image_width few in
    subst (λ (b : List Multipliers). IsStep g.D.Domain.width g.D.Domain.listed g.D.Domain.speaks c.args.system.now c.args.pass (g.D.Domain.listed c.args.old.now) (g.D.Domain.listed c.args.image) c.args.filled
    (record { how = First; weak = false; next = Some c.args.image; filled = Inhabited; by = b })) (sym c.new.ensures) step
