use Rattle.std.proofs.Common.{◌≡◌, List, Some, map, slice_get, suc, subst, sym}
use Rattle.cert_structure.specs.Order.{pred_text}
use Rattle.certificate.specs.declared.fact.Fact.TheVariants.{Terminates}
use Rattle.precond_fixpoint.specs.Solving.{arguments_of}
use Rattle.precond_fixpoint.specs.declared.mode.Mode.{Mode}
use Rattle.kept_program.specs.Kept.{findings_in}
use Rattle.kept_program.specs.ProgramParts.{ProgramParts, certificate_facts}
use Rattle.kept_program.proofs.kept_program.KeptProgram.modes.Goals as goal

pub returns : goal.returns
returns c = λ names.
    let s = c.self.inside in
    let q = c.args.p.0 in
    let own = c.as_slice.result.now in
    let got : slice_get s.kept.sets.modes q ≡ Some own = subst (λ (ms : List Mode). slice_get s.kept.sets.modes q ≡ Some ms) (sym c.as_slice.ensures) c.get.ensures in
    subst (λ (k : ProgramParts). slice_get (certificate_facts names k) (suc q) ≡ Some (Terminates (pred_text k.program names q) (map arguments_of own))) c.self.view_is
    (c.solutions_print_modes.ensures s.program names s.components (findings_in s.table s.kept) q own got)
