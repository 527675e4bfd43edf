use Rattle.std.proofs.Common.{subst, sym}
use Rattle.cert_structure.specs.Structure.{AreNamed}
use Rattle.report.specs.Solution.{IsExactCertificate}
use Rattle.kept_program.specs.Kept.{findings_in}
use Rattle.kept_program.specs.ProgramParts.{ProgramParts, certificate_facts}
use Rattle.kept_program.proofs.KeptLaws.{solution_kept}
use Rattle.kept_program.proofs.kept_program.KeptProgram.certified.Goals as goal

pub returns : goal.returns
returns c =
    let s = c.self.inside in
    let names = c.args.names.now in
    let h = c.self.invariant in
    let sound = c.clauses-program.ensures.sound in
    let named = subst (λ (k : ProgramParts). AreNamed names k.program.preds) (sym c.self.view_is) c.requires in
    let solution = solution_kept s.program s.components s.table s.kept sound h.components h.kept in
    subst (λ (k : ProgramParts). IsExactCertificate k.program names (certificate_facts names k)) c.self.view_is
    (c.solutions_are_exact.ensures s.program names s.components (findings_in s.table s.kept) sound h.components named c.count-count.ensures.distinct solution)
