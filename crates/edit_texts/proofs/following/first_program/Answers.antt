use Rattle.std.proofs.Common.{◌≡◌, ◌∙◌, [], subst, sym, arith}
use Rattle.cert_structure.specs.Structure.{AreNamed}
use Rattle.clause_normal.specs.ChoiceNames.{HasOperations}
use Rattle.clause_normal.proofs.DefinitePrograms.{operations_added}
use Rattle.cti_terms.specs.Listing.{Listing}
use Rattle.kept_program.specs.ProgramParts.{ProgramParts}
use Rattle.edit_texts.specs.Following.{snapshot}
use Rattle.edit_texts.specs.Snapshot.{HasProgram}
use Rattle.edit_texts.proofs.Answered.{if_ok}
use Rattle.edit_texts.proofs.following.first_program.Goals as goal

pub returns-clause-program : goal.returns-clause-program
returns-clause-program c =
    let names = c.definite_program.new.names in
    let program = c.in_ok-program.program in
    if_ok c.new.result (λ (k : ProgramParts). k.program ≡ program) (λ (k : ProgramParts). HasProgram names (snapshot [] k))
    (λ k is. record {
      fit = record { each = tt; small = omega arith };
      definite = record { each = tt; few = omega arith };
      operations = subst HasOperations (sym c.in_ok-program.ensures.names) (operations_added c.args.names.now);
      program = is ∙ c.in_ok-program.ensures.program;
      named = subst (λ (p : Listing). AreNamed names p.preds) (sym is) c.in_ok-program.ensures.known;
    })
    c.new.ensures
