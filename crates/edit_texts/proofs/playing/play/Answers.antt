use Rattle.std.proofs.Common.{List, length, ap, arith, subst, sym}
use Rattle.clause_normal.specs.Numbering.{operation_texts}
use Rattle.prolog_reader.specs.Fit.{AreFit}
use Rattle.prolog_terms.specs.Clauses.{Clause}
use Rattle.edit_texts.proofs.Clauses.{fit_more}
use Rattle.edit_texts.proofs.PlayLemmas.{names_few}
use Rattle.edit_texts.proofs.Staying.{longer}
use Rattle.edit_texts.proofs.playing.play.Goals as goal

pub play_all-requires-clause-fit : goal.play_all-requires-clause-fit
play_all-requires-clause-fit c =
    let names = c.args.names.now in
    let later = c.first_program.new.names in
    let le = longer names later c.in_ok-kept.ensures.kept in
    subst (λ (cs : List Clause). AreFit (length later) cs) (sym c.into_vec.ensures) (fit_more (length names) (length later) le c.args.edits c.requires.fit)

pub play_all-requires-clause-room : goal.play_all-requires-clause-room
play_all-requires-clause-room c = omega (arith, c.requires.room, ap length c.in_ok-kept.ensures.names, names_few c.args.names.now operation_texts)
