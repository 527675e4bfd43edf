use Rattle.std.proofs.Common.{◌∙◌, ap, sym, subst}
use Rattle.cti_terms.specs.Arithmetic.{Arithmetic, kind_of}
use Rattle.cti_terms.specs.Listing.{IsClause}
use Rattle.cti_terms.specs.declared.clauses.Clause.{Clause}
use Rattle.clause_normal.proofs.KindLemmas.{equality_none}
use Rattle.clause_normal.proofs.NumberingLemmas.{equality_is_clause}
use Rattle.clause_normal.proofs.text_program.add_equality.Goals as goal

pub add_clause-requires-clause-ordinary : goal.add_clause-requires-clause-ordinary
add_clause-requires-clause-ordinary c =
    let ar = c.args.program.now.arithmetic in
    let q = c.in-Some.pred.0 in
    ap (λ (k : Clause). kind_of ar k.head.pred.0) c.in_ok-clause.ensures ∙ ap (λ (ar : Arithmetic). kind_of ar q) c.requires.arithmetic
    ∙ equality_none c.args.names.now c.args.program.now.preds q (sym c.in-Some.ensures)

pub add_clause-requires-clause-sound : goal.add_clause-requires-clause-sound
add_clause-requires-clause-sound c =
    let preds = c.args.program.now.preds in
    subst (λ (k : Clause). IsClause preds k) (sym c.in_ok-clause.ensures) (equality_is_clause c.args.names.now preds c.in-Some.pred.0 (sym c.in-Some.ensures))
