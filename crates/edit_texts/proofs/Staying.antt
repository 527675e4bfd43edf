-- The program of clauses stays theirs where names are added.
use Rattle.std.proofs.Common.{◌∙◌, ℕ, ◌<◌, ◌≤◌, List, [], ◌∷◌, length, ap, sym, arith, length-append}
use Rattle.std.specs.List.{AllByRecursion}
use Rattle.cti_terms.specs.declared.predicates.Pred.{Pred}
use Rattle.prolog_reader.specs.Names.{Extends}
use Rattle.clause_normal.proofs.DefiniteLater.{definite_stay}
use Rattle.clause_normal.proofs.DefinitePrograms.{operations_kept, program_stays as program_same}
use Rattle.edit_texts.specs.Snapshot.{Snapshot, HasProgram}
use Rattle.edit_texts.proofs.Clauses.{fit_more}

-- later names are as many, or more
pub longer : (names later : List (List ℕ)) → Extends names later → length names ≤ length later
longer names later ext = omega (arith, ap length ext.1, length-append names ext.0)

named_stay : (m n : ℕ) → m ≤ n → (qs : List Pred) → AllByRecursion (λ (q : Pred). q.name.0 < m) qs → AllByRecursion (λ (q : Pred). q.name.0 < n) qs
named_stay m n le [] h = tt
named_stay m n le (q ∷ qs) h = (omega (arith, le, h.0), named_stay m n le qs h.1)

pub program_stays : (names later : List (List ℕ)) (s : Snapshot) → Extends names later → HasProgram names s → HasProgram later s
program_stays names later s ext h = record {
  fit = fit_more (length names) (length later) (longer names later ext) s.clauses h.fit;
  definite = definite_stay names later ext s.clauses h.fit.each h.definite;
  operations = operations_kept names later ext h.operations;
  program = h.program ∙ sym (program_same names later ext s.clauses h.operations h.fit.each h.definite);
  named = named_stay (length names) (length later) (longer names later ext) s.kept.program.preds h.named;
}
