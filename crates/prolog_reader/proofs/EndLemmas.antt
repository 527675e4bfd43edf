-- The end of the text within a clause.
use Rattle.std.proofs.Common.{◌≡◌, ℕ, Bool, true, false, List, [], ◌∷◌, length, None, Err, refl, sym, ap, ◌∙◌, subst, arith}
use Rattle.prolog_grammar.specs.Fault.{unexpected}
use Rattle.prolog_grammar.specs.Token.{End}
use Rattle.prolog_grammar.specs.Machine.{State}
use Rattle.prolog_grammar.specs.Placed.{Part, part_tree}
use Rattle.prolog_grammar.specs.Walk.{go_on, finished, walk_step, walked, walk}
use Rattle.prolog_reader.specs.declared.clause_reading.ClauseReader.{ClauseReader}
use Rattle.prolog_reader.specs.declared.clause_reading.Found.{Found}
use Rattle.prolog_reader.specs.declared.clause_reading.Found.TheVariants as found
use Rattle.prolog_reader.specs.declared.fault.ReadKind.TheVariants.{Unexpected}
use Rattle.term_parser.specs.declared.part.Part.{Part as CodePart}
use Rattle.term_parser.specs.declared.state.State.{State as CodeState}
use Rattle.term_parser.specs.declared.state.Refusal.{Refusal}
use Rattle.term_parser.specs.declared.state.Refusal.TheVariants as refusal
use Rattle.prolog_terms.specs.Clauses.{Clause}
use Rattle.prolog_reader.specs.FoundFit.{IsClauseFit}
use Rattle.term_parser.specs.Parsing.{rules, frames}
use Rattle.prolog_reader.specs.Progress.{text_of, table, known, seen, IsClause, IsEnd, end_kind}
use Rattle.prolog_reader.specs.Scan.{Closes}
use Rattle.prolog_terms.specs.Terms.{tree_of, clause_of}
use Rattle.term_parser.specs.Views.{part_view, state_of, refusal_of}
use Rattle.prolog_reader.proofs.FitLemmas.{next_fine, next_within, clause_fit}
use Rattle.prolog_reader.proofs.RunLemmas.{part_tree_view, clause_by, closes_none, closes_step}

refused_closes : (why : Refusal) (vars at : ℕ) → Closes (walked (refusal_of why) (λ s'. Err (unexpected [])) (End ∷ []) []) vars at (found.Refused (end_kind why) at)
refused_closes refusal.Unexpected vars at = (refl, refl)
refused_closes refusal.NextUnexpected vars at = (refl, refl)
refused_closes refusal.Deep vars at = (refl, refl)

module _ (s : CodeState) (r : ClauseReader) where
  abbrev at : State Part
  at = state_of s (frames r.parser)

  -- no clause ends there but a query
  pub end_none : r.is_query ≡ false → IsEnd s r (found.Refused Unexpected (length (text_of r)))
  end_none h = record { closes = closes_none (rules r.parser) at r.is_query (seen r).count (length (text_of r)) h; fit = λ count before after within fine small. tt }

  -- a query's end is refused
  pub end_refused : (why : Refusal) → r.is_query ≡ true → refusal_of why ≡ walk_step 1000 (rules r.parser) at End false → IsEnd s r (found.Refused (end_kind why) (length (text_of r)))
  end_refused why h moves = record {
    closes = closes_step (rules r.parser) at r.is_query (seen r).count (length (text_of r)) (refusal_of why) _ h moves (refused_closes why (seen r).count (length (text_of r)));
    fit = λ count before after within fine small. tt;
  }

  -- the query is not over
  pub end_within : (m : State Part) → r.is_query ≡ true → go_on m ≡ walk_step 1000 (rules r.parser) at End false → IsEnd s r (found.Refused Unexpected (length (text_of r)))
  end_within m h moves = record {
    closes = closes_step (rules r.parser) at r.is_query (seen r).count (length (text_of r)) (go_on m) _ h moves (refl, refl);
    fit = λ count before after within fine small. tt;
  }

  -- the query is whole
  pub end_whole : (part : CodePart) (f : Found) → r.is_query ≡ true → finished (part_view part) ≡ walk_step 1000 (rules r.parser) at End false → IsClause r part f → IsEnd s r f
  end_whole part (found.Refused kind place) h moves is = absurd is
  end_whole part (found.Clause c) h moves is =
      let view = part_tree_view (tree_of part.term) part.depth in
      let whole = clause_by (clause_of c) (part_tree (part_view part)) (seen r).count (ap tree_of is.0 ∙ sym view) is.1 in
      record {
        closes = closes_step (rules r.parser) at r.is_query (seen r).count (length (text_of r)) (finished (part_view part)) _ h moves whole;
        fit = λ count before after within fine small.
            let nodes = next_within count (seen r).count (table r) (known r) at End false (finished (part_view part)) within fine moves in
            subst (λ (x : Clause). IsClauseFit count before after x) (sym whole)
            (clause_fit count (seen r).count before after (part_view part) (part_tree (part_view part)) refl
            (next_fine count (seen r).count (table r) (known r) at End false (finished (part_view part)) within fine tt moves) (omega (arith, small, nodes)));
      }
