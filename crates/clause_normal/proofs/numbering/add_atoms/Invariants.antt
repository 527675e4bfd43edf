use Rattle.std.proofs.Common.{◌≡◌, ◌<◌, ◌≤◌, ◌+◌, ◌++◌, ℕ, List, length, map, drop, slice_get, sum_by}
use Rattle.std.specs.List.{AllByRecursion}
use Rattle.cti_terms.specs.Listing.{atom_nodes}
use Rattle.cti_terms.specs.declared.predicates.Pred.{Pred}
use Rattle.prolog_reader.specs.Names.{Extends}
use Rattle.prolog_reader.specs.Naming.{with_names}
use Rattle.clause_normal.specs.ChoiceNames.{call_texts}
use Rattle.clause_normal.specs.Numbering.{arithmetic_of, atoms_after, with_calls, HasArity}
use Rattle.clause_normal.specs.RuleViews.{call_of, IsNamed}
use Rattle.clause_normal.specs.declared.rule.Call.{Call}
use Rattle.clause_normal.proofs.numbering.add_atoms.Given as goal

abbrev pub invariant-calls : goal.invariant-calls
invariant-calls l =
    let left = map call_of (drop l.call-index l.calls) in
    record {
      kept : Extends l.fn.names l.names;
      atoms : (later : List (List ℕ)) → Extends l.names later → l.atoms ++ atoms_after later l.order l.program.preds left ≡ atoms_after later l.order l.fn.program.preds (map call_of l.calls);
      preds : (later : List (List ℕ)) → Extends l.names later → with_calls later l.program.preds left ≡ with_calls later l.fn.program.preds (map call_of l.calls);
      clauses : l.program.clauses ≡ l.fn.program.clauses;
      arithmetic : (later : List (List ℕ)) → Extends l.names later → l.fn.program.arithmetic ≡ arithmetic_of later l.fn.program.preds → l.program.arithmetic ≡ arithmetic_of later l.program.preds;
      nodes : l.fn.left ≡ l.left + sum_by atom_nodes l.atoms;
      added : with_names l.names (call_texts left) ≡ with_names l.fn.names (call_texts (map call_of l.calls));
      named : AllByRecursion (λ (c : Call). IsNamed c.functor) l.calls → l.names ≡ l.fn.names;
      count : length l.atoms ≡ l.call-index;
      more : length l.fn.program.preds ≤ length l.program.preds;
      still : (i : ℕ) → i < length l.fn.program.preds → slice_get l.program.preds i ≡ slice_get l.fn.program.preds i;
      arity : AllByRecursion (HasArity l.program.preds) l.atoms;
      known : AllByRecursion (λ (p : Pred). p.name.0 < length l.fn.names) l.fn.program.preds → AllByRecursion (λ (p : Pred). p.name.0 < length l.names) l.program.preds;
    }
