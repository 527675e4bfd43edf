use Rattle.std.proofs.Common.{◌≡◌, ◌<◌, ◌∙◌, ℕ, List, map, ap, sym, subst, append-nil}
use Rattle.std.specs.List.{AllByRecursion}
use Rattle.prolog_terms.specs.declared.term.ReadTerm.{ReadTerm}
use Rattle.prolog_terms.specs.Terms.{tree_of}
use Rattle.clause_variables.specs.Terms.{occurrences, list_variables}
use Rattle.clause_variables.specs.TermViews.{plain_of}
use Rattle.clause_variables.proofs.TermLemmas.{below_occurrences}
use Rattle.clause_variables.proofs.variables.term_variables.Goals as goal

pub returns-clause-below : goal.returns-clause-below
returns-clause-below c = λ vars h.
    let value : c.in_ok-variables.variables.items ≡ occurrences (tree_of c.args.term.now) =
    c.in_ok-variables.ensures ∙ ap (λ (ts : List ReadTerm). list_variables (map plain_of ts)) c.from_ref.ensures.value ∙ append-nil (occurrences (tree_of c.args.term.now)) in
    let P : List ℕ → Type 0 = λ xs. AllByRecursion (λ (x : ℕ). x < vars) xs in
    subst P (sym value) (below_occurrences vars (tree_of c.args.term.now) h)
