use Rattle.std.proofs.Common.{◌≡◌, ◌+◌, ◌++◌, ℕ, map, drop, nat_eq, sum_by}
use Rattle.std.specs.List.{position_or_len}
use Rattle.cti_terms.specs.Tree.{Tree, Variable, nodes_of}
use Rattle.prolog_terms.specs.declared.term.ReadTerm.{ReadTerm}
use Rattle.clause_variables.specs.Terms.{renumbered}
use Rattle.clause_variables.specs.TermViews.{plain_of}
use Rattle.clause_variables.proofs.copying.copied_args.Given as goal

abbrev pub invariant-terms : goal.invariant-terms
invariant-terms l =
    let at : ReadTerm → Tree = λ t. renumbered l.order (plain_of t) in
    record { terms : l.copies ++ map at (drop l.term-index l.term-items) ≡ map at l.term-items; nodes : l.fn.left ≡ l.left + sum_by nodes_of l.copies }

abbrev pub invariant-variables : goal.invariant-variables
invariant-variables l =
    let at : ℕ → Tree = λ x. Variable (position_or_len (nat_eq x) l.order) in
    record { terms : l.copies ++ map at (drop l.x-index l.x-items) ≡ map at l.x-items; nodes : l.fn.left ≡ l.left + sum_by nodes_of l.copies }
