use Rattle.std.proofs.Common.{◌≡◌, ◌+◌, ◌++◌, map, drop}
use Rattle.cti_terms.specs.Tree.{Tree, all_nodes, trees}
use Rattle.prolog_terms.specs.declared.term.ReadTerm.{ReadTerm}
use Rattle.clause_variables.specs.Terms.{renumbered}
use Rattle.clause_variables.specs.TermViews.{plain_of}
use Rattle.clause_variables.proofs.copying.+copied.Given as goal

abbrev pub invariant-each : goal.invariant-each
invariant-each l =
    let at : ReadTerm → Tree = λ t. renumbered l.order (plain_of t) in
    record {
      terms : l.copies ++ map at (drop l.arg-index l.arg-items) ≡ map at l.arg-items;
      nodes : l.fn.left ≡ l.left + (1 + all_nodes (trees l.copies));
    }
