use Rattle.std.proofs.Common.{ap, ◌∙◌}
use Rattle.prolog_operators.specs.Table.{clause_operators, comparison_operators, arithmetic_operators}
use Rattle.prolog_operators.proofs.NameLemmas.{extends_trans}
use Rattle.std.proofs.Common.{◌++◌}
use Rattle.prolog_operators.specs.Texts.{clause_texts, comparison_texts, arithmetic_texts}
use Rattle.prolog_operators.proofs.TextsLemmas.{names_then}
use Rattle.prolog_operators.proofs.operators.Ops.standard.Goals as goal

pub returns-clause-table : goal.returns-clause-table
returns-clause-table c = λ later ext.
    let x2 = extends_trans c.set_comparison_operators.new.names c.set_arithmetic_operators.new.names later c.in_ok-set_arithmetic_operators.ensures.kept ext in
    let x1 = extends_trans c.set_clause_operators.new.names c.set_comparison_operators.new.names later c.in_ok-set_comparison_operators.ensures.kept x2 in
    c.in_ok-set_arithmetic_operators.ensures.ok later ext
    ∙ ap (arithmetic_operators later) (c.in_ok-set_comparison_operators.ensures.ok later x2 ∙ ap (comparison_operators later) (c.in_ok-set_clause_operators.ensures.ok later x1 ∙ ap (clause_operators later) c.new-ops.ensures))

pub returns-clause-added : goal.returns-clause-added
returns-clause-added c = names_then c.args.names.now c.set_comparison_operators.new.names c.set_arithmetic_operators.new.names ((clause_texts) ++ (comparison_texts)) (arithmetic_texts) (names_then c.args.names.now c.set_clause_operators.new.names c.set_comparison_operators.new.names (clause_texts) (comparison_texts) (c.in_ok-set_clause_operators.ensures.added) c.in_ok-set_comparison_operators.ensures.added) c.in_ok-set_arithmetic_operators.ensures.added
