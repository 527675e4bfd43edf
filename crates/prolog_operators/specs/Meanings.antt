-- Private.
-- The operators of the code as those of the grammar.
use Rattle.std.specs.Prelude.{option_map}
use Rattle.std.specs.Ordering.{nat_cmp}
use Rattle.std.specs.BTreeMap.{get}
use Rattle.prolog_operators.specs.declared.operators.Infix.{Infix as CodeInfix}
use Rattle.prolog_operators.specs.declared.operators.Prefix.{Prefix as CodePrefix}
use Rattle.prolog_operators.specs.declared.operators.Ops.{Ops}
use Rattle.prolog_grammar.specs.Rules.{Infix, Prefix}
use Rattle.prolog_operators.specs.Table.{Table}

abbrev pub infix_of : CodeInfix → Infix
infix_of op = record { priority = op.priority; left = op.left; right = op.right }

abbrev pub prefix_of : CodePrefix → Prefix
prefix_of op = record { priority = op.priority; right = op.right }

-- the two meanings of each name
abbrev pub table_of : Ops → Table
table_of o = record { infixes = λ n. option_map infix_of (get nat_cmp o.infixes n); prefixes = λ n. option_map prefix_of (get nat_cmp o.prefixes n) }
