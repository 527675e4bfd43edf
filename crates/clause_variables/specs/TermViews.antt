-- Private.
-- Terms and arguments of the code as those of the definitions. Nothing here has to be believed.
use Rattle.std.specs.Prelude.{List, map}
use Rattle.cti_terms.specs.Tree.{Tree as Term, Variable}
use Rattle.prolog_terms.specs.declared.term.ReadTerm.{ReadTerm}
use Rattle.prolog_terms.specs.Terms.{tree_of}
use Rattle.clause_variables.specs.declared.args.Args.{Args}
use Rattle.clause_variables.specs.declared.args.Args.TheVariants as args
use Rattle.clause_variables.specs.Terms.{plain}

-- a term of the code without its places
abbrev pub plain_of : ReadTerm → Term
plain_of t = plain (tree_of t)

abbrev pub args_of : Args → List Term
args_of (args.Terms ts) = map plain_of ts.now
args_of (args.Variables xs) = map Variable xs.items
