-- Private.
-- Terms of the program with their variables raised: how the resolver keeps every term, so that none is copied.
use Rattle.std.specs.Prelude.{ℕ, ◌+◌}
use Rattle.cti_terms.specs.Tree.{Tree, Variable, instance}
use Rattle.cti_terms.specs.Spell.{tree_of}
use Rattle.unifier.specs.declared.raised_term.RaisedTerm.{RaisedTerm}

-- the variable that is greater by n
abbrev pub raise : ℕ → ℕ → Tree
raise n x = Variable (x + n)

-- the tree of a raised term
abbrev pub raised_tree : RaisedTerm → Tree
raised_tree r = instance (raise r.base) (tree_of r.term.now)
