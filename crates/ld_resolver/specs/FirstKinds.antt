-- Private.
-- The kinds of first arguments. Nothing here has to be believed.
use Rattle.std.specs.Prelude.{◌≡◌, List, ◌∷◌}
use Rattle.cti_terms.specs.Tree.{Tree, Trees, arity}
use Rattle.ld_resolver.specs.declared.first_kind.FirstKind.{FirstKind}
use Rattle.ld_resolver.specs.declared.first_kind.FirstKind.TheVariants.{Any, Integer, Compound}

-- the first of these arguments is of this kind, or the kind rules nothing out
abbrev pub HasKind : List Tree → FirstKind → Type 0
HasKind args Any = Unit {0}
HasKind args (Integer n) = (others : List Tree) × (args ≡ Tree.Integer n ∷ others)
HasKind args (Compound f count) = (ts : Trees) × (others : List Tree) × (args ≡ Tree.Compound f.0 ts ∷ others) × (arity ts ≡ count)
