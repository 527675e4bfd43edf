-- The head and the body of a clause stand within the text in which the clause stands.
use Rattle.std.proofs.Common.{ℕ, List, [], ◌∷◌}
use Rattle.std.specs.List.{AllByRecursion}
use Rattle.clause_normal.specs.Definite.{Parted, no_clause, fact, rule, named_parts, parted}
use Rattle.clause_normal.specs.Words.{neck_of}
use Rattle.clause_normal.specs.declared.words.Neck.{Neck}
use Rattle.clause_normal.specs.declared.words.Neck.TheVariants as neck
use Rattle.prolog_grammar.specs.Placed.{Tree, tree, Var, Int, Fun, Trees, no_trees, more_trees}
use Rattle.prolog_grammar.specs.Places.{IsPlaced, ArePlaced}
use Rattle.prolog_reader.specs.Names.{name_text}
use Rattle.prolog_terms.specs.Clauses.{arity, list_of}

module _ (size : ℕ) where
  abbrev pub PartsPlaced : Parted → Type 0
  PartsPlaced (no_clause k) = Unit {0}
  PartsPlaced (fact h) = IsPlaced size h
  PartsPlaced (rule h b) = IsPlaced size h × IsPlaced size b

  named_placed : (t : Tree) (k : Neck) (ts : List Tree) → IsPlaced size t → AllByRecursion (IsPlaced size) ts → PartsPlaced (named_parts t k ts)
  named_placed t neck.Directive [] h all = h
  named_placed t neck.Directive (d ∷ []) h all = tt
  named_placed t neck.Directive (d ∷ e ∷ ts) h all = h
  named_placed t neck.Query ts h all = tt
  named_placed t neck.Implies [] h all = h
  named_placed t neck.Implies (a ∷ []) h all = h
  named_placed t neck.Implies (a ∷ b ∷ []) h all = (all.0, all.1.0)
  named_placed t neck.Implies (a ∷ b ∷ c ∷ ts) h all = h
  named_placed t neck.Grammar ts h all = tt
  named_placed t neck.Fact ts h all = h

  pub each_placed : (ts : Trees) → ArePlaced size ts → AllByRecursion (IsPlaced size) (list_of ts)
  each_placed no_trees h = tt
  each_placed (more_trees t ts) h = (h.0, each_placed ts h.1)

  pub parted_placed : (names : List (List ℕ)) (t : Tree) → IsPlaced size t → PartsPlaced (parted names t)
  parted_placed names (tree at (Var x)) h = h
  parted_placed names (tree at (Int n)) h = h
  parted_placed names (tree at (Fun f ts)) h = named_placed (tree at (Fun f ts)) (neck_of (name_text names f) (arity ts)) (list_of ts) h (each_placed ts h.1)
