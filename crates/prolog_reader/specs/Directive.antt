-- To believe, for reading.
-- What a clause `:- op(P,T,N)` does to the operators.
--
-- P is an integer from 0 to 1200, T one of the atoms xfx, xfy, yfx, fx and fy, and N an atom or a list of atoms, none
-- of them a comma, a bar, [] or {}. An N that is [] is the empty list. Where P, T or N is not so, the clause is
-- refused.
--
-- To believe: all of this file.
-- Source: ISO/IEC 13211-1:1995, 8.14.3 (op/3), in this project's profile.
use Rattle.std.specs.Prelude.{ℕ, ◌==◌, ◌||◌, Bool, List, [], ◌∷◌, Option, Some, None, option_map, if◌then◌else◌}
use Rattle.prolog_grammar.specs.Placed.{Tree, tree, Shape, Var, Int, Fun, Trees, no_trees, more_trees}
use Rattle.prolog_operators.specs.declared.kind.OpKind.{OpKind}
use Rattle.prolog_operators.specs.declared.kind.OpKind.TheVariants.{Xfx, Xfy, Yfx, Fx, Fy}
use Rattle.prolog_terms.specs.Clauses.{list_of}
use Rattle.prolog_operators.specs.Table.{Table, priority_in, with_operators}
use Rattle.prolog_reader.specs.Words.{Words}

-- what a clause does: it leaves the operators as they are or changes them, or it is refused
pub data Effect : Type 0 where
  sets : Table → Effect
  refuses : Effect

-- the name of a term with its arguments
abbrev pub parts_of : Tree → Option (ℕ × List Tree)
parts_of (tree at (Var v)) = None
parts_of (tree at (Int i)) = None
parts_of (tree at (Fun n ts)) = Some (n, list_of ts)

-- the name of an atom
abbrev pub atom_of : Option (ℕ × List Tree) → Option ℕ
atom_of (Some (n, [])) = Some n
atom_of _ = None

-- the priority that a term is
abbrev pub priority_of : Tree → Option ℕ
priority_of (tree at (Var v)) = None
priority_of (tree at (Int i)) = priority_in i
priority_of (tree at (Fun n ts)) = None

module _ (words : Words) where
  -- the kind of operators with that name
  abbrev pub kind_named : ℕ → Option OpKind
  kind_named n =
      if n == words.xfx then Some Xfx else if n == words.xfy then Some Xfy else if n == words.yfx then Some Yfx
      else if n == words.fx then Some Fx else if n == words.fy then Some Fy else None

  abbrev pub kind_by : Option ℕ → Option OpKind
  kind_by (Some n) = kind_named n
  kind_by None = None

  -- the kind that an atom is
  abbrev pub kind_of : Tree → Option OpKind
  kind_of t = kind_by (atom_of (parts_of t))

  -- a name that is never an operator: the comma, the bar, [] and {}
  abbrev pub is_barred : ℕ → Bool
  is_barred n = (n == words.known.comma) || (n == words.bar) || (n == words.known.nil) || (n == words.known.curly)

  abbrev pub operator_by : Option ℕ → Option ℕ
  operator_by (Some n) = if is_barred n then None else Some n
  operator_by None = None

  -- the operator that an atom is
  abbrev pub operator_of : Tree → Option ℕ
  operator_of t = operator_by (atom_of (parts_of t))

  -- one name in front of the others, if all are names
  abbrev pub in_front : Option ℕ → Option (List ℕ) → Option (List ℕ)
  in_front (Some n) (Some ns) = Some (n ∷ ns)
  in_front (Some n) None = None
  in_front None rest = None

  -- the names of a list: [], or a cell with an operator and the list after it
  abbrev mutual
    pub listed : Tree → Option (List ℕ)
    listed (tree at s) = listed_shape s

    pub listed_shape : Shape → Option (List ℕ)
    listed_shape (Var v) = None
    listed_shape (Int i) = None
    listed_shape (Fun n ts) = listed_parts n ts

    pub listed_parts : ℕ → Trees → Option (List ℕ)
    listed_parts n no_trees = if n == words.known.nil then Some [] else None
    listed_parts n (more_trees t ts) = if n == words.known.cell then listed_tail t ts else None

    -- after its operator a cell has one more argument
    pub listed_tail : Tree → Trees → Option (List ℕ)
    listed_tail t no_trees = None
    listed_tail t (more_trees u no_trees) = in_front (operator_of t) (listed u)
    listed_tail t (more_trees u (more_trees v us)) = None

  abbrev pub operators_by : Tree → Option ℕ → Option (List ℕ)
  operators_by t (Some n) = if n == words.known.nil then Some [] else option_map (λ m. m ∷ []) (operator_by (Some n))
  operators_by t None = listed t

  -- the names that a term is: one operator, or a list of them
  abbrev pub operators_of : Tree → Option (List ℕ)
  operators_of t = operators_by t (atom_of (parts_of t))

  -- what `op` does with these three
  abbrev pub effect_of : Table → Option ℕ → Option OpKind → Option (List ℕ) → Effect
  effect_of table (Some priority) (Some kind) (Some ns) = sets (with_operators table priority kind ns)
  effect_of table (Some priority) (Some kind) None = refuses
  effect_of table (Some priority) None ns = refuses
  effect_of table None kind ns = refuses

  abbrev pub directive_by : Table → Option (ℕ × List Tree) → Effect
  directive_by table (Some (n, p ∷ t ∷ ns ∷ [])) = if n == words.op then effect_of table (priority_of p) (kind_of t) (operators_of ns) else sets table
  directive_by table _ = sets table

  abbrev pub effect_by : Table → Option (ℕ × List Tree) → Effect
  effect_by table (Some (n, d ∷ [])) = if n == words.neck then directive_by table (parts_of d) else sets table
  effect_by table _ = sets table

  -- what a clause does
  abbrev pub effect : Table → Tree → Effect
  effect table t = effect_by table (parts_of t)
