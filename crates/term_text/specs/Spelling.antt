-- To believe, for the command.
-- The spelling of terms, without spaces.
--
-- A name is spelled as `spelling` of prolog_tokens says, an integer in decimal, and variable 0 is `_1`. A list stands
-- in brackets: its cell is the name `.` with two arguments, its end is the name `[]`, and another tail stands after a
-- bar. Any other term is its name with its arguments in parentheses, where it has any.
--
-- To believe: all of this file.
use Rattle.std.specs.Prelude.{ℕ, suc, ◌==◌, Bool, false, List, [], ◌∷◌, ◌++◌, if◌then◌else◌, slice_index_or, codes, decimal, flat_map}
use Rattle.std.specs.Fmt.{signed_decimal}
use Rattle.cti_terms.specs.Tree.{Tree, Trees, Variable, Integer, Compound, End, More}
use Rattle.prolog_tokens.specs.Spelling.{spelling, is_empty_list}

-- the text of a term: by itself, and as the tail of a list, with the bracket at the list's end
pub record Spelled : Type 0 where
  pub alone : List ℕ
  pub as_tail : List ℕ

-- what is not a list
abbrev pub no_list : List ℕ → Spelled
no_list text = record { alone = text; as_tail = codes "|" ++ text ++ codes "]" }

-- the empty list
abbrev pub empty_list : List ℕ → Spelled
empty_list text = record { alone = text; as_tail = codes "]" }

-- a list by its first element and its tail
abbrev pub cell : Spelled → Spelled → Spelled
cell head tail = record { alone = codes "[" ++ head.alone ++ tail.as_tail; as_tail = codes "," ++ head.alone ++ tail.as_tail }

-- the arguments after the first, and the end of all
abbrev pub other_arguments : List Spelled → List ℕ
other_arguments others = flat_map (λ a. codes "," ++ a.alone) others ++ codes ")"

-- a name with its arguments in parentheses
abbrev pub functional : List ℕ → Spelled → List Spelled → Spelled
functional name first others = no_list (spelling name ++ codes "(" ++ first.alone ++ other_arguments others)

-- the name of a list's cell
abbrev pub is_dot : List ℕ → Bool
is_dot [] = false
is_dot (b ∷ []) = b == 46
is_dot (b ∷ c ∷ bs) = false

-- a name with these arguments
abbrev pub compound : List ℕ → List Spelled → Spelled
compound name [] = if is_empty_list name then empty_list (spelling name) else no_list (spelling name)
compound name (a ∷ []) = functional name a []
compound name (a ∷ b ∷ []) = if is_dot name then cell a b else functional name a (b ∷ [])
compound name (a ∷ b ∷ c ∷ more) = functional name a (b ∷ c ∷ more)

-- the text of the name with this number; past the end there is none
abbrev pub name_of : List (List ℕ) → ℕ → List ℕ
name_of names f = slice_index_or names f []

abbrev mutual
  -- a term by these names
  pub spelled : List (List ℕ) → Tree → Spelled
  spelled names (Variable x) = no_list (codes "_" ++ decimal (suc x))
  spelled names (Integer n) = no_list (signed_decimal n)
  spelled names (Compound f ts) = compound (name_of names f) (all_spelled names ts)

  -- arguments in order
  pub all_spelled : List (List ℕ) → Trees → List Spelled
  all_spelled names End = []
  all_spelled names (More t ts) = spelled names t ∷ all_spelled names ts

-- the text of a term
abbrev pub term_text : List (List ℕ) → Tree → List ℕ
term_text names t = (spelled names t).alone
