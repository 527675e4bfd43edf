-- To believe, for reading.
-- The names that mean something in a clause, by text and arity.
--
-- To believe: all of this file, the table of impure names in `src/words.rt`, and in cti_terms the kinds of built-in
-- predicates.
use Rattle.std.specs.Prelude.{ℕ, Bool, ◌&&◌, ◌||◌, ◌==◌, nat_eq, List, Option, Some, None, is_some, codes, take, if◌then◌else◌}
use Rattle.std.specs.List.{list_any}
use Rattle.std.specs.Cmp.Lexicographic.{pointwise}
use Rattle.cti_terms.specs.declared.builtins.Builtin.{Builtin}
use Rattle.cti_terms.specs.declared.builtins.Builtin.TheVariants.{Is, Equal, NotEqual, Less, AtMost, Greater, AtLeast}
use Rattle.prolog_reader.specs.Names.{name_text}
use Rattle.clause_normal.specs.declared.words.TheConstants.{IMPURE}
use Rattle.clause_normal.specs.declared.words.Connective.{Connective}
use Rattle.clause_normal.specs.declared.words.Connective.TheVariants.{And, Or, Truth, Other}
use Rattle.clause_normal.specs.declared.words.Neck.{Neck}
use Rattle.clause_normal.specs.declared.words.Neck.TheVariants.{Directive, Query, Implies, Grammar, Fact}

-- whether two texts are the same
abbrev pub same : List ℕ → List ℕ → Bool
same = pointwise nat_eq

-- whether the name of a number has this text
abbrev pub is_name : List (List ℕ) → ℕ → List ℕ → Bool
is_name names n text = same (name_text names n) text

-- whether a name of the given arity is in the table of impure names
unfoldable pub is_impure : List ℕ → ℕ → Bool
is_impure text arity = list_any (λ w. same w.0.now text && (w.1 == arity)) IMPURE

-- what the predicate of this name and two arguments does, if it is built in
unfoldable pub builtin_named : List ℕ → Option Builtin
builtin_named text =
    if same text (codes "is") then Some Is
    else if same text (codes "=:=") then Some Equal
    else if same text (codes "=\\=") then Some NotEqual
    else if same text (codes "<") then Some Less
    else if same text (codes "=<") then Some AtMost
    else if same text (codes ">") then Some Greater
    else if same text (codes ">=") then Some AtLeast
    else None

-- what the predicate of this name and arity does, if it is built in
abbrev pub builtin_of : List ℕ → ℕ → Option Builtin
builtin_of text arity = if arity == 2 then builtin_named text else None

-- whether a name is kept for the predicates of disjunctions
abbrev pub is_choice_name : List ℕ → Bool
is_choice_name text = same (take 3 text) (codes "$or")

-- whether no clause may have this head
abbrev pub is_reserved : List ℕ → ℕ → Bool
is_reserved text arity =
    is_impure text arity || is_some (builtin_of text arity) || is_choice_name text || (same text (codes "true") && (arity == 0)) || (same text (codes "fail") && (arity == 0)) || (same text (codes "=") && (arity == 2))

-- what a name of the given arity does to the bodies that are its arguments
unfoldable pub connective_of : List ℕ → ℕ → Connective
connective_of text arity =
    if same text (codes ",") && (arity == 2) then And
    else if same text (codes ";") && (arity == 2) then Or
    else if same text (codes "true") && (arity == 0) then Truth
    else Other

-- what a name of the given arity makes of a clause's term
unfoldable pub neck_of : List ℕ → ℕ → Neck
neck_of text arity =
    if same text (codes ":-") && (arity == 1) then Directive
    else if same text (codes "?-") && (arity == 1) then Query
    else if same text (codes ":-") && (arity == 2) then Implies
    else if same text (codes "-->") && (arity == 2) then Grammar
    else Fact

-- whether a directive of this name of the given arity asks for nothing here: an operator is set by the reader, and
-- clauses may stand anywhere
unfoldable pub is_silent : List ℕ → ℕ → Bool
is_silent text arity = (same text (codes "op") && (arity == 3)) || (same text (codes "discontiguous") && (arity == 1))
