-- To believe, for sessions.
-- The edits of a text, and what they make of a list of clauses.
--
-- Each clause of the text is an edit: add(T), del(K) or modes(N/A). A directive that says nothing in the text of a
-- program says nothing here. Edits are done in order, and the first that cannot be done refuses the text.
--
-- To believe: all of this file, and in clause_normal Definite.antt, which says what the program of clauses is, and why
-- one is not added.
use Rattle.std.specs.Prelude.{ℕ, ◌-◌, ℤ, pos, negsuc, ◌&&◌, nat_le, List, [], ◌∷◌, ◌++◌, Option, Some, None, Result, Ok, Err, codes, length, position, if◌then◌else◌}
use Rattle.std.specs.List.{remove as removed}
use Rattle.clause_normal.specs.Definite.{added_fault, program_of}
use Rattle.clause_normal.specs.NormalForm.{Fault, is_silent_goal}
use Rattle.clause_normal.specs.Words.{same}
use Rattle.cti_terms.specs.Listing.{Listing, is_pred}
use Rattle.prolog_grammar.specs.Placed.{Tree, tree, Var, Int, Fun}
use Rattle.prolog_reader.specs.Directive.{atom_of, parts_of}
use Rattle.prolog_reader.specs.Names.{name_text}
use Rattle.prolog_terms.specs.Clauses.{Clause, place}
use Rattle.edit_texts.specs.declared.edits_fault.EditKind.{EditKind}
use Rattle.edit_texts.specs.declared.edits_fault.EditKind.TheVariants as kind

-- what a clause of the text asks for: nothing; that this clause is added, or the one of this number removed; or the
-- modes of the predicate of this name and arity. Or it is no edit
pub data Edit : Type 0 where
  nothing : Edit
  add : Clause → Edit
  remove : ℤ → Edit
  tell : ℕ → ℤ → Edit
  no_edit : Edit

-- the integer that a term is
abbrev pub integer_of : Tree → Option ℤ
integer_of (tree at (Var v)) = None
integer_of (tree at (Int n)) = Some n
integer_of (tree at (Fun f ts)) = None

-- an atom and an integer
abbrev pub tell_if : Option ℕ → Option ℤ → Edit
tell_if (Some name) (Some a) = tell name a
tell_if (Some name) None = no_edit
tell_if None a = no_edit

-- N/A
abbrev pub tell_of : List (List ℕ) → Option (ℕ × List Tree) → Edit
tell_of names (Some (f, n ∷ a ∷ [])) = if same (name_text names f) (codes "/") then tell_if (atom_of (parts_of n)) (integer_of a) else no_edit
tell_of names parts = no_edit

-- K
abbrev pub remove_if : Option ℤ → Edit
remove_if (Some n) = remove n
remove_if None = no_edit

-- what a name with one argument asks for. The variables of `add(T)` are those of T, with their numbers
abbrev pub asked_by : List (List ℕ) → ℕ → List ℕ → Tree → Edit
asked_by names vars text t =
    if same text (codes ":-") then (if is_silent_goal names t then nothing else no_edit)
    else if same text (codes "add") then add (record { term = t; vars = vars })
    else if same text (codes "del") then remove_if (integer_of t)
    else if same text (codes "modes") then tell_of names (parts_of t)
    else no_edit

abbrev pub asked_of : List (List ℕ) → ℕ → Option (ℕ × List Tree) → Edit
asked_of names vars (Some (f, t ∷ [])) = asked_by names vars (name_text names f) t
asked_of names vars parts = no_edit

abbrev pub edit_of : List (List ℕ) → Clause → Edit
edit_of names c = asked_of names c.vars (parts_of c.term)

-- the natural number that this is, if it is one from 1 to n
abbrev pub number_in : ℕ → ℤ → Option ℕ
number_in n (pos k) = if nat_le 1 k && nat_le k n then Some k else None
number_in n (negsuc k) = None

-- the number of the predicate of a name and an arity
abbrev pub predicate_in : Listing → ℕ → ℤ → Option ℕ
predicate_in p name (pos a) = position (is_pred name a) p.preds
predicate_in p name (negsuc k) = None

-- ---- what edits do

-- why an edit is refused, and its place
abbrev pub Refusal : Type 0
Refusal = EditKind × ℕ

-- what is told: the clauses at that moment, and the number of a predicate of their program
abbrev pub Told : Type 0
Told = List Clause × ℕ

-- the clauses after an edit, and what it tells; or why it is refused
abbrev pub Step : Type 0
Step = Result (List Clause × List Told) Refusal

abbrev pub added : List Clause → Clause → Option Fault → Step
added cs c None = Ok (cs ++ c ∷ [], [])
added cs c (Some f) = Err (kind.Norm f.0, f.1)

abbrev pub removed_at : List Clause → ℕ → Option ℕ → Step
removed_at cs at None = Err (kind.BadEdit, at)
removed_at cs at (Some k) = Ok (removed cs (k - 1), [])

abbrev pub told_at : List Clause → ℕ → Option ℕ → Step
told_at cs at None = Err (kind.BadEdit, at)
told_at cs at (Some q) = Ok (cs, (cs, q) ∷ [])

-- what an edit at a place does
abbrev pub done : List (List ℕ) → List Clause → ℕ → Edit → Step
done names cs at nothing = Ok (cs, [])
done names cs at (add c) = added cs c (added_fault names (length cs) c)
done names cs at (remove n) = removed_at cs at (number_in (length cs) n)
done names cs at (tell name a) = told_at cs at (predicate_in (program_of names cs) name a)
done names cs at no_edit = Err (kind.BadEdit, at)

-- what the edits of a text tell, in order, or the first that is refused
abbrev pub Outcome : Type 0
Outcome = Result (List Told) Refusal

abbrev pub telling : List Told → Outcome → Outcome
telling told (Ok more) = Ok (told ++ more)
telling told (Err r) = Err r

abbrev pub then_done : Step → (List Clause → Outcome) → Outcome
then_done (Ok s) rest = telling s.1 (rest s.0)
then_done (Err r) rest = Err r

-- the same of edits of these clauses
abbrev pub outcome : List (List ℕ) → List Clause → List Clause → Outcome
outcome names cs [] = Ok []
outcome names cs (e ∷ es) = then_done (done names cs (place e.term) (edit_of names e)) (λ ds. outcome names ds es)
