-- Private.
-- What the code holds of an edit. Nothing here has to be believed.
use Rattle.std.specs.Prelude.{◌≤◌, ℕ, List, [], ◌∷◌, codes, if◌then◌else◌}
use Rattle.clause_normal.specs.NormalForm.{is_silent_goal}
use Rattle.clause_normal.specs.Words.{same}
use Rattle.prolog_grammar.specs.Placed.{Tree}
use Rattle.prolog_reader.specs.Directive.{atom_of, parts_of}
use Rattle.prolog_reader.specs.Fit.{IsFit}
use Rattle.prolog_terms.specs.Clauses.{nodes}
use Rattle.prolog_terms.specs.Terms.{clause_of}
use Rattle.edit_texts.specs.Edits.{Edit, nothing, add, remove, tell, no_edit, integer_of, remove_if, tell_if, tell_of}
use Rattle.edit_texts.specs.declared.edits.Edit.{Edit as TheEdit}
use Rattle.edit_texts.specs.declared.edits.Edit.TheVariants as edit
use Rattle.edit_texts.specs.declared.edits.Word.{Word}
use Rattle.edit_texts.specs.declared.edits.Word.TheVariants as word

abbrev pub edit_seen : TheEdit → Edit
edit_seen edit.Nothing = nothing
edit_seen (edit.Add c) = add (clause_of c)
edit_seen (edit.Remove n) = remove n
edit_seen (edit.Tell name a) = tell name.0 a
edit_seen edit.NoEdit = no_edit

-- a clause that is to be added has names and variables in range, and no more nodes than this
abbrev pub EditIsFit : ℕ → ℕ → Edit → Type 0
EditIsFit names most (add c) = IsFit names c × (nodes c.term ≤ most)
EditIsFit names most e = Unit {0}

-- what a word asks for with an argument
abbrev pub asked_as : List (List ℕ) → ℕ → Word → Tree → Edit
asked_as names vars word.Directive t = if is_silent_goal names t then nothing else no_edit
asked_as names vars word.Add t = add (record { term = t; vars = vars })
asked_as names vars word.Remove t = remove_if (integer_of t)
asked_as names vars word.Tell t = tell_of names (parts_of t)
asked_as names vars word.Other t = no_edit

-- what `modes` asks for of a term with this name and these arguments
abbrev pub indicated : List ℕ → List Tree → Edit
indicated text (n ∷ a ∷ []) = if same text (codes "/") then tell_if (atom_of (parts_of n)) (integer_of a) else no_edit
indicated text ts = no_edit
