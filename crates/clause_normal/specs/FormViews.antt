-- Private.
-- What the term of a clause is, in the code. Nothing here has to be believed.
use Rattle.std.specs.Prelude.{◌≡◌, ◌<◌, ℕ, List, ◌++◌, Some, None, Result, Ok, Err, length}
use Rattle.prolog_terms.specs.declared.term.ReadTerm.{ReadTerm}
use Rattle.prolog_terms.specs.Clauses.{nodes}
use Rattle.prolog_terms.specs.Terms.{tree_of}
use Rattle.clause_normal.specs.declared.fault.NormKind.{NormKind}
use Rattle.clause_normal.specs.declared.forms.Form.{Form}
use Rattle.clause_normal.specs.declared.forms.Form.TheVariants as code
use Rattle.clause_normal.specs.declared.rule.Call.{Call as CodeCall}
use Rattle.clause_normal.specs.Bodies.{no_goals}
use Rattle.clause_normal.specs.NormalForm.{form_of, skipped, refused, clause, head_fault, head_call}
use Rattle.clause_normal.specs.RuleViews.{call_of, CallIsFit}
use Rattle.clause_variables.specs.Terms.{occurrences}
use Rattle.clause_normal.specs.Views.{goals_of, IsTermFit}

-- the term is of that form
abbrev pub IsForm : List (List ℕ) → ReadTerm → Form → Type 0
IsForm names t code.Skipped = form_of names (tree_of t) ≡ skipped
IsForm names t (code.Refused k) = form_of names (tree_of t) ≡ refused k
IsForm names t (code.Fact u) = (form_of names (tree_of t) ≡ clause (tree_of t) no_goals) × (u.now ≡ t)
IsForm names t (code.Rule h b) =
    (form_of names (tree_of t) ≡ clause (tree_of h.now) (goals_of names b.now (occurrences (tree_of h.now) ++ occurrences (tree_of b.now))))
    × (occurrences (tree_of t) ≡ occurrences (tree_of h.now) ++ occurrences (tree_of b.now)) × (nodes (tree_of b.now) < nodes (tree_of t))

-- its parts have names and variables with numbers below these
abbrev pub FormIsFit : ℕ → ℕ → Form → Type 0
FormIsFit names vars (code.Rule h b) = IsTermFit names vars h.now × IsTermFit names vars b.now
FormIsFit names vars f = Unit {0}

-- the head as a call, or its fault
abbrev pub IsHead : List (List ℕ) → ReadTerm → Result CodeCall NormKind → Type 0
IsHead names t (Ok c) = (head_fault names (tree_of t) ≡ None) × (call_of c ≡ head_call (tree_of t)) × CallIsFit (length names) c
IsHead names t (Err k) = head_fault names (tree_of t) ≡ Some (k, t.at)
