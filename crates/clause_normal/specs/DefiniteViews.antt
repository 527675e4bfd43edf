-- Private.
-- The parts of a clause, and the clause that is made of them, in the code. Nothing here has to be believed.
use Rattle.std.specs.Prelude.{◌≡◌, ℕ, List, [], ◌∷◌, Some, None, Result, Ok, Err, length}
use Rattle.prolog_grammar.specs.Placed.{Tree}
use Rattle.prolog_terms.specs.declared.term.ReadTerm.{ReadTerm}
use Rattle.prolog_terms.specs.Terms.{tree_of}
use Rattle.clause_normal.specs.declared.fault.NormFault.{NormFault}
use Rattle.clause_normal.specs.declared.fault.NormKind.TheVariants as kind
use Rattle.clause_normal.specs.declared.forms.Form.{Form}
use Rattle.clause_normal.specs.declared.forms.Form.TheVariants as code
use Rattle.clause_normal.specs.declared.rule.Rule.{Rule as CodeRule}
use Rattle.clause_normal.specs.Definite.{Parted, no_clause, fact, rule, parted, parts_fault, parts_rule}
use Rattle.clause_normal.specs.Faults.{IfFault}
use Rattle.clause_normal.specs.RuleViews.{rule_of, RuleIsFit}

-- the term has these parts, where a directive that asks for nothing is none
abbrev pub IsParted : List (List ℕ) → ReadTerm → Form → Type 0
IsParted names t code.Skipped = parted names (tree_of t) ≡ no_clause kind.Directive
IsParted names t (code.Refused k) = parted names (tree_of t) ≡ no_clause k
IsParted names t (code.Fact u) = parted names (tree_of t) ≡ fact (tree_of u.now)
IsParted names t (code.Rule h b) = parted names (tree_of t) ≡ rule (tree_of h.now) (tree_of b.now)

-- the clause of a term of these parts, or its first fault, but out of memory
abbrev pub AnswersRule : List (List ℕ) → Tree → Parted → Result CodeRule NormFault → Type 0
AnswersRule names t p (Ok r) = (parts_fault names t p ≡ None) × (parts_rule names p ≡ rule_of r ∷ []) × RuleIsFit (length names) r
AnswersRule names t p (Err e) = IfFault e (λ f. parts_fault names t p ≡ Some f)
