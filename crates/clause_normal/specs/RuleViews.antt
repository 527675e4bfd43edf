-- Private.
-- Clauses of the code as those of the definitions. Nothing here has to be believed.
use Rattle.std.specs.Prelude.{◌<◌, ◌≤◌, ℕ, map, length}
use Rattle.std.specs.List.{AllByRecursion}
use Rattle.clause_normal.specs.declared.rule.Functor.{Functor as CodeFunctor}
use Rattle.clause_normal.specs.declared.rule.Functor.TheVariants as functor
use Rattle.clause_normal.specs.declared.rule.Call.{Call as CodeCall}
use Rattle.clause_normal.specs.declared.rule.Rule.{Rule as CodeRule}
use Rattle.clause_normal.specs.Rules.{Functor, named, chosen, Call, Rule}
use Rattle.clause_variables.specs.TermViews.{args_of}

abbrev pub functor_of : CodeFunctor → Functor
functor_of (functor.Named f) = named f.0
functor_of (functor.Chosen m) = chosen m

abbrev pub call_of : CodeCall → Call
call_of c = record { functor = functor_of c.functor; args = args_of c.args }

abbrev pub rule_of : CodeRule → Rule
rule_of r = record { head = call_of r.head; body = map call_of r.body.items }

-- a name
abbrev pub IsNamed : CodeFunctor → Type 0
IsNamed (functor.Named f) = Unit {0}
IsNamed (functor.Chosen m) = ⊥

-- a clause that calls only names
abbrev pub RuleIsNamed : CodeRule → Type 0
RuleIsNamed r = IsNamed r.head.functor × AllByRecursion (λ (c : CodeCall). IsNamed c.functor) r.body.items

-- a name that is known
abbrev pub FunctorIsFit : ℕ → CodeFunctor → Type 0
FunctorIsFit names (functor.Named f) = f.0 < names
FunctorIsFit names (functor.Chosen m) = Unit {0}

-- no more arguments than a predicate has
abbrev pub CallIsFit : ℕ → CodeCall → Type 0
CallIsFit names c = (length (args_of c.args) ≤ 12) × FunctorIsFit names c.functor

-- a clause with no more arguments in its atoms than predicates have
pub record RuleIsFit (names : ℕ) (r : CodeRule) : Type 0 where
  pub head : CallIsFit names r.head
  pub body : AllByRecursion (CallIsFit names) r.body.items
