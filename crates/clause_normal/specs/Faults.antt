-- Private.
-- What the code's answers say of faults. Nothing here has to be believed.
use Rattle.std.specs.Prelude.{◌≡◌, ℕ, List, length, Option, Some, None, Result, Ok, Err}
use Rattle.prolog_grammar.specs.Placed.{Tree}
use Rattle.clause_normal.specs.declared.fault.NormFault.{NormFault}
use Rattle.clause_normal.specs.declared.fault.NormFault.TheVariants as code
use Rattle.clause_normal.specs.declared.rule.Call.{Call as CodeCall}
use Rattle.clause_normal.specs.NormalForm.{Fault, Made, head_fault, head_call}
use Rattle.clause_normal.specs.Rules.{Rule}
use Rattle.clause_normal.specs.RuleViews.{call_of, CallIsFit}

-- the fault of the code is that one, but out of memory
abbrev pub IfFault : NormFault → (Fault → Type 0) → Type 0
IfFault (code.Fault kind at) P = P (kind, at)
IfFault code.Memory P = Unit {0}

-- the answer is right where there is no such fault, and otherwise it is that fault
abbrev pub AnswersFault : {X : Type 0} → Option Fault → Result X NormFault → Type 0
AnswersFault fault (Ok x) = fault ≡ None
AnswersFault fault (Err e) = IfFault e (λ f. fault ≡ Some f)

-- the head as a call, or its fault
abbrev pub AnswersHead : List (List ℕ) → Tree → Result CodeCall NormFault → Type 0
AnswersHead names t (Ok c) = (head_fault names t ≡ None) × (call_of c ≡ head_call t) × CallIsFit (length names) c
AnswersHead names t (Err e) = IfFault e (λ f. head_fault names t ≡ Some f)

-- the answer is well where these are the clauses that are made and this the next number, and else it is the fault
abbrev pub AnswersNext : {X : Type 0} → Made → List Rule → ℕ → Result X NormFault → Type 0
AnswersNext m made n (Ok x) = m ≡ Ok (made, n)
AnswersNext m made n (Err e) = IfFault e (λ f. m ≡ Err f)

-- the same where the answer is the next number
abbrev pub AnswersNumber : Made → List Rule → Result ℕ NormFault → Type 0
AnswersNumber m made (Ok n) = m ≡ Ok (made, n)
AnswersNumber m made (Err e) = IfFault e (λ f. m ≡ Err f)

-- the answer is well where this is no fault, where these clauses are the ones that are made and this is the next
-- number; else it is the fault
abbrev pub AnswersMade : Option Fault → List Rule → ℕ → List Rule → Result ℕ NormFault → Type 0
AnswersMade fault rules after made (Ok n) = (fault ≡ None) × (made ≡ rules) × (n ≡ after)
AnswersMade fault rules after made (Err e) = IfFault e (λ f. fault ≡ Some f)
