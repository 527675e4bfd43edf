-- Lemmas on the exit of a `?`, which answers the fault of the call unchanged.
use Rattle.std.proofs.Common.{◌≡◌, ℕ, List, Option, Some, Result, Ok, Err, IsErr, IsErrAnd, sym, subst}
use Rattle.std.proofs.lemmas.Bool.{false≢true}
use Rattle.clause_normal.specs.declared.fault.NormFault.{NormFault}
use Rattle.clause_normal.specs.Faults.{AnswersFault, AnswersMade, AnswersNumber, IfFault}
use Rattle.clause_normal.specs.NormalForm.{Fault, Made}
use Rattle.clause_normal.specs.Rules.{Rule}

by_exit : {X : Type 0} (A : Result X NormFault → Type 0) (r : Result X NormFault) (e : NormFault) → IsErr r × IsErrAnd r (λ d. d ≡ e) → A (Err e) → A r
by_exit A (Ok x) e h a = absurd (false≢true h.0)
by_exit A (Err d) e h a = subst (λ (f : NormFault). A (Err f)) (sym h.1) a

pub fault_err : {X : Type 0} (fault : Option Fault) (r : Result X NormFault) (e : NormFault)
    → IsErr r × IsErrAnd r (λ d. d ≡ e) → IfFault e (λ f. fault ≡ Some f) → AnswersFault fault r
fault_err fault r e h a = by_exit (λ q. AnswersFault fault q) r e h a

pub made_err : (fault : Option Fault) (rules : List Rule) (after : ℕ) (made : List Rule) (r : Result ℕ NormFault) (e : NormFault)
    → IsErr r × IsErrAnd r (λ d. d ≡ e) → IfFault e (λ f. fault ≡ Some f) → AnswersMade fault rules after made r
made_err fault rules after made r e h a = by_exit (λ q. AnswersMade fault rules after made q) r e h a

pub number_err : (m : Made) (made : List Rule) (r : Result ℕ NormFault) (e : NormFault)
    → IsErr r × IsErrAnd r (λ d. d ≡ e) → IfFault e (λ f. m ≡ Err f) → AnswersNumber m made r
number_err m made r e h a = by_exit (λ q. AnswersNumber m made q) r e h a
