-- Lemmas on the first line of a text.
use Rattle.std.proofs.Common.{◌≡◌, ◌≢◌, ℕ, true, List, [], ◌∷◌, ◌++◌, length, take, drop, Option, Some, None, Result, Ok, Err, refl, ap, sym, ◌∙◌, take_at, drop_at, take-append-drop, eqb-true, eq-eqb}
use Rattle.std.proofs.lemmas.Bool.{and_parts, false≢true}
use Rattle.std.proofs.lemmas.Option.{none-some, same_Some}
use Rattle.std.proofs.NetLemmas.Options.{cond_some}
use Rattle.std.specs.Prelude.{nat_eq, IsErr, MatchResult}
use Rattle.std.specs.Result.{IsErrAnd}
use Rattle.std.specs.Borrow.{Bor}
use Rattle.certificate.specs.declared.line_fault.LineFault.{LineFault}
use Rattle.certificate.specs.declared.line_fault.LineFault.TheVariants as fault
use Rattle.std.specs.Cmp.Lexicographic.{pointwise}
use Rattle.certificate.specs.declared.fact.Fact.{Fact}
use Rattle.certificate.specs.Text.{fact_text}
use Rattle.certificate.specs.Range.{InRange}
use Rattle.certificate.specs.Parse.{Read, Agrees, AgreesText, after, read_fact}
use Rattle.certificate.proofs.FactBackLemmas.{fact_back}

same_bytes : (xs ys : List ℕ) → pointwise nat_eq xs ys ≡ true → xs ≡ ys
same_bytes [] [] h = refl
same_bytes [] (y ∷ ys) h = absurd (false≢true h)
same_bytes (x ∷ xs) [] h = absurd (false≢true h)
same_bytes (x ∷ xs) (y ∷ ys) h =
    let (first, rest) = and_parts (nat_eq x y) (pointwise nat_eq xs ys) h in
    rw (eqb-true x y first, same_bytes xs ys rest) refl

bytes_same : (xs : List ℕ) → pointwise nat_eq xs xs ≡ true
bytes_same [] = refl
bytes_same (x ∷ xs) = rw (eq-eqb x x refl, bytes_same xs) refl

-- a text is what was taken off and what follows
pub taken_off : (literal s t : List ℕ) → after literal s ≡ Some t → s ≡ literal ++ t
taken_off literal s t e =
    let (same, rest) = cond_some _ (drop (length literal) s) t e in
    sym (take-append-drop (length literal) s) ∙ rw (same_bytes (take (length literal) s) literal same, rest) refl

pub take_off : (literal s : List ℕ) → after literal (literal ++ s) ≡ Some s
take_off literal s = rw (take_at literal s _ refl, bytes_same literal, drop_at literal s _ refl) refl

-- a fact's text is read as that fact and no other
pub read_same : (f g : Fact) (s t text : List ℕ) → InRange f → text ≡ fact_text f ++ s → read_fact text ≡ Some (g, t) → (g ≡ f) × (after (fact_text g) text ≡ Some s)
read_same f g s t text h e read =
    let back = rw (← e) at (fact_back f s h) in
    let same : f ≡ g = ap (λ p. p.0) (same_Some _ _ (sym back ∙ read)) in
    (sym same, rw (← same, e) (take_off (fact_text f) s))

pub read_some : (f : Fact) (s text : List ℕ) → InRange f → text ≡ fact_text f ++ s → read_fact text ≢ None
read_some f s text h e none = none-some _ (sym none ∙ (rw (← e) at (fact_back f s h)))

-- only a lack of memory stops a reading that should give something
pub fault_only : {A B : Type 0} (R : A × Bor (List ℕ) → Type 0) (r : Result (A × Bor (List ℕ)) LineFault) (e : LineFault) (o : Read B)
    → IsErr r × IsErrAnd r (λ d. d ≡ e) → Agrees {A = B} (Err e) o → o ≢ None → MatchResult r R (λ d. d ≡ fault.Memory)
fault_only R (Ok p) e o f h k = absurd (false≢true f.0)
fault_only R (Err fault.NotAFact) e o f h k = absurd (k (rw (← f.1) at h))
fault_only R (Err fault.Memory) e o f h k = refl

pub text_only : {A : Type 0} (R : A × Bor (List ℕ) → Type 0) (r : Result (A × Bor (List ℕ)) LineFault) (e : LineFault) (o : Option (List ℕ))
    → IsErr r × IsErrAnd r (λ d. d ≡ e) → AgreesText (Err e) o → o ≢ None → MatchResult r R (λ d. d ≡ fault.Memory)
text_only R (Ok p) e o f h k = absurd (false≢true f.0)
text_only R (Err fault.NotAFact) e o f h k = absurd (k (rw (← f.1) at h))
text_only R (Err fault.Memory) e o f h k = refl

pub same_after : (o : Option (List ℕ)) (s t : List ℕ) → o ≡ Some s → o ≡ Some t → t ≡ s
same_after o s t e f = same_Some _ _ (sym f ∙ e)
