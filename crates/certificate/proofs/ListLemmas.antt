-- Lemmas on the items of a list.
use Rattle.std.proofs.Common.{◌≡◌, ◌≢◌, ℕ, List, [], ◌∷◌, ◌++◌, length, Option, Some, None, option_map, option_and_then, Result, Ok, Err, refl, ap, arith, append-nil, append_assoc, eq-eqb, ne_eqb}
use Rattle.std.proofs.lemmas.Bool.{false≢true}
use Rattle.std.specs.Prelude.{codes, IsErr}
use Rattle.std.specs.Result.{IsErrAnd}
use Rattle.std.specs.Borrow.{Bor}
use Rattle.std.specs.List.{AllByRecursion}
use Rattle.certificate.specs.declared.line_fault.LineFault.{LineFault}
use Rattle.certificate.specs.declared.line_fault.LineFault.TheVariants as fault
use Rattle.certificate.specs.Parse.{Read, Agrees, AgreesText, AgreesMore, after, read_until, with_all, with_first, next_item}
use Rattle.certificate.specs.Shortening.{Shortens, until_step, until_stop, until_end}

module _ {A : Type 0} (stop : ℕ) (item : List ℕ → Read A) (h : Shortens item) (xs : List A) where
  -- at the end of the text
  pub ends : (s : List ℕ) → length s ≡ 0 → with_all xs (read_until stop item s) ≡ None
  ends [] e = ap (with_all xs) (until_end stop item)
  ends (c ∷ s) e = absurd (omega (arith, e))

  -- at the byte that stops
  pub stops : (s rest : List ℕ) (c : ℕ) → s ≡ c ∷ rest → c ≡ stop → with_all xs (read_until stop item s) ≡ Some (xs, rest)
  stops s rest c whole e = rw (whole, e, until_stop stop item stop rest (eq-eqb stop stop refl), append-nil xs) refl

  step : (s rest : List ℕ) (c : ℕ) → s ≡ c ∷ rest → c ≢ stop
      → read_until stop item s ≡ option_and_then (λ p. option_map (with_first p.0) (read_until stop item p.1)) (item s)
  step s rest c whole other = rw whole (until_step stop item h c rest (ne_eqb c stop other))

  -- no item
  pub no_item : (s rest : List ℕ) (c : ℕ) → s ≡ c ∷ rest → c ≢ stop → item s ≡ None → with_all xs (read_until stop item s) ≡ None
  no_item s rest c whole other none = rw (step s rest c whole other, none) refl

  -- one more item
  pub one_item : (s rest t : List ℕ) (c : ℕ) (x : A) → s ≡ c ∷ rest → c ≢ stop → item s ≡ Some (x, t)
      → with_all (xs ++ x ∷ []) (read_until stop item t) ≡ with_all xs (read_until stop item s)
  one_item s rest t c x whole other read = rw (step s rest c whole other, read) (go (read_until stop item t))
    where
      go : (o : Read (List A)) → with_all (xs ++ x ∷ []) o ≡ with_all xs (option_map (with_first x) o)
      go None = refl
      go (Some p) = ap (λ ys. Some (ys, p.1)) (append_assoc xs (x ∷ []) p.0)

-- without a comma there is no next item
pub no_comma : {A : Type 0} (item : List ℕ → Read A) (s : List ℕ) → after (codes ",") s ≡ None → next_item item s ≡ None
no_comma item s none = rw none refl

-- the item after a comma
pub behind_comma : {A : Type 0} (item : List ℕ → Read A) (s u : List ℕ) (o : Read A) → after (codes ",") s ≡ Some u → item u ≡ o → next_item item s ≡ o
behind_comma item s u o some read = rw some read

-- the fault of a part is that of the whole
pub text_err : {A : Type 0} (items : List A) (r : Result (Bor (List ℕ)) LineFault) (e : LineFault) (p : Option (List ℕ)) (o : Read (List A))
    → IsErr r × IsErrAnd r (λ d. d ≡ e) → AgreesText (Err e) p → (p ≡ None → o ≡ None) → AgreesMore items r o
text_err items (Ok s) e p o f h k = absurd (false≢true f.0)
text_err items (Err fault.NotAFact) e p o f h k = k (rw (← f.1) at h)
text_err items (Err fault.Memory) e p o f h k = tt

pub read_err : {A B : Type 0} (items : List A) (r : Result (Bor (List ℕ)) LineFault) (e : LineFault) (p : Read B) (o : Read (List A))
    → IsErr r × IsErrAnd r (λ d. d ≡ e) → Agrees {A = B} (Err e) p → (p ≡ None → o ≡ None) → AgreesMore items r o
read_err items (Ok s) e p o f h k = absurd (false≢true f.0)
read_err items (Err fault.NotAFact) e p o f h k = k (rw (← f.1) at h)
read_err items (Err fault.Memory) e p o f h k = tt

pub part_err : {A B : Type 0} (r : Result (B × Bor (List ℕ)) LineFault) (e : LineFault) (p : Read A) (o : Read B)
    → IsErr r × IsErrAnd r (λ d. d ≡ e) → Agrees {A = A} (Err e) p → (p ≡ None → o ≡ None) → Agrees r o
part_err (Ok s) e p o f h k = absurd (false≢true f.0)
part_err (Err fault.NotAFact) e p o f h k = k (rw (← f.1) at h)
part_err (Err fault.Memory) e p o f h k = tt

-- all of these and one more
pub all_append : {A : Type 0} (F : A → Type 0) (xs : List A) {x : A} → AllByRecursion F xs → F x → AllByRecursion F (xs ++ x ∷ [])
all_append F [] h f = (f, tt)
all_append F (y ∷ ys) h f = (h.0, all_append F ys h.1 f)
