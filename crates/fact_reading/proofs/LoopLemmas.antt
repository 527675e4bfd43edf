-- Lemmas on the loops that read items.
use Rattle.std.proofs.Common.{◌≡◌, ℕ, suc, List, [], ◌∷◌, ◌++◌, length, Some, None, Result, Ok, Err, refl, ap, arith, append-nil, append_assoc, IsErr, IsErrAnd}
use Rattle.std.proofs.lemmas.Bool.{false≢true}
use Rattle.std.specs.Borrow.{Bor}
use Rattle.fact_reading.specs.declared.stop.StructureReason.TheVariants as reason
use Rattle.fact_reading.specs.declared.stop.Stop.{Stop}
use Rattle.fact_reading.specs.declared.stop.Stop.TheVariants as stop
use Rattle.fact_reading.specs.Filling.{Fills}
use Rattle.fact_reading.specs.Walk.{Wrong, Read, Taken, Agrees, result_map, wrong_at, with_all, with_first, read_each, read_many}

-- the fault of a part is that of the whole
pub part_err : {F A B : Type 0} (r : Result (B × Bor (List F)) Stop) (e : Stop) (p : Read F A) (o : Read F B)
    → IsErr r × IsErrAnd r (λ d. d ≡ e) → Agrees {F = F} {A = A} (Err e) p → ((w : Wrong) → p ≡ Err w → o ≡ Err w) → Agrees r o
part_err (Ok s) e p o f h k = absurd (false≢true f.0)
part_err (Err (stop.Wrong left why)) e p o f h k = k (left, why) (rw (← f.1) at h)
part_err (Err stop.Memory) e p o f h k = tt

-- the same where values are read into their places
pub fills_err : {F A B : Type 0} (r : Result (Bor (List F)) Stop) (x : A) (y : B) (e : Stop) (p : Read F A) (o : Read F B)
    → IsErr r × IsErrAnd r (λ d. d ≡ e) → Fills {F = F} {A = A} (Err e) x p → ((w : Wrong) → p ≡ Err w → o ≡ Err w) → Fills r y o
fills_err (Ok s) x y e p o f h k = absurd (false≢true f.0)
fills_err (Err (stop.Wrong left why)) x y e p o f h k = k (left, why) (rw (← f.1) at h)
fills_err (Err stop.Memory) x y e p o f h k = tt

-- what is read last fills the whole
pub fills_last : {F A B : Type 0} (r : Result (Bor (List F)) Stop) (x : A) (y : B) (p : Read F A) (o : Read F B)
    → Fills r x p → ((s : List F) → p ≡ Ok (x, s) → o ≡ Ok (y, s)) → ((w : Wrong) → p ≡ Err w → o ≡ Err w) → Fills r y o
fills_last (Ok s) x y p o h k l = k s.now h
fills_last (Err (stop.Wrong left why)) x y p o h k l = l (left, why) h
fills_last (Err stop.Memory) x y p o h k l = tt

pub length_more : {A : Type 0} (xs : List A) (x : A) → length (xs ++ x ∷ []) ≡ suc (length xs)
length_more [] x = refl
length_more (y ∷ ys) x = ap suc (length_more ys x)

-- these items and one more in front of those that are read
pub one_more : {F A : Type 0} (xs : List A) (x : A) (o : Read F (List A)) → with_all (xs ++ x ∷ []) o ≡ with_all xs (result_map (with_first x) o)
one_more xs x (Err w) = refl
one_more xs x (Ok p) = ap (λ ys. Ok (ys, p.1)) (append_assoc xs (x ∷ []) p.0)

module _ {F A : Type 0} (item : ℕ → List F → Read F A) (xs : List A) (i m : ℕ) (s : List F) where
  pub each_end : m ≡ 0 → with_all xs (read_each item i m s) ≡ Ok (xs, s)
  unfolding read_each
  each_end e = rw (e, append-nil xs) refl

  pub each_err : (n : ℕ) (w : Wrong) → m ≡ suc n → item i s ≡ Err w → with_all xs (read_each item i m s) ≡ Err w
  unfolding read_each
  each_err n w e bad = rw (e, bad) refl

  pub each_more : (n j : ℕ) (x : A) (t : List F) → m ≡ suc n → j ≡ suc i → item i s ≡ Ok (x, t)
      → with_all (xs ++ x ∷ []) (read_each item j n t) ≡ with_all xs (read_each item i m s)
  unfolding read_each
  each_more n j x t e next read = rw (e, next, read) (one_more xs x (read_each item (suc i) n t))

module _ {F A : Type 0} (taken : ℕ → F → Taken A) (xs : List A) (i : ℕ) (s : List F) where
  pub many_end : length s ≡ 0 → with_all xs (read_many taken i s) ≡ Ok (xs, s)
  unfolding read_many
  many_end e = go s e
    where
      go : (u : List F) → length u ≡ 0 → with_all xs (read_many taken i u) ≡ Ok (xs, u)
      go [] e = rw (append-nil xs) refl
      go (g ∷ u) e = absurd (omega (arith, e))

  pub many_bad : (t : List F) (f : F) → s ≡ f ∷ t → taken i f ≡ None → with_all xs (read_many taken i s) ≡ wrong_at s reason.Shape
  unfolding read_many
  many_bad t f e bad = rw (e, bad) refl

  pub many_other : (t : List F) (f : F) → s ≡ f ∷ t → taken i f ≡ Some None → with_all xs (read_many taken i s) ≡ Ok (xs, s)
  unfolding read_many
  many_other t f e other = rw (e, other, append-nil xs) refl

  pub many_more : (t : List F) (f : F) (j : ℕ) (x : A) → s ≡ f ∷ t → j ≡ suc i → taken i f ≡ Some (Some x)
      → with_all (xs ++ x ∷ []) (read_many taken j t) ≡ with_all xs (read_many taken i s)
  unfolding read_many
  many_more t f j x e next item = rw (e, next, item) (one_more xs x (read_many taken (suc i) t))
