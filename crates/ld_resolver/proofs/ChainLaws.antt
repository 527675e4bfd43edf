-- The clauses of each predicate, one after the other.
use Rattle.std.proofs.Common.{◌≡◌, ◌≢◌, ℕ, zero, suc, ◌-◌, ◌<◌, ◌≤◌, ◌⊎◌, inl, inr, List, length, set, replicate, get_or, slice_get, Option, None, Some, refl, ap, sym, ◌∙◌, subst, arith, length-set}
use Rattle.std.proofs.lemmas.Bool.{cases_eq, cases_lt}
use Rattle.std.proofs.lemmas.List.{get_or-set_same, get_or-set_other, get_or-replicate, length-replicate}
use Rattle.std.proofs.lemmas.Option.{slice_get_within, slice_get-get_or, get_or_from_slice_get}
use Rattle.std.specs.Prelude.{IsSomeAnd}
use Rattle.cti_terms.specs.declared.atom_list.Atom.{Atom}
use Rattle.cti_terms.specs.declared.clauses.Clause.{Clause}
use Rattle.cti_terms.specs.declared.predicates.Pred.{Pred}
use Rattle.cti_terms.specs.Listing.{Listing, IsAtom, IsClause, numbered}
use Rattle.ld_resolver.specs.Chain.{IsNext, IsAfter, AreChained}

pub numbered_within : (cs : List Clause) (k : ℕ) (c : Clause) → numbered cs k ≡ Some c → k ≤ length cs
numbered_within cs zero c e = omega arith
numbered_within cs (suc i) c e = let h = slice_get_within cs i c e in omega (arith, h)

-- no clause comes after the last
none_after : (p : Listing) (f : ℕ) → IsNext p f (suc (length p.clauses)) (suc (length p.clauses))
none_after p f = record {
  from = omega arith;
  to_end = omega arith;
  others = λ j c h l e. absurd (omega (arith, h, l));
  found = λ c e. absurd (let h = numbered_within p.clauses (suc (length p.clauses)) c e in omega (arith, h));
}

pub chain_begun : (p : Listing) (a b none : ℕ) → a ≡ length p.preds → b ≡ length p.clauses → none ≡ suc (length p.clauses) → AreChained p (length p.clauses) (replicate a none) (replicate b none)
chain_begun p a b none e f last = record {
  within = omega arith;
  each_pred = length-replicate a none ∙ e;
  each_clause = length-replicate b none ∙ f;
  firsts = λ x l. (let l2 : x < a = omega (arith, l, length-replicate a none) in subst (IsNext p x (suc (length p.clauses))) (sym (get_or-replicate a x none 0 l2 ∙ last)) (none_after p x));
  nexts = λ i h c e. absurd (let w = numbered_within p.clauses (suc i) c e in omega (arith, w, h));
}

module _ (p : Listing) (n : ℕ) (first next : List ℕ) (c : Clause) (h : AreChained p (suc n) first next) (at : numbered p.clauses (suc n) ≡ Some c) (known : c.head.pred.0 < length first) where
  f : ℕ
  f = c.head.pred.0

  -- the clause itself comes first now
  itself : IsNext p c.head.pred.0 (suc n) (suc n)
  itself = record {
    from = omega arith;
    to_end = omega (arith, h.within);
    others = λ j k l m e. absurd (omega (arith, l, m));
    found = λ k e. (let both = sym at ∙ e in ap (λ (x : Clause). x.head.pred.0) (same c k both));
  }
    where
      same : (x y : Clause) → Some x ≡ Some y → x ≡ y
      same x y e = cc

  -- and others stay
  other : (g m : ℕ) → g ≢ c.head.pred.0 → IsNext p g (suc (suc n)) m → IsNext p g (suc n) m
  other g m ne is = record {
    from = omega (arith, is.from);
    to_end = is.to_end;
    others = λ j k l b e. go j k l b e (cases_eq j (suc n));
    found = is.found;
  }
    where
      go : (j : ℕ) (k : Clause) → suc n ≤ j → j < m → numbered p.clauses j ≡ Some k → (j ≡ suc n) ⊎ (j ≡ suc n → ⊥) → g ≢ k.head.pred.0
      go j k l b e (inl it) = λ z. ne (let both = sym at ∙ ap (numbered p.clauses) (sym it) ∙ e in z ∙ sym (ap (λ (x : Clause). x.head.pred.0) (same c k both)))
        where
          same : (x y : Clause) → Some x ≡ Some y → x ≡ y
          same x y e = cc
      go j k l b e (inr ne2) = is.others j k (elim (cases_lt j (suc (suc n))) [
        | inl less ↦ absurd (ne2 (omega (arith, less, l)))
        | inr more ↦ omega (arith, more)
      ]) b e

  pub chain_more : AreChained p n (set first c.head.pred.0 (suc n)) (set next n (get_or first c.head.pred.0 0))
  chain_more = record {
    within = omega (arith, h.within);
    each_pred = length-set first c.head.pred.0 (suc n) ∙ h.each_pred;
    each_clause = length-set next n (get_or first c.head.pred.0 0) ∙ h.each_clause;
    firsts = λ g l. first_of g l (cases_eq g c.head.pred.0);
    nexts = λ i l. next_of i l (cases_eq i n);
  }
    where
      first_of : (g : ℕ) → g < length (set first c.head.pred.0 (suc n)) → (g ≡ c.head.pred.0) ⊎ (g ≡ c.head.pred.0 → ⊥) → IsNext p g (suc n) (get_or (set first c.head.pred.0 (suc n)) g 0)
      first_of g l (inl it) =
          subst (λ (x : ℕ). IsNext p x (suc n) (get_or (set first c.head.pred.0 (suc n)) x 0)) (sym it)
          (subst (IsNext p c.head.pred.0 (suc n)) (sym (get_or-set_same first c.head.pred.0 (suc n) 0 known)) itself)
      first_of g l (inr ne) =
          subst (IsNext p g (suc n)) (sym (get_or-set_other first c.head.pred.0 g (suc n) 0 ne))
          (other g (get_or first g 0) ne (h.firsts g (omega (arith, l, length-set first c.head.pred.0 (suc n)))))

      there : n < length next
      there = omega (arith, h.within, h.each_clause)

      next_of : (i : ℕ) → n ≤ i → (i ≡ n) ⊎ (i ≡ n → ⊥) → IsAfter p (suc i) (get_or (set next n (get_or first c.head.pred.0 0)) i 0)
      next_of i l (inl it) =
          subst (λ (x : ℕ). IsAfter p (suc x) (get_or (set next n (get_or first c.head.pred.0 0)) x 0)) (sym it)
          (λ k e.
          subst (IsNext p k.head.pred.0 (suc (suc n))) (sym (get_or-set_same next n (get_or first c.head.pred.0 0) 0 there))
          (subst (λ (x : Clause). IsNext p x.head.pred.0 (suc (suc n)) (get_or first c.head.pred.0 0)) (same c k (sym at ∙ e)) (h.firsts c.head.pred.0 known)))
        where
          same : (x y : Clause) → Some x ≡ Some y → x ≡ y
          same x y e = cc
      next_of i l (inr ne) =
          subst (IsAfter p (suc i)) (sym (get_or-set_other next n i (get_or first c.head.pred.0 0) 0 ne))
          (h.nexts i (elim (cases_lt n i) [
            | inl less ↦ omega (arith, less)
            | inr more ↦ absurd (ne (omega (arith, more, l)))
          ]))

pub clause_at : (cs : List Clause) (k : ℕ) (c : Clause) → 1 ≤ k → slice_get cs (k - 1) ≡ Some c → numbered cs k ≡ Some c
clause_at cs zero c l h = absurd (omega (arith, l))
clause_at cs (suc i) c l h = let e : suc i - 1 ≡ i = omega arith in ap (slice_get cs) (sym e) ∙ h

-- the predicate of an atom is one of the program's
pub pred_within : (preds : List Pred) (vars : ℕ) (a : Atom) → IsAtom preds vars a → a.pred.0 < length preds
pred_within preds vars a is = go (slice_get preds a.pred.0) refl is.arity
  where
    go : (o : Option Pred) → slice_get preds a.pred.0 ≡ o → IsSomeAnd o (λ p. p.arity ≡ length a.args) → a.pred.0 < length preds
    go None e h = absurd h
    go (Some p) e h = slice_get_within preds a.pred.0 p e

pub chain_earlier : (p : Listing) (k m : ℕ) (first next : List ℕ) (c : Clause) → 1 ≤ k → AreChained p k first next → slice_get p.clauses (k - 1) ≡ Some c → IsClause p.preds c → m ≡ get_or first c.head.pred.0 m → AreChained p (k - 1) (set first c.head.pred.0 k) (set next (k - 1) m)
chain_earlier p zero m first next c l h at is e = absurd (omega (arith, l))
chain_earlier p (suc n) m first next c l h at is e =
    let known = pred_within p.preds c.vars c.head is.head in
    let less : suc n - 1 ≡ n = omega arith in
    let inside : c.head.pred.0 < length first = omega (arith, known, h.each_pred) in
    let read : m ≡ get_or first c.head.pred.0 0 = e ∙ sym (get_or_from_slice_get first c.head.pred.0 (get_or first c.head.pred.0 m) 0 (slice_get-get_or first c.head.pred.0 m inside)) in
    subst (λ (w : ℕ × ℕ). AreChained p w.0 (set first c.head.pred.0 (suc n)) (set next w.0 w.1)) (λ i. (sym less i, sym read i))
    (chain_more p n first next c h (clause_at p.clauses (suc n) c l at) inside)
