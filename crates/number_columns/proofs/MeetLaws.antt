-- First positions of variables, and what is linked to them.
use Rattle.std.proofs.Common.{◌≡◌, ◌∙◌, ℕ, zero, suc, ◌+◌, ◌<◌, ◌≤◌, Bool, true, false, ◌&&◌, ◌||◌, List, [], ◌∷◌, length, slice_get, set, Option, None, Some, inl, inr, refl, ap, sym, subst, arith}
use Rattle.std.proofs.lemmas.Bool.{cases_eq}
use Rattle.cti_terms.specs.Arithmetic.{Arithmetic}
use Rattle.cti_terms.specs.Spell.{trees_of}
use Rattle.cti_terms.specs.declared.builtins.Arith.{Arith}
use Rattle.cti_terms.specs.declared.clauses.Clause.{Clause}
use Rattle.cti_terms.specs.declared.syntax.Term.{Term}
use Rattle.number_columns.specs.Links.{AreFalling, AreLinked, LinksMore, Respects, ThisPair}
use Rattle.number_columns.specs.Meeting.{ClausePairs, IsMeeting, IsMet, IsReady, KeepsMet, StandsAt}
use Rattle.number_columns.specs.Numeric.{all_evaluated, some_operand}
use Rattle.number_columns.proofs.LinkLaws.{links_then}

pub place_same : {X : Type 0} → (xs : List X) (i : ℕ) (x : X) → i < length xs → slice_get (set xs i x) i ≡ Some x
place_same [] i x lt = absurd (omega arith)
place_same (y ∷ ys) zero x lt = refl
place_same (y ∷ ys) (suc i) x lt = place_same ys i x (omega arith)

pub place_other : {X : Type 0} → (xs : List X) (i j : ℕ) (x : X) → (j ≡ i → ⊥) → slice_get (set xs i x) j ≡ slice_get xs j
place_other [] i j x ne = refl
place_other (y ∷ ys) zero zero x ne = absurd (ne refl)
place_other (y ∷ ys) zero (suc j) x ne = refl
place_other (y ∷ ys) (suc i) zero x ne = refl
place_other (y ∷ ys) (suc i) (suc j) x ne = place_other ys i j x (λ e. ne (ap suc e))

-- ---- a variable that was met before

module _ (a b : List ℕ) (first : List (Option ℕ)) (v m node : ℕ) (more : LinksMore (ThisPair m node) a b) (linked : AreLinked b m node) (at : slice_get first v ≡ Some (Some m)) where
  pub some_meeting : (ar : Arithmetic) (c : Clause) (start : List ℕ) → IsMeeting ar c start a first → StandsAt c v node → IsMeeting ar c start b first
  some_meeting ar c start h s = record {
    links = links_then (ClausePairs ar c) (ClausePairs ar c) (ThisPair m node) start a b (λ n k p. p) (λ n k p. inl (v, subst (StandsAt c v) (sym p.0) (h.stands v m at), subst (StandsAt c v) (sym p.1) s)) h.links more;
    stands = h.stands;
  }

  pub some_keeps : KeepsMet a first b first
  some_keeps x n (k, there, with) = (k, there, λ f r. with f (more.keeps f r))

  pub some_met : IsMet b first v node
  some_met = (m, at, linked)

-- ---- a variable that is met for the first time

module _ (ps : List ℕ) (first : List (Option ℕ)) (v node : ℕ) (none : slice_get first v ≡ Some None) (known : v < length first) where
  at_v : slice_get (set first v (Some node)) v ≡ Some (Some node)
  at_v = place_same first v (Some node) known

  -- where the new list has a node, it is the new one, or one of the old list
  own : (P : ℕ → ℕ → Type 0) → P v node → ((x n : ℕ) → slice_get first x ≡ Some (Some n) → P x n) → (x n : ℕ) → slice_get (set first v (Some node)) x ≡ Some (Some n) → P x n
  own P here there x n e = elim (cases_eq x v) [
    | inl same ↦ at_here same
    | inr ne ↦ there x n (sym (place_other first v x (Some node) ne) ∙ e)
  ]
    where
      at_here : x ≡ v → P x n
      at_here same =
          let e' : slice_get (set first v (Some node)) v ≡ Some (Some n) = ap (slice_get (set first v (Some node))) (sym same) ∙ e in
          let is : node ≡ n = cc at_v in
          subst (λ (y : ℕ). P y n) (sym same) (subst (P v) is here)

  pub none_ready : IsReady ps first → node < length ps → IsReady ps (set first v (Some node))
  none_ready h lt = record { falling = h.falling; within = own (λ x n. n < length ps) lt h.within }

  pub none_meeting : (ar : Arithmetic) (c : Clause) (start : List ℕ) → IsMeeting ar c start ps first → StandsAt c v node → IsMeeting ar c start ps (set first v (Some node))
  none_meeting ar c start h s = record { links = h.links; stands = own (StandsAt c) s h.stands }

  pub none_keeps : KeepsMet ps first ps (set first v (Some node))
  none_keeps x n (k, there, with) = (
    k,
    elim (cases_eq x v) [
      | inl same ↦ absurd (not_none same)
      | inr ne ↦ place_other first v x (Some node) ne ∙ there
    ],
    with,
  )
    where
      not_none : x ≡ v → ⊥
      not_none same = let e : slice_get first v ≡ Some (Some k) = ap (slice_get first) (sym same) ∙ there in cc none

  pub none_met : IsMet ps (set first v (Some node)) v node
  none_met = (node, at_v, λ f r. refl)

-- ---- operands

pub evaluated_count : (o : Option Arith) (x : ℕ) (ts : List Term) → length (all_evaluated o x (trees_of ts)) ≡ length ts
evaluated_count o x [] = refl
evaluated_count o x (t ∷ ts) = ap suc (evaluated_count o x ts)

pub no_operand : (o : Arith) (f : ℕ) (bs : List Bool) → 3 ≤ length bs → some_operand o f bs ≡ false
no_operand o f [] h = refl
no_operand o f (a ∷ []) h = absurd (omega arith)
no_operand o f (a ∷ (b ∷ [])) h = absurd (omega arith)
no_operand o f (a ∷ (b ∷ (c ∷ cs))) h = refl
