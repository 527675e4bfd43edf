-- The pairs and the members of a component are those of its own clauses.
use Rattle.std.proofs.Common.{◌≡◌, ℕ, zero, suc, ◌+◌, ◌<◌, ◌==◌, Bool, true, false, if◌then◌else◌, List, [], ◌∷◌, ◌++◌, filter, length, take, slice_get, slice_index_or, Option, None, Some, refl, ap, sym, ◌∙◌, arith}
use Rattle.cti_terms.specs.Listing.{Listing}
use Rattle.cti_terms.specs.declared.clauses.Clause.{Clause}
use Rattle.call_components.specs.Partition.{Partition}
use Rattle.component_clauses.specs.Numbered.{with_clauses}
use Rattle.component_clauses.proofs.OwnClauses.{IsNext}
use Rattle.termination_model.specs.chains.Chain.{clauses_of, component_of, counted, is_number}
use Rattle.termination_model.specs.mappings.ComponentViews.{rank_in}
use Rattle.termination_model.proofs.Lists.{append_assoc}
use Rattle.level_systems.specs.Ordered.{members_by_clauses, with_member}
use Rattle.level_systems.specs.Pairs.{calls_from, pairs_from, pairs_of}
use Rattle.level_systems.proofs.MemberLists.{skip_other}
use Rattle.level_systems.proofs.PairLists.{rank_is, unequal}

unindexed : {X : Type 0} (xs : List X) (i : ℕ) (d : X) → slice_get xs i ≡ None → slice_index_or xs i d ≡ d
unindexed [] i d e = refl
unindexed (y ∷ ys) zero d e = cc
unindexed (y ∷ ys) (suc i) d e = unindexed ys i d e

module _ (comps : Partition) (c : ℕ) where
  -- those of clauses with their numbers
  abbrev pub pairs_in : List (ℕ × Clause) → List (ℕ × ℕ)
  pairs_in [] = []
  pairs_in (k ∷ ks) = calls_from comps c k.0 0 k.1.body ++ pairs_in ks

  abbrev pub members_in : List ℕ → List (ℕ × Clause) → List ℕ
  members_in ms [] = ms
  members_in ms (k ∷ ks) = members_in (with_member comps c ms k.1.head.pred.0) ks

  pub pairs_more : (ks : List (ℕ × Clause)) (k : ℕ × Clause) → pairs_in (ks ++ k ∷ []) ≡ pairs_in ks ++ calls_from comps c k.0 0 k.1.body
  pairs_more [] k = right (calls_from comps c k.0 0 k.1.body)
    where
      right : (xs : List (ℕ × ℕ)) → xs ++ [] ≡ xs
      right [] = refl
      right (x ∷ xs) = ap (λ ys. x ∷ ys) (right xs)
  pairs_more (x ∷ ks) k = ap (λ ys. calls_from comps c x.0 0 x.1.body ++ ys) (pairs_more ks k) ∙ sym (append_assoc (calls_from comps c x.0 0 x.1.body) (pairs_in ks) (calls_from comps c k.0 0 k.1.body))

  pub members_more : (ms : List ℕ) (ks : List (ℕ × Clause)) (k : ℕ × Clause) → members_in ms (ks ++ k ∷ []) ≡ with_member comps c (members_in ms ks) k.1.head.pred.0
  members_more ms [] k = refl
  members_more ms (x ∷ ks) k = members_more (with_member comps c ms x.1.head.pred.0) ks k

  -- the members after one more clause of the list
  pub members_next : (clauses : List Clause) (own : List ℕ) (j : ℕ) (next : IsNext clauses own j) (ms ns : List ℕ) (x : Clause) → x ≡ next.clause
      → ms ≡ members_in [] (with_clauses clauses (take j own)) → with_member comps c ms x.head.pred.0 ≡ ns → ns ≡ members_in [] (with_clauses clauses (take (j + 1) own))
  members_next clauses own j next ms ns x same so_far step =
      sym step
      ∙ ap (λ (y : Clause). with_member comps c ms y.head.pred.0) same
      ∙ ap (λ (qs : List ℕ). with_member comps c qs next.clause.head.pred.0) so_far
      ∙ sym (members_more [] (with_clauses clauses (take j own)) (slice_index_or own j 0, next.clause))
      ∙ ap (members_in []) (sym next.more)

  module _ (inner : c < length comps.members) where
    abbrev is_own : ℕ × Clause → Bool
    is_own k = is_number c (component_of comps k.1.head.pred.0)

    -- the two tests of a predicate say the same
    own_same : (q : ℕ) → is_number c (component_of comps q) ≡ (rank_in comps q == c)
    own_same q = go (slice_get comps.of q) refl
      where
        none : slice_get comps.of q ≡ None → rank_in comps q ≡ length comps.members
        none e = unindexed comps.of q (length comps.members) e

        go : (o : Option ℕ) → slice_get comps.of q ≡ o → is_number c (slice_get comps.of q) ≡ (rank_in comps q == c)
        go None e = ap (is_number c) e ∙ sym (unequal (rank_in comps q) c (λ h. let l = none e in absurd (omega (arith, l, h, inner))) (rank_in comps q == c) refl)
        go (Some d) e = ap (is_number c) e ∙ ap (λ n. n == c) (sym (rank_is comps c q d e))

    pairs_same : (n : ℕ) (xs : List Clause) → pairs_in (filter is_own (counted (suc n) xs)) ≡ pairs_from comps c n xs
    pairs_same n [] = refl
    pairs_same n (x ∷ xs) = go (is_own (suc n, x)) (rank_in comps x.head.pred.0 == c) (own_same x.head.pred.0) (pairs_same (suc n) xs)
      where
        go : (a b : Bool) → a ≡ b → pairs_in (filter is_own (counted (suc (suc n)) xs)) ≡ pairs_from comps c (suc n) xs
            → pairs_in (if a then (suc n, x) ∷ filter is_own (counted (suc (suc n)) xs) else filter is_own (counted (suc (suc n)) xs)) ≡ (if b then calls_from comps c (suc n) 0 x.body else []) ++ pairs_from comps c (suc n) xs
        go true true e h = ap (λ ys. calls_from comps c (suc n) 0 x.body ++ ys) h
        go false false e h = h
        go true false e h = cc
        go false true e h = cc

    members_same : (n : ℕ) (ms : List ℕ) (xs : List Clause) → members_in ms (filter is_own (counted n xs)) ≡ members_by_clauses comps c ms xs
    members_same n ms [] = refl
    members_same n ms (x ∷ xs) = go (is_own (n, x)) refl (members_same (suc n) (with_member comps c ms x.head.pred.0) xs) (members_same (suc n) ms xs)
      where
        next : List ℕ
        next = with_member comps c ms x.head.pred.0

        rest : List (ℕ × Clause)
        rest = filter is_own (counted (suc n) xs)

        go : (b : Bool) → is_own (n, x) ≡ b → members_in next rest ≡ members_by_clauses comps c next xs → members_in ms rest ≡ members_by_clauses comps c ms xs
            → members_in ms (if is_own (n, x) then (n, x) ∷ rest else rest) ≡ members_by_clauses comps c next xs
        go true e taken left = (λ i. members_in ms (if e i then (n, x) ∷ rest else rest)) ∙ taken
        go false e taken left =
            let other : (rank_in comps x.head.pred.0 == c) ≡ false = sym (own_same x.head.pred.0) ∙ e in
            (λ i. members_in ms (if e i then (n, x) ∷ rest else rest)) ∙ left ∙ ap (λ ns. members_by_clauses comps c ns xs) (sym (skip_other comps c ms x.head.pred.0 other))

    pub pairs_are : (p : Listing) → pairs_in (clauses_of p comps c) ≡ pairs_of p comps c
    pairs_are p = pairs_same 0 p.clauses

    pub members_are_own : (p : Listing) → members_in [] (clauses_of p comps c) ≡ members_by_clauses comps c [] p.clauses
    members_are_own p = members_same 1 [] p.clauses
