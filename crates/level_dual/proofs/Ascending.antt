-- The pairs of a component ascend.
use Rattle.std.proofs.Common.{◌≡◌, ◌⊎◌, ℕ, suc, ◌<◌, ◌≤◌, ◌==◌, Bool, true, false, if◌then◌else◌, List, [], ◌∷◌, ◌++◌, map, inl, inr, arith}
use Rattle.cti_terms.specs.declared.atom_list.Atom.{Atom}
use Rattle.cti_terms.specs.declared.clauses.Clause.{Clause}
use Rattle.call_components.specs.Partition.{Partition}
use Rattle.linear_rows.specs.declared.multipliers.Multipliers.{Multipliers}
use Rattle.std.specs.Prelude.{Option, None, Some}
use Rattle.number_tests.specs.Shape.{IsBefore}
use Rattle.termination_model.specs.mappings.ComponentViews.{rank_in}
use Rattle.level_systems.specs.Held.{live_of, numbers_of_call, with_live}
use Rattle.level_systems.specs.Pairs.{calls_from, pairs_from}
use Rattle.level_systems.specs.declared.own_call.OwnCall.{OwnCall}

-- each pair is after the one before it, and the first after this one
abbrev pub AscendFrom : ℕ × ℕ → List (ℕ × ℕ) → Type 0
AscendFrom last [] = Unit {0}
AscendFrom last (q ∷ qs) = IsBefore last q × AscendFrom q qs

before_trans : (a b d : ℕ × ℕ) → IsBefore a b → IsBefore b d → IsBefore a d
before_trans a b d (inl h) (inl k) = inl (omega (arith, h, k))
before_trans a b d (inl h) (inr k) = let e = k.0 in inl (omega (arith, h, e))
before_trans a b d (inr h) (inl k) = let e = h.0 in inl (omega (arith, e, k))
before_trans a b d (inr h) (inr k) = let e = h.0 in let f = k.0 in let l = h.1 in let m = k.1 in inr (omega (arith, e, f), omega (arith, l, m))

pub ascend_lower : (a b : ℕ × ℕ) (qs : List (ℕ × ℕ)) → IsBefore a b → AscendFrom b qs → AscendFrom a qs
ascend_lower a b [] h k = tt
ascend_lower a b (q ∷ qs) h k = (before_trans a b q h k.0, k.1)

-- so do the calls that can be reached
pub live_ascend : (last : ℕ × ℕ) (owns : List OwnCall) → AscendFrom last (map numbers_of_call owns) → AscendFrom last (map numbers_of_call (live_of owns))
live_ascend last [] h = tt
live_ascend last (own ∷ owns) h = go own.empty (live_ascend (numbers_of_call own) owns h.1)
  where
    go : (m : Option Multipliers) → AscendFrom (numbers_of_call own) (map numbers_of_call (live_of owns)) → AscendFrom last (map numbers_of_call (with_live m own (live_of owns)))
    go None rest = (h.0, rest)
    go (Some by) rest = ascend_lower last (numbers_of_call own) (map numbers_of_call (live_of owns)) h.0 rest

-- at most the call j of the clause k
abbrev IsUpTo : ℕ × ℕ → ℕ → ℕ → Type 0
IsUpTo last k j = (last.0 < k) ⊎ ((last.0 ≡ k) × (last.1 ≤ j))

module _ (comps : Partition) (c : ℕ) where
  calls_ascend : (last : ℕ × ℕ) (k j : ℕ) (bs : List Atom) (more : List (ℕ × ℕ)) → IsUpTo last k j → ((q : ℕ × ℕ) → q.0 ≤ k → AscendFrom q more) → AscendFrom last (calls_from comps c k j bs ++ more)
  calls_ascend last k j [] more (inl h) f = f last (omega (arith, h))
  calls_ascend last k j [] more (inr h) f = let e = h.0 in f last (omega (arith, e))
  calls_ascend last k j (b ∷ bs) more h f = go (rank_in comps b.pred.0 == c) h (λ q l. calls_ascend q k (suc j) bs more l f)
    where
      go : (own : Bool) → IsUpTo last k j → ((q : ℕ × ℕ) → IsUpTo q k (suc j) → AscendFrom q (calls_from comps c k (suc j) bs ++ more)) → AscendFrom last (((if own then (k, suc j) ∷ [] else []) ++ calls_from comps c k (suc j) bs) ++ more)
      go true (inl l) rest = (inl l, rest (k, suc j) (inr (omega arith, omega arith)))
      go true (inr l) rest = let m = l.1 in (inr (l.0, omega (arith, m)), rest (k, suc j) (inr (omega arith, omega arith)))
      go false (inl l) rest = rest last (inl l)
      go false (inr l) rest = let m = l.1 in rest last (inr (l.0, omega (arith, m)))

  pub pairs_ascend : (last : ℕ × ℕ) (k : ℕ) (xs : List Clause) → last.0 ≤ k → AscendFrom last (pairs_from comps c k xs)
  pairs_ascend last k [] h = tt
  pairs_ascend last k (x ∷ xs) h = go (rank_in comps x.head.pred.0 == c) (λ q l. pairs_ascend q (suc k) xs l)
    where
      go : (own : Bool) → ((q : ℕ × ℕ) → q.0 ≤ suc k → AscendFrom q (pairs_from comps c (suc k) xs)) → AscendFrom last ((if own then calls_from comps c (suc k) 0 x.body else []) ++ pairs_from comps c (suc k) xs)
      go true rest = calls_ascend last (suc k) 0 x.body (pairs_from comps c (suc k) xs) (inl (omega (arith, h))) rest
      go false rest = rest last (omega (arith, h))
