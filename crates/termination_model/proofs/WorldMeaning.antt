-- Queries end in each world that agrees with what is stated, for claims of any meaning.
use Rattle.std.proofs.Common.{◌≡◌, ℕ, zero, suc, ◌≤◌, max, Bool, true, false, List, [], ◌∷◌, ◌++◌, length, slice_get, Option, None, Some, unwrap_or, option_and_then, ◌⊎◌, inl, inr, refl, ap, sym, subst, arith}
use Rattle.std.specs.List.{AllByRecursion}
use Rattle.cti_terms.specs.Tree.{Variable}
use Rattle.cti_terms.specs.declared.atom_list.Atom.{Atom}
use Rattle.cti_terms.specs.declared.clauses.Clause.{Clause}
use Rattle.cti_terms.specs.declared.derivation.Goal.{Goal}
use Rattle.cti_terms.specs.Derive.{query}
use Rattle.cti_terms.specs.Listing.{Listing, IsProgram, numbered}
use Rattle.cti_terms.specs.Unify.{Binding, applied}
use Rattle.cti_terms.specs.Resolve.{resolve}
use Rattle.cti_terms.specs.ResolutionStep.{Leaves, LeavesFrom, Passes}
use Rattle.cti_terms.specs.Worlds.{Answer, World, resolve_in, left_in, BoundedAfter}
use Rattle.cti_terms.proofs.ResolveLaws.{resolve_finds}
use Rattle.cti_terms.proofs.WorldLaws.{numbered_within, step_kinds, no_step_in}
use Rattle.termination_model.specs.sizes.Rows.{IsUpper}
use Rattle.termination_model.specs.grounds.Grounds.{HasArity, truth_row, IsGround}
use Rattle.termination_model.proofs.Bound.{within}
use Rattle.termination_model.proofs.Facts.{ByClause, ByItself, some_is}
use Rattle.termination_model.proofs.Induction.{FrontLets, query_ends, mode_ends}
use Rattle.termination_model.proofs.Meaning.{Meaning, IsKnown, Admits, Shows}
use Rattle.termination_model.proofs.WorldBound.{bounded_in_by_steps}
use Rattle.termination_model.proofs.Walk.{all_at}

-- what holds of each element holds of the one with a number
pub numbered_at : {X : Type 0} (P : X → Type 0) (xs : List X) (k : ℕ) (x : X) → AllByRecursion P xs → numbered xs k ≡ Some x → P x
numbered_at P xs zero x all e = absurd (cc)
numbered_at P xs (suc i) x all e = all_at P xs i x all e

module _ {A M : Type 0} (p : Listing) (c : Meaning A M) (prog : IsProgram p) (shows : Shows c p) (is_open : ℕ → Bool) (w : World)
    (answers : (past : List ℕ) (n : ℕ) (a : Atom) (k : ℕ) (r : Answer) → HasArity p.preds a.pred.0 (length a.args) → is_open a.pred.0 ≡ true → numbered (w past n a) k ≡ Some r
    → ((v : ℕ → Bool) → IsGround c.truth c.grounds (λ x. c.truth v (applied r.0 (Variable x))) a) × ((s : ℕ → A) → IsKnown c (λ x. c.value s (applied r.0 (Variable x))) a))
    (builtins : (a : Atom) (rest : List Atom) (n : ℕ) (bs : List Binding) (h : Goal) → Passes p.arithmetic a rest n bs h → ByItself p c a rest h)
    (Lets : ℕ → M → Type 0) (lets : (r : ℕ) → AllByRecursion (Lets r) (c.measures r))
    (First : List Atom → Type 0) (first : (xs : List Atom) → FrontLets c Lets xs → First xs) where
  abbrev NextIn : List Atom → ℕ → Goal → Type 0
  NextIn xs n h = (past : List ℕ) × (k : ℕ) × (bs : List Binding) × (resolve_in p is_open w past (record { atoms = xs; fresh = n }) k ≡ Some (bs, h))

  -- what begins each goal that is left
  abbrev pub FirstAfter : List ℕ → Goal → Type 0
  FirstAfter past g = (ks : List ℕ) (h : Goal) → left_in p is_open w past g ks ≡ Some h → First h.atoms

  -- whatever the numbers before
  abbrev pub SmallIn : Goal → Type 0
  SmallIn g = (past : List ℕ) → BoundedAfter p is_open w past g × FirstAfter past g

  no_next_in : (n : ℕ) (h : Goal) → NextIn [] n h → ⊥
  no_next_in n h (past, k, bs, e) = no_step_in p is_open w past n k bs h e

  kinds_in : (a : Atom) (rest : List Atom) (n : ℕ) (h : Goal) → HasArity p.preds a.pred.0 (length a.args) → NextIn (a ∷ rest) n h → ByClause p a rest n h ⊎ ByItself p c a rest h
  kinds_in a rest n h arity (past, k, bs, e) = step_kinds p is_open w a rest n past k bs h e (ByClause p a rest n h ⊎ ByItself p c a rest h)
      (λ asked r there left. let says = answers past n a k r arity asked there in inr (r.0, ap (λ (x : List Binding × Goal). x.1.atoms) (sym left), says.0, says.1))
      (λ closed found. other k found)
    where
      other : (m : ℕ) → resolve p (record { atoms = a ∷ rest; fresh = n }) m ≡ Some (bs, h) → ByClause p a rest n h ⊎ ByItself p c a rest h
      other zero found = inr (builtins a rest n bs h (resolve_finds p (record { atoms = a ∷ rest; fresh = n }) zero bs h found))
      other (suc j) found =
          let is = some_is (λ (x : Clause). Leaves a rest n x bs h) (slice_get p.clauses j) (resolve_finds p (record { atoms = a ∷ rest; fresh = n }) (suc j) bs h found) in
          inl (j, is.0, bs, is.1, is.2)

  -- the numbers that resolve a goal: of answers, or of clauses
  most_number : (xs : List Atom) (n : ℕ) (past : List ℕ) → (limit : ℕ) × ((k : ℕ) (bs : List Binding) (h : Goal) → resolve_in p is_open w past (record { atoms = xs; fresh = n }) k ≡ Some (bs, h) → k ≤ limit)
  most_number [] n past = (0, λ k bs h e. absurd (no_step_in p is_open w past n k bs h e))
  most_number (a ∷ rest) n past = (
    max (length (w past n a)) (length p.clauses),
    λ k bs h e. step_kinds p is_open w a rest n past k bs h e (k ≤ max (length (w past n a)) (length p.clauses))
        (λ asked r there left. omega (arith, numbered_within (w past n a) k r there))
        (λ closed found. below k bs h found),
  )
    where
      below : (k : ℕ) (bs : List Binding) (h : Goal) → resolve p (record { atoms = a ∷ rest; fresh = n }) k ≡ Some (bs, h) → k ≤ max (length (w past n a)) (length p.clauses)
      below zero bs h e = omega arith
      below (suc i) bs h e = omega (arith, within (λ x. LeavesFrom (a ∷ rest) n x bs h) p.clauses i (resolve_finds p (record { atoms = a ∷ rest; fresh = n }) (suc i) bs h e))

  by_steps_in : (xs : List Atom) (n : ℕ) → FrontLets c Lets xs → ((h : Goal) → NextIn xs n h → SmallIn h) → SmallIn (record { atoms = xs; fresh = n })
  by_steps_in xs n front step past = (bounded_in_by_steps p is_open w past g (most_number xs n past).0 (most_number xs n past).1 (λ k bs h e. (step h (past, k, bs, e) (past ++ k ∷ [])).0), allowed)
    where
      g : Goal
      g = record { atoms = xs; fresh = n }

      allowed : FirstAfter past g
      allowed [] h e = subst First (ap (λ (o : Option Goal). (unwrap_or o g).atoms) e) (first xs front)
      allowed (k ∷ ks) h e = go (resolve_in p is_open w past g k) refl e
        where
          go : (o : Option (List Binding × Goal)) → resolve_in p is_open w past g k ≡ o → option_and_then (λ r. left_in p is_open w (past ++ k ∷ []) r.1 ks) o ≡ Some h → First h.atoms
          go None found left = absurd (cc)
          go (Some (bs, i)) found left = (step i (past, k, bs, found) (past ++ k ∷ [])).1 ks h left

  pub rows_end_there : (a : Atom) (n : ℕ) → HasArity p.preds a.pred.0 (length a.args) → Admits c a.pred.0 (truth_row c.truth (λ _. false) a) → SmallIn (query a n)
  rows_end_there a n arity admits = query_ends p c prog shows Lets lets SmallIn NextIn by_steps_in no_next_in kinds_in a n arity admits

  pub modes_end_there : (a : Atom) (n : ℕ) → HasArity p.preds a.pred.0 (length a.args) → (bs : List Bool) → Admits c a.pred.0 bs → IsUpper (truth_row c.truth (λ _. false) a) bs → SmallIn (query a n)
  modes_end_there a n arity bs admits meets = mode_ends p c prog shows Lets lets SmallIn NextIn by_steps_in no_next_in kinds_in a n arity bs admits meets
