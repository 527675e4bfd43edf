-- What holds over some predicates holds over more.
use Rattle.std.proofs.Common.{◌≡◌, ◌≢◌, ◌==◌, ℕ, zero, suc, ◌+◌, ◌<◌, ◌≤◌, ◌^◌, Bool, true, false, ◌⊎◌, inl, inr, Option, List, [], ◌∷◌, ◌++◌, length, slice_get, get_or, drop, IsSomeAnd, Some, None, position, Contains, true≢false, refl, if◌then◌else◌, ap, sym, ◌∙◌, subst, arith, eqb-true, length-append}
use Rattle.std.proofs.lemmas.Bool.{and_parts}
use Rattle.std.proofs.lemmas.Bool.Decides.{nat_tests}
use Rattle.std.proofs.lemmas.List.{at_drop_more}
use Rattle.std.proofs.lemmas.Option.{get_or_from_slice_get, slice_get_within}
use Rattle.std.specs.Bool.{Decides}
use Rattle.std.specs.List.{AllByRecursion, AllPairs, list_any, position_or_len}
use Rattle.cti_terms.specs.declared.atom_list.Atom.{Atom}
use Rattle.cti_terms.specs.declared.builtins.Arith.{Arith}
use Rattle.cti_terms.specs.declared.builtins.Builtin.{Builtin}
use Rattle.cti_terms.specs.declared.clauses.Clause.{Clause}
use Rattle.cti_terms.specs.declared.limits.TheConstants.{MOST_ARGUMENTS}
use Rattle.cti_terms.specs.declared.predicates.Pred.{Pred}
use Rattle.cti_terms.specs.declared.predicates.PredId.{PredId}
use Rattle.cti_terms.specs.Arithmetic.{Arithmetic, kind_among}
use Rattle.cti_terms.specs.Listing.{IsAtom, IsClause, IsOrdinary, IsProgram, is_pred, with_pred}
use Rattle.cti_terms.proofs.Places.{position-found, position-missing, list_any-there, at_own_place, others_stay}

all_map : {X : Type 0} (P Q : X → Type 0) → ((x : X) → P x → Q x) → (xs : List X) → AllByRecursion P xs → AllByRecursion Q xs
all_map P Q f [] h = h
all_map P Q f (x ∷ xs) h = (f x h.0, all_map P Q f xs h.1)

all_push : {X : Type 0} (P : X → Type 0) (xs : List X) (y : X) → AllByRecursion P xs → P y → AllByRecursion P (xs ++ y ∷ [])
all_push P [] y h p = (p, h)
all_push P (x ∷ xs) y h p = (h.0, all_push P xs y h.1 p)

there_still : {X : Type 0} (P : X → Type 0) (xs ys : List X) (i : ℕ) → IsSomeAnd (slice_get xs i) P → IsSomeAnd (slice_get (xs ++ ys) i) P
there_still P [] ys i h = absurd h
there_still P (x ∷ xs) ys zero h = h
there_still P (x ∷ xs) ys (suc i) h = there_still P xs ys i h

-- the test of a name and an arity finds that predicate alone
one_pred : (p q : Pred) → is_pred p.name.0 p.arity q ≡ true → q ≡ p
one_pred p q h =
    let name : p.name.0 ≡ q.name.0 = eqb-true p.name.0 q.name.0 (and_parts _ _ h).0 in
    let arity : p.arity ≡ q.arity = eqb-true p.arity q.arity (and_parts _ _ h).1 in
    λ i. record { name = record { 0 = sym name i }; arity = sym arity i }

-- and finds it
pub pred_decides : (p q : Pred) → Decides (is_pred p.name.0 p.arity q) (p ≡ q)
pred_decides p q = (λ h. sym (one_pred p q h), λ e. subst (λ (r : Pred). is_pred p.name.0 p.arity r ≡ true) e itself)
  where
    itself : is_pred p.name.0 p.arity p ≡ true
    itself = grind (arith, nat_tests)

module _ (preds : List Pred) (p : Pred) where
  atom_still : (vars : ℕ) (a : Atom) → IsAtom preds vars a → IsAtom (preds ++ p ∷ []) vars a
  atom_still vars a h = record { arity = there_still _ preds (p ∷ []) a.pred.0 h.arity; below = h.below }

  clause_still : (c : Clause) → IsClause preds c → IsClause (preds ++ p ∷ []) c
  clause_still c h = record {
    head = atom_still c.vars c.head h.head;
    body = all_map (IsAtom preds c.vars) (IsAtom (preds ++ p ∷ []) c.vars) (atom_still c.vars) c.body h.body;
    few = h.few;
    small = h.small;
    short = h.short;
  }

  -- a program with one more predicate is a program
  pub program_still : (clauses : List Clause) (ar : Arithmetic) → IsProgram (record { preds = preds; clauses = clauses; arithmetic = ar }) → p.arity ≤ MOST_ARGUMENTS → length preds + 1 < 2 ^ 32
      → AllPairs (λ (q r : Pred). q ≢ r) (with_pred preds p) → IsProgram (record { preds = with_pred preds p; clauses = clauses; arithmetic = ar })
  program_still clauses ar h small room distinct = go (list_any (is_pred p.name.0 p.arity) preds) distinct
    where
      go : (b : Bool) → AllPairs (λ (q r : Pred). q ≢ r) (if b then preds else preds ++ p ∷ []) → IsProgram (record { preds = if b then preds else preds ++ p ∷ []; clauses = clauses; arithmetic = ar })
      go true d = h
      go false d = record {
        arities = all_push (λ (q : Pred). q.arity ≤ MOST_ARGUMENTS) preds p h.arities small;
        distinct = d;
        clauses = all_map (IsClause preds) (IsClause (preds ++ p ∷ [])) clause_still clauses h.clauses;
        preds_fit = simp length-append (omega arith);
        clauses_fit = h.clauses_fit;
        binary = λ q b is. there_still (λ (d : Pred). d.arity ≡ 2) preds (p ∷ []) q (h.binary q b is);
        ordinary = h.ordinary;
      }

  -- one that is not there goes last
  pub pred_new : (Contains preds p → ⊥) → with_pred preds p ≡ preds ++ p ∷ []
  pred_new none = go (list_any (is_pred p.name.0 p.arity) preds) refl
    where
      go : (b : Bool) → list_any (is_pred p.name.0 p.arity) preds ≡ b → (if b then preds else preds ++ p ∷ []) ≡ preds ++ p ∷ []
      go true e =
          let at = at_own_place (is_pred p.name.0 p.arity) p (one_pred p) preds e in
          absurd (none (position_or_len (is_pred p.name.0 p.arity) preds, slice_get_within preds (position_or_len (is_pred p.name.0 p.arity) preds) p at, get_or_from_slice_get preds (position_or_len (is_pred p.name.0 p.arity) preds) p p at))
      go false e = refl

  -- earlier predicates keep their numbers
  pub preds_stay : (i : ℕ) → i < length preds → slice_get (with_pred preds p) i ≡ slice_get preds i
  preds_stay = others_stay (is_pred p.name.0 p.arity) p (one_pred p) preds

  -- a predicate that is found is at its place
  pub pred_found : (i : ℕ) → Some i ≡ position (is_pred p.name.0 p.arity) preds → slice_get preds i ≡ Some p
  pred_found i h =
      let at = position-found (is_pred p.name.0 p.arity) preds i h in
      ap (slice_get preds) at.0 ∙ at_own_place (is_pred p.name.0 p.arity) p (one_pred p) preds at.1

  -- and is there
  pub pred_there : (i : ℕ) → slice_get preds i ≡ Some p → Contains preds p
  pred_there i h = (i, slice_get_within preds i p h, get_or_from_slice_get preds i p p h)

  -- one that is not found is not there
  pub pred_absent : None ≡ position (is_pred p.name.0 p.arity) preds → Contains preds p → ⊥
  pred_absent h there =
      let some = list_any-there (is_pred p.name.0 p.arity) preds there.0 p there.1 there.2 ((pred_decides p p).1 refl) in
      true≢false (sym some ∙ position-missing (is_pred p.name.0 p.arity) preds h)

-- a kind among built-in predicates and one more
kind_more : (bs : List (PredId × Builtin)) (p : PredId) (kind : Builtin) (q : ℕ) (b : Builtin) → kind_among (bs ++ (p, kind) ∷ []) q ≡ Some b → (kind_among bs q ≡ Some b) ⊎ (p.0 ≡ q)
kind_more [] p kind q b e = go (p.0 == q) refl e
  where
    go : (o : Bool) → (p.0 == q) ≡ o → (if o then Some kind else None) ≡ Some b → (kind_among [] q ≡ Some b) ⊎ (p.0 ≡ q)
    go true t e = inr (eqb-true p.0 q t)
    go false t e = cc
kind_more (x ∷ bs) p kind q b e = go (x.0.0 == q) (kind_more bs p kind q b) e
  where
    go : (o : Bool) → (kind_among (bs ++ (p, kind) ∷ []) q ≡ Some b → (kind_among bs q ≡ Some b) ⊎ (p.0 ≡ q)) → (if o then Some x.1 else kind_among (bs ++ (p, kind) ∷ []) q) ≡ Some b
        → ((if o then Some x.1 else kind_among bs q) ≡ Some b) ⊎ (p.0 ≡ q)
    go true more e = inl e
    go false more e = more e

kind_other : (bs : List (PredId × Builtin)) (p : PredId) (kind : Builtin) (q : ℕ) → kind_among bs q ≡ None → p.0 ≢ q → kind_among (bs ++ (p, kind) ∷ []) q ≡ None
kind_other bs p kind q none other = go (kind_among (bs ++ (p, kind) ∷ []) q) refl
  where
    go : (o : Option Builtin) → kind_among (bs ++ (p, kind) ∷ []) q ≡ o → o ≡ None
    go None e = refl
    go (Some b) e = elim (kind_more bs p kind q b e) [
      | inl old ↦ let f = sym none ∙ old in cc
      | inr same ↦ absurd (other same)
    ]

within : {X : Type 0} (P : X → Type 0) (xs : List X) (i : ℕ) → IsSomeAnd (slice_get xs i) P → i < length xs
within P [] i h = absurd h
within P (x ∷ xs) zero h = omega arith
within P (x ∷ xs) (suc i) h = omega (arith, within P xs i h)

last_there : {X : Type 0} (P : X → Type 0) (xs : List X) (x : X) → P x → IsSomeAnd (slice_get (xs ++ x ∷ []) (length xs)) P
last_there P [] x h = h
last_there P (y ∷ xs) x h = last_there P xs x h

module _ (preds : List Pred) (p : Pred) where
  clauses_ordinary : (cs : List Clause) (bs : List (PredId × Builtin)) (o : Option Arith) (q : PredId) (kind : Builtin) → q.0 ≡ length preds → AllByRecursion (IsClause preds) cs
      → AllByRecursion (IsOrdinary (record { names = o; builtins = bs })) cs → AllByRecursion (IsOrdinary (record { names = o; builtins = bs ++ (q, kind) ∷ [] })) cs
  clauses_ordinary [] bs o q kind at sound h = tt
  clauses_ordinary (c ∷ cs) bs o q kind at sound h =
      let lt : c.head.pred.0 < length preds = within (λ (d : Pred). d.arity ≡ length c.head.args) preds c.head.pred.0 sound.0.head.arity in
      (kind_other bs q kind c.head.pred.0 h.0 (λ e. absurd (omega (arith, e, at))), clauses_ordinary cs bs o q kind at sound.1 h.1)

  -- a program with one more predicate, which is built in, is a program
  pub program_with_builtin : (clauses : List Clause) (bs : List (PredId × Builtin)) (o : Option Arith) (q : PredId) (kind : Builtin)
      → IsProgram (record { preds = preds; clauses = clauses; arithmetic = record { names = o; builtins = bs } }) → p.arity ≡ 2 → q.0 ≡ length preds → length preds + 1 < 2 ^ 32
      → AllPairs (λ (q r : Pred). q ≢ r) (preds ++ p ∷ []) → IsProgram (record { preds = preds ++ p ∷ []; clauses = clauses; arithmetic = record { names = o; builtins = bs ++ (q, kind) ∷ [] } })
  program_with_builtin clauses bs o q kind h two at room distinct = record {
    arities = all_push (λ (r : Pred). r.arity ≤ MOST_ARGUMENTS) preds p h.arities (omega (arith, two));
    distinct = distinct;
    clauses = all_map (IsClause preds) (IsClause (preds ++ p ∷ [])) (clause_still preds p) clauses h.clauses;
    preds_fit = simp length-append (omega arith);
    clauses_fit = h.clauses_fit;
    binary = λ r b is. elim (kind_more bs q kind r b is) [
      | inl old ↦ there_still (λ (d : Pred). d.arity ≡ 2) preds (p ∷ []) r (h.binary r b old)
      | inr same ↦ subst (λ (i : ℕ). IsSomeAnd (slice_get (preds ++ p ∷ []) i) (λ (d : Pred). d.arity ≡ 2)) (sym at ∙ same) (last_there (λ (d : Pred). d.arity ≡ 2) preds p two)
    ];
    ordinary = clauses_ordinary clauses bs o q kind at h.clauses h.ordinary;
  }

-- the rest of a list of built-in predicates from one of them on
pub kind_from : (bs : List (PredId × Builtin)) (n : ℕ) (x : PredId × Builtin) (q : ℕ) → n < length bs → get_or bs n x ≡ x → kind_among (drop n bs) q ≡ (if x.0.0 == q then Some x.1 else kind_among (drop (n + 1) bs) q)
kind_from bs n x q lt e =
    at_drop_more (λ (ys : List (PredId × Builtin)). kind_among ys q) bs n x lt
    ∙ ap (λ (y : PredId × Builtin). if y.0.0 == q then Some y.1 else kind_among (drop (n + 1) bs) q) e
