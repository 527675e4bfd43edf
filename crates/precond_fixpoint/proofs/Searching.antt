-- The search downward, and smaller supports.
use Rattle.std.proofs.Common.{◌≡◌, ℕ, zero, suc, Bool, true, false, IsTrue, if◌then◌else◌, List, [], ◌∷◌, length, slice_get, Some, ◌⊎◌, inl, inr, refl, ap, sym, subst}
use Rattle.std.specs.List.{AllByRecursion}
use Rattle.std.proofs.lemmas.List.{length-map}
use Rattle.cti_terms.specs.Tree.{Tree}
use Rattle.cti_terms.specs.Listing.{Listing}
use Rattle.cti_terms.specs.declared.atom_list.Atom.{Atom}
use Rattle.cti_terms.specs.declared.clauses.Clause.{Clause}
use Rattle.termination_model.specs.grounds.Grounds.{Family, HasArity, truth_row, IsGround}
use Rattle.termination_model.specs.sizes.Rows.{IsUpper}
use Rattle.truth_rows.specs.Rules.{KeepsSets}
use Rattle.precond_fixpoint.specs.Greatest.{KeepsIn, IsInsideIn, IsGreatestIn, IsBroken, AreAdmittedIn, IsWithinIn, Search, Searches, Solved, families, SomeSolved, SmallerIsBetterIn, LargerInside}
use Rattle.termination_model.proofs.Covering.{covered_at, covered_by}

pub by_place : {X : Type 0} (P : X → Type 0) (xs : List X) → AllByRecursion P xs → (i : ℕ) (x : X) → slice_get xs i ≡ Some x → P x
by_place P [] all i x e = cc
by_place P (y ∷ ys) all zero x e = let same : y ≡ x = cc in subst P same all.0
by_place P (y ∷ ys) all (suc i) x e = by_place P ys all.1 i x e

module _ (truth : (ℕ → Bool) → Tree → Bool) (p : Listing) (is_member : ℕ → Bool) (allowed grounds : Family) where
  -- a row that is broken in a greater family is in none that keeps the rule
  inside_call : (other old : Family) → IsInsideIn truth p is_member allowed grounds other old → (v : ℕ → Bool) (b : Atom) → HasArity p.preds b.pred.0 (length b.args)
      → (m : Bool) → is_member b.pred.0 ≡ m → IsGround truth (if m then other else allowed) v b → IsGround truth (if m then old else allowed) v b
  inside_call other old inside v b arity true e h = inside b.pred.0 (truth_row truth v b) e (subst (HasArity p.preds b.pred.0) (sym (length-map b.args (truth v))) arity) h
  inside_call other old inside v b arity false e h = h

  unbroken : (coefficients : ℕ → List ℕ) (other old : Family) → KeepsIn truth p is_member allowed grounds coefficients other → IsInsideIn truth p is_member allowed grounds other old
      → (i : ℕ) (k : Clause) → slice_get p.clauses i ≡ Some k → is_member k.head.pred.0 ≡ true
      → ((j : ℕ) (b : Atom) → slice_get k.body j ≡ Some b → HasArity p.preds b.pred.0 (length b.args))
      → (row : List Bool) → IsTrue (other k.head.pred.0 row) → IsBroken truth p is_member allowed grounds old k row → ⊥
  unbroken coefficients other old keeps inside i k at member arities row has broken =
      let rule = by_place (λ (k : Clause). is_member k.head.pred.0 ≡ true → KeepsSets truth other allowed grounds is_member k) p.clauses keeps.rule i k at member in
      let here = rule broken.values (subst (λ (r : List Bool). IsTrue (other k.head.pred.0 r)) (sym broken.head) has) broken.place broken.call broken.there broken.reached in
      broken.outside (inside_call other old inside broken.values broken.call (arities broken.place broken.call broken.there) (is_member broken.call.pred.0) refl here)

  search : (coefficients : ℕ → List ℕ) → Search truth p is_member allowed grounds coefficients
  search coefficients = record {
    start = λ all other has keeps q row member arity h. has q row member arity (keeps.covered q row member h);
    step = λ old new i k at member left arities other keeps inside q row m arity h. go old new i k at member arities other keeps inside q row h (left q row m arity (inside q row m arity h));
    last = λ all last start removed keeps. record { keeps = keeps; greatest = λ other k. removed other k (start other k) };
  }
    where
      go : (old new : Family) (i : ℕ) (k : Clause) → slice_get p.clauses i ≡ Some k → is_member k.head.pred.0 ≡ true
          → ((j : ℕ) (b : Atom) → slice_get k.body j ≡ Some b → HasArity p.preds b.pred.0 (length b.args))
          → (other : Family) → KeepsIn truth p is_member allowed grounds coefficients other → IsInsideIn truth p is_member allowed grounds other old
          → (q : ℕ) (row : List Bool) → IsTrue (other q row) → IsTrue (new q row) ⊎ ((q ≡ k.head.pred.0) × IsBroken truth p is_member allowed grounds old k row) → IsTrue (new q row)
      go old new i k at member arities other keeps inside q row h (inl t) = t
      go old new i k at member arities other keeps inside q row h (inr b) =
          absurd (unbroken coefficients other old keeps inside i k at member arities row (subst (λ (r : ℕ). IsTrue (other r row)) b.0 h) b.1)

pub searches : Searches
searches truth p is_member allowed grounds coefficients = search truth p is_member allowed grounds coefficients

pub upper_length : (us bs : List Bool) → IsUpper us bs → length us ≡ length bs
upper_length [] [] h = refl
upper_length [] (b ∷ bs) h = absurd h
upper_length (u ∷ us) [] h = absurd h
upper_length (u ∷ us) (b ∷ bs) h = ap suc (upper_length us bs h.1)

module _ (truth : (ℕ → Bool) → Tree → Bool) (p : Listing) (is_member : ℕ → Bool) (allowed grounds : Family) where
  larger : (m n : Solved) → IsGreatestIn truth p is_member allowed grounds m.0 m.1 → KeepsIn truth p is_member allowed grounds n.0 n.1 → IsWithinIn is_member m.0 n.0 → IsInsideIn truth p is_member allowed grounds n.1 m.1
  larger m n g k within = g.greatest n.1 (record {
    covered = λ q row member h. covered_by (m.0 q) row (λ i c. covered_at (n.0 q) row (k.covered q row member h) i (within q i member c));
    rule = k.rule;
  })

  found : (n : Solved) → KeepsIn truth p is_member allowed grounds n.0 n.1 → (ms : List Solved) → AllByRecursion (λ (m : Solved). IsGreatestIn truth p is_member allowed grounds m.0 m.1) ms
      → SomeSolved (λ (m : Solved). IsWithinIn is_member m.0 n.0) ms → (q : ℕ) (row : List Bool) → is_member q ≡ true → HasArity p.preds q (length row) → ((us : List Bool) → IsUpper us row → IsTrue (n.1 q us))
      → AreAdmittedIn truth p is_member allowed grounds (families ms) q row
  found n k [] all s q row member arity h = absurd s
  found n k (m ∷ ms) all (inl within) q row member arity h =
      inl (λ us u. larger m n all.0 k within q us member (subst (HasArity p.preds q) (sym (upper_length us row u)) arity) (h us u))
  found n k (m ∷ ms) all (inr s) q row member arity h = inr (found n k ms all.1 s q row member arity h)

  better : (ms ns : List Solved) → AllByRecursion (λ (m : Solved). IsGreatestIn truth p is_member allowed grounds m.0 m.1) ms → AllByRecursion (λ (n : Solved). KeepsIn truth p is_member allowed grounds n.0 n.1) ns
      → AllByRecursion (λ (n : Solved). SomeSolved (λ (m : Solved). IsWithinIn is_member m.0 n.0) ms) ns → (q : ℕ) (row : List Bool) → is_member q ≡ true → HasArity p.preds q (length row)
      → AreAdmittedIn truth p is_member allowed grounds (families ns) q row → AreAdmittedIn truth p is_member allowed grounds (families ms) q row
  better ms [] g k within q row member arity h = absurd h
  better ms (n ∷ ns) g k within q row member arity (inl h) = found n k.0 ms g within.0 q row member arity h
  better ms (n ∷ ns) g k within q row member arity (inr h) = better ms ns g k.1 within.1 q row member arity h

pub smaller_is_better : SmallerIsBetterIn
smaller_is_better truth p is_member allowed grounds = better truth p is_member allowed grounds

pub larger_inside : LargerInside
larger_inside truth p is_member allowed grounds = larger truth p is_member allowed grounds
