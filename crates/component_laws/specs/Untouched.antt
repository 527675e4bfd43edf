-- Private.
-- Which predicates stay as they are between two programs, and how their components stand in both.
--
-- A predicate is known by its name and arity. It is untouched where some set of predicates has it, is closed under
-- calls in both programs, and has the same clauses in both, in their order. (The least such set are the predicates that
-- it reaches.)
--
-- To believe: `AreUntouched`, and what it uses.
use Rattle.std.specs.Prelude.{◌≡◌, ℕ, Bool, true, false, List, map, filter, slice_get, Option, None, Some}
use Rattle.call_components.specs.Calls.{Calls}
use Rattle.call_components.specs.Partition.{Partition, AreComponents, IsIn}
use Rattle.cti_terms.specs.Arithmetic.{kind_of}
use Rattle.cti_terms.specs.Listing.{Listing, IsProgram}
use Rattle.cti_terms.specs.Tree.{Tree}
use Rattle.cti_terms.specs.declared.atom_list.Atom.{Atom}
use Rattle.cti_terms.specs.declared.clauses.Clause.{Clause}
use Rattle.cti_terms.specs.declared.predicates.Pred.{Pred}
use Rattle.termination_model.specs.chains.Chain.{is_member}
use Rattle.component_laws.specs.Renaming.{StandIn}

-- an atom and a clause whose predicates are known by name and arity
pub record NamedAtom : Type 0 where
  pub pred : Option Pred
  pub args : List Tree

pub record NamedClause : Type 0 where
  pub head : NamedAtom
  pub body : List NamedAtom
  pub vars : ℕ

abbrev pub named_atom : Listing → Atom → NamedAtom
named_atom p a = record { pred = slice_get p.preds a.pred.0; args = a.args }

abbrev pub named : Listing → Clause → NamedClause
named p k = record { head = named_atom p k.head; body = map (named_atom p) k.body; vars = k.vars }

abbrev pub is_in : (Pred → Bool) → Option Pred → Bool
is_in set None = false
is_in set (Some x) = set x

-- the clauses of a set's predicates
abbrev pub clauses_in : (Pred → Bool) → Listing → List NamedClause
clauses_in set p = filter (λ k. is_in set k.head.pred) (map (named p) p.clauses)

abbrev pub IsClosedUnderCalls : (Pred → Bool) → Listing → Type 0
IsClosedUnderCalls set p = (q r : ℕ) → Calls p q r → is_in set (slice_get p.preds q) ≡ true → is_in set (slice_get p.preds r) ≡ true

pub record AreUntouched (p new : Listing) (set : Pred → Bool) : Type 0 where
  pub before : IsClosedUnderCalls set p
  pub after : IsClosedUnderCalls set new
  pub same : clauses_in set new ≡ clauses_in set p

-- a predicate of the set, in both programs
pub record IsKnown (p new : Listing) (set : Pred → Bool) (q : ℕ) : Type 0 where
  pub pred : Pred
  pub number : ℕ
  pub here : slice_get p.preds q ≡ Some pred
  pub there : slice_get new.preds number ≡ Some pred
  pub among : set pred ≡ true

-- of these predicates, what is built in is so in both programs
abbrev pub KeepKinds : Listing → Listing → (ℕ → Bool) → Type 0
KeepKinds p new those = (q r : ℕ) (x : Pred) → slice_get p.preds q ≡ Some x → slice_get new.preds r ≡ Some x → those q ≡ true → kind_of new.arithmetic r ≡ kind_of p.arithmetic q

-- numbers are found by name
abbrev pub FindsByName : Listing → Listing → (ℕ → ℕ) → Type 0
FindsByName p new f = (q r : ℕ) (x : Pred) → slice_get p.preds q ≡ Some x → slice_get new.preds r ≡ Some x → f q ≡ r

-- the component of an untouched predicate stands in the new program
abbrev pub UntouchedStand : Type 0
UntouchedStand = (p new : Listing) (comps new_comps : Partition) (f : ℕ → ℕ) (set : Pred → Bool) (c d q r : ℕ) (x : Pred)
    → IsProgram p → IsProgram new → AreComponents p comps → AreComponents new new_comps → FindsByName p new f → AreUntouched p new set → KeepKinds p new (is_member comps c)
    → slice_get p.preds q ≡ Some x → slice_get new.preds r ≡ Some x → set x ≡ true → IsIn comps c q → IsIn new_comps d r
    → StandIn (IsKnown p new set) f p new (is_member comps c) (is_member new_comps d)
