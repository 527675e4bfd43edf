-- What the induction needs of claims: any values that measure terms, and measures of any kind with levels of naturals.
use Rattle.std.proofs.Common.{◌≡◌, ℕ, ◌<◌, ◌≤◌, Bool, true, false, IsTrue, List, map, take, length, slice_get, Some}
use Rattle.std.specs.List.{AllByRecursion}
use Rattle.cti_terms.specs.Tree.{Tree, instance}
use Rattle.cti_terms.specs.declared.atom_list.Atom.{Atom}
use Rattle.cti_terms.specs.declared.clauses.Clause.{Clause}
use Rattle.cti_terms.specs.Listing.{Listing}
use Rattle.term_size.specs.Norm.{IsRigid}
use Rattle.termination_model.specs.sizes.Rows.{IsUpper}
use Rattle.termination_model.specs.grounds.Grounds.{Family, truth_row, IsGround, IsClosed}
use Rattle.termination_model.specs.claims.Claims.{SomeOf}
use Rattle.termination_model.proofs.Order.{Falls}

-- A measures terms, and M is what levels and truth rows are read from
pub record Meaning (A M : Type 0) : Type 1 where
  pub none : A
  pub value : (ℕ → A) → Tree → A
  pub truth : (ℕ → Bool) → Tree → Bool
  pub rank : ℕ → ℕ
  pub Known : ℕ → List A → Type 0
  pub grounds : Family
  pub levels : M → ℕ → List A → List ℕ
  pub pre : M → Family
  pub measures : ℕ → List M

module _ {A M : Type 0} (c : Meaning A M) where
  -- the values of an atom's arguments, and what is known of an atom that is proved
  abbrev pub values : (ℕ → A) → Atom → List A
  values s a = map (c.value s) a.args

  abbrev pub IsKnown : (ℕ → A) → Atom → Type 0
  IsKnown s a = c.Known a.pred.0 (values s a)

  abbrev pub IsInductive : Clause → Type 0
  IsInductive k = (s : ℕ → A) → AllByRecursion (IsKnown s) k.body → IsKnown s k.head

  abbrev pub IsRanked : Clause → Type 0
  IsRanked k = AllByRecursion (λ (b : Atom). c.rank b.pred.0 ≤ c.rank k.head.pred.0) k.body

  -- where what is before a call is known, the levels fall
  abbrev pub Descends : M → Clause → Type 0
  Descends m k =
      (s : ℕ → A) (j : ℕ) (b : Atom) → slice_get k.body j ≡ Some b → c.rank b.pred.0 ≡ c.rank k.head.pred.0
      → AllByRecursion (IsKnown s) (take j k.body) → Falls (c.levels m b.pred.0 (values s b)) (c.levels m k.head.pred.0 (values s k.head))

  abbrev pub Admits : ℕ → List Bool → Type 0
  Admits q bs = SomeOf (λ (m : M). (us : List Bool) → IsUpper us bs → c.pre m q us ≡ true) (c.measures (c.rank q))

  abbrev pub KeepsRule : M → Clause → Type 0
  KeepsRule m k =
      (v : ℕ → Bool) → c.pre m k.head.pred.0 (truth_row c.truth v k.head) ≡ true
      → (j : ℕ) (b : Atom) → slice_get k.body j ≡ Some b → AllByRecursion (IsGround c.truth c.grounds v) (take j k.body)
      → (c.rank b.pred.0 ≡ c.rank k.head.pred.0 → c.pre m b.pred.0 (truth_row c.truth v b) ≡ true)
      × (c.rank b.pred.0 < c.rank k.head.pred.0 → Admits b.pred.0 (truth_row c.truth v b))

  pub record Serves (p : Listing) (r : ℕ) (m : M) : Type 0 where
    -- there is one number of levels
    pub long : (q h : ℕ) (us vs : List A) → length (c.levels m q us) ≡ length (c.levels m h vs)
    -- no instance changes the levels of an atom with a row
    pub fixed : (r' s : ℕ → A) (a : Atom) → c.rank a.pred.0 ≡ r → c.pre m a.pred.0 (truth_row c.truth (λ _. false) a) ≡ true
        → c.levels m a.pred.0 (values r' a) ≡ c.levels m a.pred.0 (values s a)
    pub descends : AllByRecursion (λ (k : Clause). c.rank k.head.pred.0 ≡ r → Descends m k) p.clauses
    pub rule : AllByRecursion (λ (k : Clause). c.rank k.head.pred.0 ≡ r → KeepsRule m k) p.clauses

  pub record Shows (p : Listing) : Type 0 where
    pub value_of_instance : (s : ℕ → A) (a : ℕ → Tree) (t : Tree) → c.value s (instance a t) ≡ c.value (λ x. c.value s (a x)) t
    pub truth_of_instance : (v : ℕ → Bool) (a : ℕ → Tree) (t : Tree) → c.truth v (instance a t) ≡ c.truth (λ x. c.truth v (a x)) t
    pub rigid_truth : (v : ℕ → Bool) (t : Tree) → IsRigid c.truth t → IsTrue (c.truth v t)
    pub ranked : AllByRecursion IsRanked p.clauses
    pub inductive : AllByRecursion IsInductive p.clauses
    pub closed : IsClosed c.truth p c.grounds
    pub measures : (r : ℕ) → AllByRecursion (Serves p r) (c.measures r)
