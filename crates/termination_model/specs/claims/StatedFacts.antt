-- Private.
-- To believe, for modes over stated facts.
-- What is stated of open predicates, and the theorem over it: in each world that agrees with what is stated,
-- derivations of a query with an admitted row are shorter than some bound, and each open call on the way meets a stated
-- mode.
--
-- To believe: `Stated`, `IsAllowed`, `Agrees`, `AllowsCalls`; for what is shown of claims, `Takes`.
use Rattle.std.specs.Prelude.{◌≡◌, ℕ, ℤ, Bool, true, false, List, [], ◌∷◌, map, length, Some}
use Rattle.std.specs.List.{AllByRecursion}
use Rattle.cti_terms.specs.Tree.{Tree}
use Rattle.cti_terms.specs.declared.atom_list.Atom.{Atom}
use Rattle.cti_terms.specs.declared.derivation.Goal.{Goal}
use Rattle.cti_terms.specs.declared.predicates.Pred.{Pred}
use Rattle.cti_terms.specs.Listing.{Listing, IsProgram}
use Rattle.cti_terms.specs.Unify.{applied}
use Rattle.cti_terms.specs.Resolve.{over}
use Rattle.cti_terms.specs.Derive.{query}
use Rattle.cti_terms.specs.Worlds.{Answer, World, left_in, BoundedIn}
use Rattle.linear_rows.specs.Rows.{Holds}
use Rattle.termination_model.specs.sizes.Rows.{IsUpper}
use Rattle.termination_model.specs.grounds.Grounds.{Family, HasArity, truth_row, IsGround}
use Rattle.termination_model.specs.claims.Claims.{SomeOf, Measure, Claims, Admits, Shows}
use Rattle.termination_model.specs.claims.Descent.{mode_row, Meets}

-- which predicates are open, and what is stated of them: size rows, ground rows and modes
pub record Stated : Type 0 where
  pub is_open : ℕ → Bool
  pub rows : ℕ → List (List ℤ)
  pub grounds : Family
  pub modes : ℕ → List (List ℕ)

-- a truth row is upper to some stated mode
abbrev pub IsAllowed : Stated → ℕ → List Bool → Type 0
IsAllowed f q bs = SomeOf (λ (mode : List ℕ). IsUpper bs (mode_row mode 1 (length bs))) (f.modes q)

module _ (size : (ℕ → ℕ) → Tree → ℕ) (truth : (ℕ → Bool) → Tree → Bool) (f : Stated) where
  -- an atom that has been answered obeys its size rows at each valuation, and has a ground row under each
  pub record Keeps (a : Atom) : Type 0 where
    pub sized : (s : ℕ → ℕ) → AllByRecursion (λ (r : List ℤ). Holds r 1 (map (size s) a.args)) (f.rows a.pred.0)
    pub grounded : (v : ℕ → Bool) → IsGround truth f.grounds v a

  -- each answer to an open atom of these predicates keeps what is stated
  abbrev pub Agrees : List Pred → World → Type 0
  Agrees preds w = (past : List ℕ) (n : ℕ) (a : Atom) → HasArity preds a.pred.0 (length a.args) → f.is_open a.pred.0 ≡ true → AllByRecursion (λ (r : Answer). Keeps (over (applied r.0) a)) (w past n a)

  -- the first atom, if it is open, meets a stated mode by its rigid arguments
  abbrev pub AllowsFirst : List Atom → Type 0
  AllowsFirst [] = Unit {0}
  AllowsFirst (a ∷ rest) = f.is_open a.pred.0 ≡ true → IsAllowed f a.pred.0 (truth_row truth (λ _. false) a)

  -- and so it is in each goal that a derivation leaves
  abbrev pub AllowsAfter : Listing → World → List ℕ → Goal → Type 0
  AllowsAfter p w past g = (ks : List ℕ) (h : Goal) → left_in p f.is_open w past g ks ≡ Some h → AllowsFirst h.atoms

  abbrev pub AllowsCalls : Listing → World → Goal → Type 0
  AllowsCalls p w g = AllowsAfter p w [] g

-- what is claimed of open predicates is what is stated: their size rows, their ground rows, and in each measure of
-- their components only rows that meet a mode
pub record Takes (c : Claims) (f : Stated) : Type 0 where
  pub rows : (q : ℕ) → f.is_open q ≡ true → c.rows q ≡ f.rows q
  pub grounds : (q : ℕ) → f.is_open q ≡ true → c.grounds q ≡ f.grounds q
  pub modes : (r : ℕ) → AllByRecursion (λ (m : Measure). (q : ℕ) (bs : List Bool) → c.rank q ≡ r → f.is_open q ≡ true → m.pre q bs ≡ true → IsAllowed f q bs) (c.measures r)

abbrev pub RowsEndIn : Type 0
RowsEndIn = (p : Listing) (c : Claims) (f : Stated) (w : World) → IsProgram p → Shows p c → Takes c f → Agrees c.size c.truth f p.preds w
    → (a : Atom) (n : ℕ) → HasArity p.preds a.pred.0 (length a.args) → Admits c a.pred.0 (truth_row c.truth (λ _. false) a)
    → BoundedIn p f.is_open w (query a n) × AllowsCalls c.size c.truth f p w (query a n)

abbrev pub ModesEndIn : Type 0
ModesEndIn = (p : Listing) (c : Claims) (f : Stated) (w : World) → IsProgram p → Shows p c → Takes c f → Agrees c.size c.truth f p.preds w
    → (a : Atom) (n : ℕ) → HasArity p.preds a.pred.0 (length a.args)
    → (mode : List ℕ) → Admits c a.pred.0 (mode_row mode 1 (length a.args)) → Meets c mode a
    → BoundedIn p f.is_open w (query a n) × AllowsCalls c.size c.truth f p w (query a n)
