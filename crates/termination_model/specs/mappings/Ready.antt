-- To believe, for the modes.
-- What the calls and positions of a view have, so that the laws of its systems apply.
use Rattle.std.specs.Prelude.{ℕ, ◌≤ℤ◌, ℤ, pos, Bool, IsTrue, List, [], ◌∷◌, ◌++◌, map, unwrap_or, option_map, slice_get}
use Rattle.exact128.specs.Sums.{entry}
use Rattle.cti_terms.specs.Listing.{Listing, IsProgram}
use Rattle.cti_terms.specs.Tree.{Tree, is_below}
use Rattle.term_size.specs.Norm.{IsNorm}
use Rattle.linear_rows.specs.Members.{In}
use Rattle.linear_rows.specs.Step.{columns}
use Rattle.termination_model.specs.claims.Claims.{Claims}
use Rattle.termination_model.specs.mappings.View.{Rule, view_of}
use Rattle.termination_model.specs.mappings.Excluding.{IsOwnCall}
use Rattle.termination_model.specs.mappings.OwnCalls.{OwnCall, Position, members_of, own_calls}
use Rattle.termination_model.specs.mappings.SupportLaws.{HasFew}
use Rattle.termination_model.specs.mappings.Supports.{AreDistinct}

-- the arity of a predicate
abbrev pub arity_in : Listing → ℕ → ℕ
arity_in p q = unwrap_or (option_map (λ d. d.arity) (slice_get p.preds q)) 0

-- the positions of predicates, in order
abbrev pub positions_by : (ℕ → ℕ) → List ℕ → List Position
positions_by arity [] = []
positions_by arity (q ∷ qs) = map (λ a. (q, a)) (columns 0 (arity q)) ++ positions_by arity qs

abbrev pub itself : ℕ → ℕ
itself q = q

pub record AreReady (view : List Rule) : Type 0 where
  pub own : (o : OwnCall) → In o (own_calls view) → IsOwnCall view o
  pub callers : (o : OwnCall) → In o (own_calls view) → In o.rule.member (members_of view)

abbrev pub ViewsAreReady : Type 0
ViewsAreReady = (view : List Rule) → AreReady view

-- atoms have as many arguments as their predicates
abbrev pub ViewsHaveFew : Type 0
ViewsHaveFew = (p : Listing) (c : Claims) (r : ℕ) → IsProgram p → (o : OwnCall) → In o (own_calls (view_of p c r itself)) → HasFew (arity_in p) o

-- positions of different predicates are distinct
abbrev pub Apart : List ℕ → Type 0
Apart [] = Unit {0}
Apart (q ∷ qs) = (In q qs → ⊥) × Apart qs

abbrev pub PositionsAreDistinct : Type 0
PositionsAreDistinct = (arity : ℕ → ℕ) (qs : List ℕ) → Apart qs → AreDistinct (positions_by arity qs)

-- the numbers of a size are natural, in every column
abbrev pub SizesAreNatural : Type 0
SizesAreNatural = (size : (ℕ → ℕ) → Tree → ℕ) (truth : (ℕ → Bool) → Tree → Bool) (expression : ℕ → Tree → List ℤ) → IsNorm size truth expression
    → (vars : ℕ) (t : Tree) → IsTrue (is_below vars t) → (x : ℕ) → pos 0 ≤ℤ entry (expression vars t) x
