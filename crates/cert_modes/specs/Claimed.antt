-- Private.
-- What holding modes give to claims that say what the parts of a certificate say.
--
-- To believe: nothing, where only `Bounded` is wanted.
use Rattle.std.specs.Prelude.{◌≡◌, ◌<◌, ℕ, Bool, List, length, slice_get, Some}
use Rattle.std.specs.List.{AllByRecursion}
use Rattle.call_components.specs.Partition.{AreComponents, IsIn, Partition}
use Rattle.cert_structure.specs.Shape.{arity_in, items_of}
use Rattle.cert_structure.specs.declared.parts.Parts.{Parts}
use Rattle.cti_terms.specs.Listing.{IsProgram, Listing}
use Rattle.cti_terms.specs.Tree.{Tree}
use Rattle.cti_terms.specs.declared.clauses.Clause.{Clause}
use Rattle.termination_model.specs.claims.Claims.{Admits, Claims, IsCovered, KeepsRule, Mapping, Measure}
use Rattle.termination_model.specs.claims.Descent.{mode_row}
use Rattle.termination_model.specs.grounds.Grounds.{IsClosed}
use Rattle.termination_model.specs.sizes.Rows.{Covers}
use Rattle.cert_modes.specs.Modes.{ModesHold, coefficients_of, grounds_of, precondition}

-- a measure with the precondition of this number, whose mappings are positive at most where the parts' mapping of this
-- number is
pub record IsMeasure (p : Listing) (parts : Parts) (c : Claims) (r m : ℕ) (x : Measure) : Type 0 where
  pub pre : x.pre ≡ precondition p parts m
  pub covers : (q : ℕ) (bs : List Bool) → q < length p.preds → c.rank q ≡ r → Covers (coefficients_of parts.levels m q) bs → AllByRecursion (λ (l : Mapping). Covers (l.coefficients q) bs) x.mappings

-- the claims' truth, ranks, ground rows and measures are those of the parts
pub record ClaimModes (rigid : (ℕ → Bool) → Tree → Bool) (p : Listing) (comps : Partition) (parts : Parts) (c : Claims) : Type 0 where
  pub truth : c.truth ≡ rigid
  pub ranks : (q r : ℕ) → IsIn comps r q → c.rank q ≡ r
  pub grounds : c.grounds ≡ grounds_of p parts
  pub each : (q : ℕ) → q < length p.preds → length (c.measures (c.rank q)) ≡ length (items_of parts.preconditions q)
  pub measures : (r m : ℕ) (x : Measure) → slice_get (c.measures r) m ≡ Some x → IsMeasure p parts c r m x

-- a measure's rows are covered, and keep the rule in each clause of its component
pub record KeepsRows (p : Listing) (c : Claims) (r : ℕ) (m : Measure) : Type 0 where
  pub covered : IsCovered c r m
  pub rule : AllByRecursion (λ (k : Clause). c.rank k.head.pred.0 ≡ r → KeepsRule c m k) p.clauses

-- ground rows are closed, preconditions keep their rule, and printed modes are admitted
pub record ShowModes (p : Listing) (parts : Parts) (c : Claims) : Type 0 where
  pub closed : IsClosed c.truth p c.grounds
  pub measures : (r : ℕ) → AllByRecursion (KeepsRows p c r) (c.measures r)
  pub modes : (q : ℕ) → AllByRecursion (λ mode. Admits c q (mode_row mode 1 (arity_in p q))) (items_of parts.modes q)

abbrev pub HoldingModesShow : Type 0
HoldingModesShow = (truth : (ℕ → Bool) → Tree → Bool) (p : Listing) (comps : Partition) (parts : Parts) (c : Claims)
    → IsProgram p → AreComponents p comps → ClaimModes truth p comps parts c → ModesHold truth p comps parts → ShowModes p parts c
