-- To believe, for the command.
-- Why the modes of a predicate fail: for the first of three reasons.
--
-- To believe: all of this file. Predicates, mappings and clauses are numbered from 0 here.
use Rattle.std.specs.Prelude.{◌≡◌, ℕ, ◌+◌, ◌<◌, Bool, true, IsTrue, List, [], ◌∷◌, length, slice_get, Some}
use Rattle.std.specs.List.{AllByRecursion}
use Rattle.call_components.specs.Partition.{Partition}
use Rattle.cti_terms.specs.Arithmetic.{kind_of}
use Rattle.cti_terms.specs.Listing.{Listing}
use Rattle.cti_terms.specs.Tree.{Tree}
use Rattle.cti_terms.specs.declared.builtins.Builtin.{Builtin}
use Rattle.cti_terms.specs.declared.clauses.Clause.{Clause}
use Rattle.termination_model.specs.claims.Descent.{mode_row}
use Rattle.termination_model.specs.grounds.Grounds.{Family, IsClosedUnder}
use Rattle.termination_model.specs.sizes.Rows.{Covers}
use Rattle.truth_rows.specs.Rules.{KeepsSets}
use Rattle.std.specs.Io.Iter.{u64_saturate}
use Rattle.cert_structure.specs.Shape.{arity_in, is_together, items_of}
use Rattle.cert_structure.specs.declared.parts.Parts.{Parts}
use Rattle.cert_modes.specs.Modes.{allowed, coefficients_of, grounds_of, precondition}
use Rattle.cert_modes.specs.declared.fault.ModeFault.{ModeFault}
use Rattle.cert_modes.specs.declared.fault.ModeReason.{ModeReason}
use Rattle.cert_modes.specs.declared.fault.ModeReason.TheVariants as reason

-- each clause of a predicate has this
abbrev pub OfPred : Listing → ℕ → (Clause → Type 0) → Type 0
OfPred p q P = (k : ℕ) (c : Clause) → slice_get p.clauses k ≡ Some c → c.head.pred.0 ≡ q → P c

-- a family is closed under the clauses of a predicate, and has its row of two rigid arguments where it is built in
pub record ClosesIn (truth : (ℕ → Bool) → Tree → Bool) (p : Listing) (family : Family) (q : ℕ) : Type 0 where
  pub clauses : OfPred p q (IsClosedUnder truth family)
  pub builtin : (b : Builtin) → kind_of p.arithmetic q ≡ Some b → IsTrue (family q (true ∷ (true ∷ [])))

module _ (truth : (ℕ → Bool) → Tree → Bool) (p : Listing) (comps : Partition) (parts : Parts) where
  -- so are the ground rows
  abbrev pub Closes : ℕ → Type 0
  Closes q = ClosesIn truth p (grounds_of p parts) q

  -- a clause keeps the rule of preconditions in the mapping of this number
  abbrev pub KeepsRule : ℕ → Clause → Type 0
  KeepsRule m k = KeepsSets truth (precondition p parts m) (allowed p parts) (grounds_of p parts) (λ q. is_together comps q k.head.pred.0) k

  -- the preconditions of a predicate are true at positive coefficients, and its clauses keep the rule
  pub record KeepsPreconditions (q : ℕ) : Type 0 where
    pub covered : (m : ℕ) (row : List Bool) → IsTrue (precondition p parts m q row) → Covers (coefficients_of parts.levels m q) row
    pub rule : (m : ℕ) → OfPred p q (KeepsRule m)

  -- each mode of a predicate is allowed
  abbrev pub Admits : ℕ → Type 0
  Admits q = AllByRecursion (λ mode. IsTrue (allowed p parts q (mode_row mode 1 (arity_in p q)))) (items_of parts.modes q)

  -- its modes fail for this reason, among others
  abbrev pub ModesFail : ℕ → ModeReason → Type 0
  ModesFail q reason.Ground = ¬ Closes q
  ModesFail q reason.Precondition = ¬ KeepsPreconditions q
  ModesFail q reason.Mode = ¬ Admits q

  -- the modes of a predicate hold
  pub record PredHolds (q : ℕ) : Type 0 where
    pub closed : Closes q
    pub keeps : KeepsPreconditions q
    pub modes : Admits q

  -- the first reason why its modes fail
  pub data FirstReason (q : ℕ) : ModeReason → Type 0 where
    open_rows : ¬ Closes q → FirstReason q reason.Ground
    broken_rule : Closes q → ¬ KeepsPreconditions q → FirstReason q reason.Precondition
    refused_mode : Closes q → KeepsPreconditions q → ¬ Admits q → FirstReason q reason.Mode

  -- the first predicate whose modes do not hold, where that of number 0 has this line
  pub record IsFirstPred (first : ℕ) (f : ModeFault) : Type 0 where
    pub q : ℕ
    pub within : q < length p.preds
    pub line : f.line ≡ u64_saturate (first + q)
    pub reason : FirstReason q f.reason
    pub earlier : (i : ℕ) → i < q → PredHolds i
