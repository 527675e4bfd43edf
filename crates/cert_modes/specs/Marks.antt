-- Private.
-- Marks of predicates. Nothing here has to be believed.
use Rattle.std.specs.Prelude.{◌≡◌, ℕ, ◌+◌, ◌<◌, Bool, true, false, List, slice_index_or, Option, None, Some}
use Rattle.std.specs.Io.Iter.{u64_saturate}
use Rattle.call_components.specs.Partition.{Partition}
use Rattle.cti_terms.specs.Listing.{Listing}
use Rattle.cti_terms.specs.Tree.{Tree}
use Rattle.cert_structure.specs.declared.parts.Parts.{Parts}
use Rattle.cert_modes.specs.Failing.{FirstReason, PredHolds}
use Rattle.cert_modes.specs.declared.fault.ModeFault.{ModeFault}
use Rattle.cert_modes.specs.declared.fault.ModeReason.{ModeReason}

-- the mark of a predicate, if it has one
abbrev pub mark_at : List (Option ModeReason) → ℕ → Option ModeReason
mark_at marks q = slice_index_or marks q None

-- a mark after a test: the first reason stays
abbrev pub noted : Option ModeReason → Bool → ModeReason → Option ModeReason
noted mark true reason = mark
noted None false reason = Some reason
noted (Some first) false reason = Some first

-- a mark after tests that hold together, or do not
pub data IsMarked (Holds : Type 0) (reason : ModeReason) (old new : Option ModeReason) : Type 0 where
  kept : Holds → new ≡ old → IsMarked Holds reason old new
  marked : ¬ Holds → new ≡ noted old false reason → IsMarked Holds reason old new

-- the fault of the first mark, where the mark of predicate 0 has this line
pub record IsFirstMark (marks : List (Option ModeReason)) (first : ℕ) (f : ModeFault) : Type 0 where
  pub q : ℕ
  pub line : f.line ≡ u64_saturate (first + q)
  pub mark : mark_at marks q ≡ Some f.reason
  pub earlier : (i : ℕ) → i < q → mark_at marks i ≡ None

-- a mark is the first reason why the modes of a predicate fail, and without a mark they hold
abbrev pub MarkTells : ((ℕ → Bool) → Tree → Bool) → Listing → Partition → Parts → ℕ → Option ModeReason → Type 0
MarkTells truth p comps parts q None = PredHolds truth p comps parts q
MarkTells truth p comps parts q (Some reason) = FirstReason truth p comps parts q reason
