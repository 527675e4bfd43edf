use Rattle.std.proofs.Common.{◌≡◌, ◌<◌, ℕ, true, IsTrue, [], ◌∷◌, length, Some}
use Rattle.cti_terms.specs.Arithmetic.{kind_of}
use Rattle.cti_terms.specs.declared.builtins.Builtin.{Builtin}
use Rattle.truth_rows.specs.Sets.{family_of}
use Rattle.cert_modes.specs.Marks.{IsMarked, mark_at}
use Rattle.cert_modes.specs.declared.fault.ModeReason.TheVariants as reason
use Rattle.cert_modes.proofs.closing.mark_unstated.Given as goal

-- the marks say of each predicate so far whether its set has what is stated of it
abbrev pub invariant-loop-q : goal.invariant-loop-q
invariant-loop-q l =
    record {
      each : length l.marks ≡ length l.fn.marks;
      stated : (q : ℕ) → IsMarked ((j : ℕ) → j < l.q → q ≡ j → (b : Builtin) → kind_of l.p.arithmetic j ≡ Some b → IsTrue (family_of l.p.preds l.table l.sets j (true ∷ (true ∷ [])))) reason.Ground
          (mark_at l.fn.marks q) (mark_at l.marks q);
    }
