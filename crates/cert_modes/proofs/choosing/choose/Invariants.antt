use Rattle.std.proofs.Common.{◌≡◌, ◌⊎◌, ◌<◌, ℕ, length, slice_get, Some}
use Rattle.cti_terms.specs.declared.atom_list.Atom.{Atom}
use Rattle.cert_modes.specs.Sets.{set_at}
use Rattle.cert_modes.proofs.choosing.choose.Given as goal

-- the head and the atoms so far have their sets
abbrev pub invariant-loop-atom : goal.invariant-loop-atom
invariant-loop-atom l =
    record {
      each : length l.chosen ≡ length l.fn.chosen;
      head : slice_get l.chosen l.clause.head.pred.0 ≡ Some (set_at l.sets.preconditions l.sets.none l.mapping l.clause.head.pred.0);
      body : (j : ℕ) (b : Atom) → j < l.atom-index → slice_get l.clause.body j ≡ Some b
          → slice_get l.chosen b.pred.0 ≡ Some (set_at l.sets.preconditions l.sets.none l.mapping b.pred.0);
      others : (q : ℕ) → (slice_get l.chosen q ≡ slice_get l.fn.chosen q)
          ⊎ (slice_get l.chosen q ≡ Some (set_at l.sets.preconditions l.sets.none l.mapping q));
    }
