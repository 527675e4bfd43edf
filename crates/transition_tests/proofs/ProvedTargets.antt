-- Size rows that are shown are proved, and lists of measures that drop are proved to fall.
use Rattle.std.proofs.Common.{◌≡◌, ℕ, zero, suc, ◌-◌, ℤ, List, [], ◌∷◌, take, length, Option, None, Some, refl, sym, subst, arith}
use Rattle.cti_terms.specs.declared.atom_list.Atom.{Atom}
use Rattle.cti_terms.specs.declared.clauses.Clause.{Clause}
use Rattle.component_transitions.specs.OwnTransitions.{transition_at}
use Rattle.linear_rows.specs.Proves.{Proves}
use Rattle.linear_rows.specs.Showing.{Shows, bottom_row}
use Rattle.linear_rows.specs.declared.multipliers.Multipliers.{Multipliers}
use Rattle.number_columns.specs.ColumnSystems.{of_sizes, short_rows}
use Rattle.number_tests.specs.Levels.{natural}
use Rattle.termination_model.specs.columns.ColumnClaims.{Mapping}
use Rattle.termination_model.specs.columns.ColumnShort.{FallsProved, TargetProvable}
use Rattle.termination_model.specs.columns.Columns.{Columns}
use Rattle.termination_model.specs.sizes.Short.{Provable}
use Rattle.transition_tests.specs.Drops.{IsDropped, parts_of}
use Rattle.transition_tests.specs.Laws.{DropsAreProved, SizeRowsAreProved}
use Rattle.transition_tests.specs.Targets.{IsTargetShown}
use Rattle.transition_tests.proofs.Shares.{natural_is}

provable : (rows : List (List ℤ)) (target : List ℤ) (by : Multipliers) → Shows rows target by → Provable rows target
provable rows target by h = (by.list, natural by.scale, h.multipliers.naturals, subst (Proves rows by.list target) (sym (natural_is by.scale h.multipliers.scale)) h.shown.proves)

pub target_provable : (rows : List (List ℤ)) (n : ℕ) (o : Option (List ℤ)) (by : Multipliers) → IsTargetShown rows n o by → TargetProvable n rows o
target_provable rows n None by h = provable rows (bottom_row n) by h.0
target_provable rows n (Some target) by h = provable rows target by h

module _ (m : Columns) (kinds : ℕ → List ℕ) (rows : ℕ → List (List ℤ)) (k : Clause) (j : ℕ) (b : Atom) (floor : Multipliers) where
  proved_at : (ls : List Mapping) (drops : List Multipliers) (n : ℕ) → suc n ≡ length drops → IsDropped (transition_at m kinds rows k j b) (parts_of k.head.pred.0 ls) (parts_of b.pred.0 ls) drops floor
      → FallsProved (of_sizes m kinds rows) k (short_rows m kinds rows k.vars (take j k.body)) b n ls
  proved_at ls [] n e h = absurd (omega (arith, e))
  proved_at [] (by ∷ drops) n e h = absurd h
  proved_at (l ∷ ls) (by ∷ []) zero e h = (target_provable _ _ _ by h.0, target_provable _ _ _ floor h.1)
  proved_at (l ∷ ls) (by ∷ []) (suc n) e h = absurd (omega (arith, e))
  proved_at (l ∷ ls) (by ∷ (next ∷ drops)) zero e h = absurd (omega (arith, e))
  proved_at (l ∷ ls) (by ∷ (next ∷ drops)) (suc n) e h = (target_provable _ _ _ by h.0, proved_at ls (next ∷ drops) n (omega (arith, e)) h.1)

some_drops : (drops : List Multipliers) → (drops ≡ [] → ⊥) → suc (length drops - 1) ≡ length drops
some_drops [] h = absurd (h refl)
some_drops (by ∷ drops) h = omega arith

pub drops_proved : DropsAreProved
drops_proved m kinds rows k j b ls drops floor h =
    proved_at m kinds rows k j b floor ls drops (length drops - 1) (some_drops drops (λ e. subst (λ (ds : List Multipliers). IsDropped (transition_at m kinds rows k j b) (parts_of k.head.pred.0 ls) (parts_of b.pred.0 ls) ds floor) e h)) h

pub size_rows_proved : SizeRowsAreProved
size_rows_proved m kinds rows k r by h = target_provable _ _ _ by h
