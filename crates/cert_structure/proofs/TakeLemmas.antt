-- Each reader of one fact takes the line of what it gives, and gives what a line shows.
use Rattle.std.proofs.Common.{◌≡◌, ℕ, suc, ◌≤◌, ◌⊎◌, inl, inr, ◌&&◌, ◌==◌, Some, None, refl, eqb-true, eq-eqb}
use Rattle.std.proofs.lemmas.Bool.{and_parts}
use Rattle.std.specs.List.{AllByRecursion}
use Rattle.certificate.specs.declared.pred_text.PredText.{PredText}
use Rattle.certificate.specs.declared.fact.Fact.TheVariants as fact
use Rattle.cert_structure.specs.Order.{size_line, by_line, grounds_line, measure_line, falls_line, pre_line}
use Rattle.cert_structure.specs.Shape.{IsMode, IsSizeRow, HaveMultipliers, HasWidth, IsLevel}
use Rattle.cert_structure.specs.Walk.{same_pred, multipliers_read, level_read, take_modes, take_row, take_proof, take_ground, take_level, take_fall, take_pre, take_refuted}
use Rattle.cert_structure.proofs.KindLemmas.{split_level, split_fall, IsMeasure, IsFalls, fact_line, is_line, seen}
use Rattle.fact_reading.proofs.SectionLemmas.{IsTaken, IsBack}
use Rattle.cert_structure.specs.SharedFacts.{shared}
use Rattle.cert_structure.proofs.ContentLemmas.{other_taken, placed, same_is, same_itself, multipliers_are, multipliers_back, level_is, level_back}
use Rattle.cert_structure.proofs.SharedLemmas as laws

pub level_taken : (pred : PredText) → IsTaken (take_level pred) (measure_line pred) (IsLevel pred.arity)
unfolding take_level
level_taken pred i f x e = go (split_level f)
  where
    go : ((q : PredText) (j : ℕ) → take_level q j f ≡ Some None) ⊎ IsMeasure f → (f ≡ measure_line pred i x) × IsLevel pred.arity x
    go (inl none) = other_taken (take_level pred i f) x (none pred i) e
    go (inr (q, mapping, coeffs, offset, is)) =
        let (here, some) = placed (same_pred q pred && (mapping == suc i)) (level_read pred.arity coeffs offset) x (rw is at e) in
        let (same, number) = and_parts (same_pred q pred) (mapping == suc i) here in
        let (whole, right) = level_is pred.arity coeffs offset x some in
        (rw (is, same_is q pred same, eqb-true mapping (suc i) number, ← whole) refl, right)

pub level_given : (pred : PredText) → IsBack (take_level pred) (measure_line pred) (IsLevel pred.arity)
unfolding take_level
level_given pred i x h = rw (same_itself pred, eq-eqb (suc i) (suc i) refl, level_back pred.arity x h) refl

pub fall_taken : (k j rows : ℕ) → IsTaken (take_fall k j rows) (falls_line k j) (HaveMultipliers rows)
unfolding take_fall
fall_taken k j rows m f x e = go (split_fall f)
  where
    go : ((k j rows m : ℕ) → take_fall k j rows m f ≡ Some None) ⊎ IsFalls f → (f ≡ falls_line k j m x) × HaveMultipliers rows x
    go (inl none) = other_taken (take_fall k j rows m f) x (none k j rows m) e
    go (inr (clause, call, mapping, scale, list, is)) =
        let (here, some) = placed ((clause == suc k) && ((call == suc j) && (mapping == suc m))) (multipliers_read rows scale list) x (rw is at e) in
        let (one, more) = and_parts (clause == suc k) ((call == suc j) && (mapping == suc m)) here in
        let (two, three) = and_parts (call == suc j) (mapping == suc m) more in
        let (whole, right) = multipliers_are rows scale list x some in
        (rw (is, eqb-true clause (suc k) one, eqb-true call (suc j) two, eqb-true mapping (suc m) three, ← whole) refl, right)

pub fall_given : (k j rows : ℕ) → IsBack (take_fall k j rows) (falls_line k j) (HaveMultipliers rows)
unfolding take_fall
fall_given k j rows m x h = rw (eq-eqb (suc k) (suc k) refl, eq-eqb (suc j) (suc j) refl, eq-eqb (suc m) (suc m) refl, multipliers_back rows x h) refl

-- facts that certificates of lists have too
pub modes_taken : (pred : PredText) → IsTaken (take_modes pred) (λ _ modes. fact.Terminates pred modes) (AllByRecursion (IsMode pred.arity))
modes_taken pred = laws.modes_taken shared fact_line is_line seen pred

pub modes_given : (pred : PredText) → IsBack (take_modes pred) (λ _ modes. fact.Terminates pred modes) (AllByRecursion (IsMode pred.arity))
modes_given pred = laws.modes_given shared fact_line is_line seen pred

pub row_taken : (pred : PredText) → IsTaken (take_row pred) (size_line pred) (IsSizeRow pred.arity)
row_taken pred = laws.row_taken shared fact_line is_line seen pred

pub proof_taken : (k rows : ℕ) → IsTaken (take_proof k rows) (by_line k) (HaveMultipliers rows)
proof_taken k rows = laws.proof_taken shared fact_line is_line seen k rows

pub ground_taken : (pred : PredText) → IsTaken (take_ground pred) (grounds_line pred) (HasWidth pred.arity)
ground_taken pred = laws.ground_taken shared fact_line is_line seen pred

pub pre_taken : (pred : PredText) (m : ℕ) → IsTaken (take_pre pred m) (pre_line pred m) (HasWidth pred.arity)
pre_taken pred m = laws.cube_taken shared fact_line is_line seen pred m

pub refuted_taken : (pred : PredText) → IsTaken (take_refuted pred) (λ _ n. fact.Refuted pred n) (λ n. 1 ≤ n)
refuted_taken pred = laws.count_taken shared fact_line is_line seen pred

pub refuted_given : (pred : PredText) → IsBack (take_refuted pred) (λ _ n. fact.Refuted pred n) (λ n. 1 ≤ n)
refuted_given pred = laws.count_given shared fact_line is_line seen pred
