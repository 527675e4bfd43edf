-- The row that the code makes is that of a demand's target.
use Rattle.std.proofs.Common.{◌≡◌, ℕ, ◌+◌, ℤ, neg_ℤ, List, [], ◌∷◌, ◌++◌, ◌⊎◌, inl, inr, map, length, ap, sym, ◌∙◌, arith}
use Rattle.std.specs.Prelude.{◌-ℤ◌}
use Rattle.std.proofs.lemmas.Int.{ints}
use Rattle.std.proofs.lemmas.List.{length-append, length-map}
use Rattle.exact128.specs.Sums.{entry}
use Rattle.linear_rows.specs.Plain.{plain_row}
use Rattle.linear_rows.specs.RowSums.{added}
use Rattle.linear_rows.specs.Rows.{column}
use Rattle.linear_rows.specs.Solving.{zeros}
use Rattle.linear_rows.specs.declared.row.Row.{Row}
use Rattle.termination_model.proofs.Entries.{entry_added}
use Rattle.termination_model.proofs.Lists.{append_assoc}
use Rattle.termination_model.proofs.Points.{length_zeros}
use Rattle.transitions.specs.Templates.{least_in, template_row}
use Rattle.transitions.specs.StuckSets.{Feature as Number}
use Rattle.transitions.specs.Transitions.{Transition}
use Rattle.transitions.specs.Turns.{call_row, head_row}
use Rattle.transitions.proofs.StuckLaws.{entry_negated}
use Rattle.transitions.proofs.TemplateRefuted.{map_twice}
use Rattle.number_turns.specs.Demanding.{feature_row, least_of, target_of, with_numbers}
use Rattle.number_turns.specs.Recalled.{recalled, spelled}
use Rattle.number_turns.specs.declared.demand.Aim.{Aim}
use Rattle.number_turns.specs.declared.demand.Aim.TheVariants as aim
use Rattle.number_turns.specs.declared.demand.Demand.{Demand}
use Rattle.number_turns.specs.declared.feature.Feature.{Feature}

-- the row of a fall in a column
entry_fall : (xs ys : List ℤ) (x : ℕ) → entry (added xs (map neg_ℤ ys)) x ≡ entry xs x -ℤ entry ys x
entry_fall xs ys x = omega (arith, ints, entry_added xs (map neg_ℤ ys) x, entry_negated ys x)

pub fall_entry : (a : Aim) (τ : Transition) (f : Number) (x : ℕ) → (a ≡ aim.Keep) ⊎ (a ≡ aim.Fall) → entry (feature_row a τ f) x ≡ entry (head_row τ f) x -ℤ entry (call_row τ f) x
fall_entry a τ f x (inl e) = ap (λ b. entry (feature_row b τ f) x) e ∙ entry_fall (head_row τ f) (call_row τ f) x
fall_entry a τ f x (inr e) = ap (λ b. entry (feature_row b τ f) x) e ∙ entry_fall (head_row τ f) (call_row τ f) x

to_right : {X : Type 0} (a b c d e : List X) → (((a ++ b) ++ c) ++ d) ++ e ≡ a ++ (b ++ (c ++ (d ++ e)))
to_right a b c d e =
    append_assoc ((a ++ b) ++ c) d e ∙ append_assoc (a ++ b) c (d ++ e) ∙ append_assoc a b (c ++ (d ++ e))

module _ (fs : List Feature) (d : Demand) (before after x : ℕ) where
  abbrev made : Feature → ℤ
  made f = entry (feature_row d.aim (recalled d.transition.now) (spelled f)) x

  abbrev known : Row → ℤ
  known r = neg_ℤ (entry (plain_row r) x)

  shares_same : column (target_of (map spelled fs) d).features x ≡ map made fs
  shares_same =
      let own = feature_row d.aim (recalled d.transition.now) in
      map_twice (λ r. entry r x) own (map spelled fs) ∙ map_twice (λ f. entry (own f) x) spelled fs

  opposites_same : map neg_ℤ (column (target_of (map spelled fs) d).features x) ≡ map (λ f. neg_ℤ (made f)) fs
  opposites_same = ap (map neg_ℤ) shares_same ∙ map_twice neg_ℤ made fs

  rows_same : map neg_ℤ (column (target_of (map spelled fs) d).rows x) ≡ map known d.transition.now.rows.list
  rows_same = ap (map neg_ℤ) (map_twice (λ r. entry r x) plain_row d.transition.now.rows.list) ∙ map_twice neg_ℤ (λ r. entry (plain_row r) x) d.transition.now.rows.list

  pub row_is : (least_in (least_of d.aim) x ∷ with_numbers fs d before after x []) ≡ template_row before after (target_of (map spelled fs) d) x
  row_is =
      ap (λ s. least_in (least_of d.aim) x ∷ s) (to_right (map made fs) (map (λ f. neg_ℤ (made f)) fs) (zeros before) (map known d.transition.now.rows.list) (zeros after)
      ∙ (λ i. sym shares_same i ++ (sym opposites_same i ++ (zeros before ++ (sym rows_same i ++ zeros after)))))

  pub row_long : length (with_numbers fs d before after x []) ≡ length fs + (length fs + (before + (length d.transition.now.rows.list + after)))
  row_long =
      let a = map made fs in
      let b = map (λ f. neg_ℤ (made f)) fs in
      let c = map known d.transition.now.rows.list in
      let la : length a ≡ length fs = length-map fs made in
      let lb : length b ≡ length fs = length-map fs (λ f. neg_ℤ (made f)) in
      let lc : length c ≡ length d.transition.now.rows.list = length-map d.transition.now.rows.list known in
      omega (
        arith,
        la,
        lb,
        lc,
        length_zeros before,
        length_zeros after,
        length-append (((a ++ b) ++ zeros before) ++ c) (zeros after),
        length-append ((a ++ b) ++ zeros before) c,
        length-append (a ++ b) (zeros before),
        length-append a b,
      )
