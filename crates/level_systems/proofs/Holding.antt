-- The row that the code makes is the row of the call.
use Rattle.std.proofs.Common.{◌≡◌, ℕ, ℤ, List, [], ◌∷◌, ◌++◌, map, refl, ap, ◌∙◌}
use Rattle.std.specs.Prelude.{◌-ℤ◌, neg_ℤ}
use Rattle.exact128.specs.Sums.{entry}
use Rattle.cti_terms.specs.Tree.{Tree}
use Rattle.cti_terms.specs.declared.predicates.PredId.{PredId}
use Rattle.linear_rows.specs.Plain.{plain_row, plain_rows}
use Rattle.linear_rows.specs.Solving.{zeros}
use Rattle.call_components.specs.Numbers.{number_of}
use Rattle.level_systems.specs.Recalled.{Recalls}
use Rattle.level_systems.specs.Held.{held_numbers, spelled}
use Rattle.termination_model.specs.mappings.OwnCalls.{OwnCall as Recalled, head_sizes, call_sizes, rows_before}
use Rattle.termination_model.specs.mappings.SupportSystem.{call_row, less_one, multiplier_entries, offset_entries, offset_share, position_entries, share}
use Rattle.level_systems.specs.declared.own_call.OwnCall.{OwnCall}
use Rattle.level_systems.specs.declared.position.Position.{Position}
use Rattle.termination_model.proofs.Lists.{append_assoc}

map_map : {X Y Z : Type 0} (f : Y → Z) (g : X → Y) (xs : List X) → map (λ x. f (g x)) xs ≡ map f (map g xs)
map_map f g [] = refl
map_map f g (x ∷ xs) = ap (λ s. f (g x) ∷ s) (map_map f g xs)

to_right : {X : Type 0} (a b c d e : List X) → (((a ++ b) ++ c) ++ d) ++ e ≡ a ++ (b ++ (c ++ (d ++ e)))
to_right a b c d e =
    append_assoc ((a ++ b) ++ c) d e ∙ append_assoc (a ++ b) c (d ++ e) ∙ append_assoc a b (c ++ (d ++ e))

module _ (expression : ℕ → Tree → List ℤ) (o : Recalled) (own : OwnCall) (h : Recalls expression o own) where
  pub positions_same : (x : ℕ) (positions : List Position)
      → map (λ p. share own.caller.0 (plain_rows own.caller_sizes.list) x (spelled p) -ℤ share own.callee.0 (plain_rows own.callee_sizes.list) x (spelled p)) positions
      ≡ map (λ p. share o.rule.member (head_sizes expression o) x p -ℤ share o.member (call_sizes expression o) x p) (map spelled positions)
  positions_same x positions =
      (λ i. map (λ p. share (h.caller i) (h.caller_sizes i) x (spelled p) -ℤ share (h.callee i) (h.callee_sizes i) x (spelled p)) positions)
      ∙ map_map (λ p. share o.rule.member (head_sizes expression o) x p -ℤ share o.member (call_sizes expression o) x p) spelled positions

  pub offsets_same : (x : ℕ) (members : List PredId) → map (λ m. offset_share own.caller.0 x m.0 -ℤ offset_share own.callee.0 x m.0) members
      ≡ map (λ m. offset_share o.rule.member x m -ℤ offset_share o.member x m) (map number_of members)
  offsets_same x members =
      (λ i. map (λ m. offset_share (h.caller i) x m.0 -ℤ offset_share (h.callee i) x m.0) members)
      ∙ map_map (λ m. offset_share o.rule.member x m -ℤ offset_share o.member x m) number_of members

  pub rows_same : (x : ℕ) → map (λ r. neg_ℤ (entry (plain_row r) x)) own.rows.list ≡ map (λ r. neg_ℤ (entry r x)) (rows_before expression o)
  rows_same x = map_map (λ r. neg_ℤ (entry r x)) plain_row own.rows.list ∙ ap (map (λ r. neg_ℤ (entry r x))) h.rows

  pub held_row : (positions : List Position) (members : List PredId) (before after x : ℕ)
      → (less_one x ∷ held_numbers own positions members before after x) ≡ call_row expression (map spelled positions) (map number_of members) before after o x
  held_row positions members before after x =
      ap (λ s. less_one x ∷ s) ((λ i. (((positions_same x positions i ++ offsets_same x members i) ++ zeros before) ++ rows_same x i) ++ zeros after)
      ∙ to_right (position_entries expression (map spelled positions) (map number_of members) o x) (offset_entries expression (map spelled positions) (map number_of members) o x) (zeros before)
      (multiplier_entries expression (map spelled positions) (map number_of members) o x) (zeros after))
