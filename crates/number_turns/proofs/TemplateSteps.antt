-- The rows of a template, one demand after another.
use Rattle.std.proofs.Common.{◌≡◌, ℕ, suc, ◌+◌, ℤ, List, [], ◌∷◌, ◌++◌, map, length, refl, ap, sym, ◌∙◌, arith}
use Rattle.std.proofs.lemmas.List.{length-append, length-map}
use Rattle.linear_rows.specs.Plain.{plain_row}
use Rattle.linear_rows.specs.Step.{columns}
use Rattle.termination_model.proofs.Lists.{append_assoc}
use Rattle.termination_model.proofs.Totals.{length_columns}
use Rattle.transitions.specs.StuckSets.{Feature}
use Rattle.transitions.specs.TemplateLaws.{number_count}
use Rattle.transitions.specs.Templates.{Target, row_count, template_row, template_rows_from}
use Rattle.number_turns.specs.Demanding.{row_count as rows_of_demands, target_of}
use Rattle.number_turns.specs.declared.demand.Demand.{Demand}

module _ (fs : List Feature) where
  rows_count : (d : Demand) → length (target_of fs d).rows ≡ length d.transition.now.rows.list
  rows_count d = length-map d.transition.now.rows.list plain_row

  pub rows_are : (ds : List Demand) → row_count (map (target_of fs) ds) ≡ rows_of_demands ds
  rows_are [] = refl
  rows_are (d ∷ ds) = λ i. rows_count d i + rows_are ds i

  pub one_demand : (d : Demand) (rest : List Demand) (before after n : ℕ) (old new : List (List ℤ)) → after ≡ rows_of_demands rest → n ≡ length d.transition.now.rows.list
      → new ≡ old ++ map (template_row before after (target_of fs d)) (columns 0 (suc d.transition.now.rows.width))
      → new ++ template_rows_from (before + n) (map (target_of fs) rest) ≡ old ++ template_rows_from before (map (target_of fs) (d ∷ rest))
  one_demand d rest before after n old new ea en e =
      let g = target_of fs d in
      let cols = columns 0 (suc g.vars) in
      let count : after ≡ row_count (map (target_of fs) rest) = ea ∙ sym (rows_are rest) in
      let long : n ≡ length g.rows = en ∙ sym (rows_count d) in
      ap (λ s. s ++ template_rows_from (before + n) (map (target_of fs) rest)) e
      ∙ append_assoc old (map (template_row before after g) cols) (template_rows_from (before + n) (map (target_of fs) rest))
      ∙ (λ i. old ++ (map (template_row before (count i) g) cols ++ template_rows_from (before + long i) (map (target_of fs) rest)))

-- how many rows a template has
pub rows_long : (before : ℕ) (gs : List Target) → length (template_rows_from before gs) ≡ number_count gs
rows_long before [] = refl
rows_long before (g ∷ gs) =
    let own = map (template_row before (row_count gs) g) (columns 0 (suc g.vars)) in
    let rest = template_rows_from (before + length g.rows) gs in
    let lo : length own ≡ suc g.vars = length-map (columns 0 (suc g.vars)) (template_row before (row_count gs) g) ∙ length_columns 0 (suc g.vars) in
    omega (arith, length-append own rest, lo, rows_long (before + length g.rows) gs)
