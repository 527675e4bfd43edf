-- What the code finds is what a turn is to find.
use Rattle.std.proofs.Common.{◌≡◌, ℕ, ◌+◌, ◌≤◌, ℤ, pos, ◌≤ℤ◌, Bool, true, List, ◌++◌, map, take, drop, length, ap, sym, subst, ◌∙◌, arith}
use Rattle.std.specs.Prelude.{All, unsigned_abs}
use Rattle.std.proofs.lemmas.List.{drop-map, length-map}
use Rattle.linear_rows.specs.Proves.{Refutes}
use Rattle.linear_rows.specs.Replacing.{row_fits}
use Rattle.linear_rows.specs.Rows.{AllHold, IsPoint}
use Rattle.linear_rows.specs.Solving.{solution}
use Rattle.termination_model.proofs.Totals.{dropped, taken}
use Rattle.termination_model.proofs.TurnPoints.{split_off}
use Rattle.transitions.specs.StuckSets.{Feature}
use Rattle.transitions.specs.Templates.{differences, row_count}
use Rattle.transitions.specs.Transitions.{Transition}
use Rattle.transitions.specs.Turns.{AreShown, mapping_of}
use Rattle.transitions.proofs.TurnLaws.{turns_give_lists}
use Rattle.transitions.proofs.TurnPoints.{points_fall}
use Rattle.number_turns.specs.Turning.{FoundIsTurn, RefutedIsTurn, IsAt, IsFound, IsRefuted, turn_rows, turn_solution, turn_targets, turn_unknowns}
use Rattle.number_turns.specs.declared.found.Found.{Found}
use Rattle.number_turns.proofs.RowLists.{all_natural, are_naturals}
use Rattle.number_turns.proofs.TemplateSteps.{rows_long}

module _ (fs : List Feature) (τs : List Transition) (marks : List Bool) where
  abbrev k : ℕ
  k = length fs

  abbrev pub HasDifferences : List ℤ → Found → Type 0
  HasDifferences w f = (vs : List ℕ) → w ≡ map pos vs → f.numbers ≡ differences (take k vs) (take k (drop k vs))

  -- what is said of the system is said of the template
  pub point_here : (n : ℕ) (rows : List (List ℤ)) → n ≡ turn_unknowns fs τs marks → rows ≡ turn_rows fs τs marks → (t : ℤ) (w : List ℤ) → IsPoint n rows t w
      → IsPoint (turn_unknowns fs τs marks) (turn_rows fs τs marks) t w
  point_here n rows width same t w p = subst (λ m. IsPoint m (turn_rows fs τs marks) t w) width (subst (λ rs. IsPoint n rs t w) same p)

  pub refuted_here : (n : ℕ) (rows : List (List ℤ)) → n ≡ turn_unknowns fs τs marks → rows ≡ turn_rows fs τs marks → (ms : List ℤ) → Refutes n rows ms
      → Refutes (turn_unknowns fs τs marks) (turn_rows fs τs marks) ms
  refuted_here n rows width same ms r = subst (λ m. Refutes m (turn_rows fs τs marks) ms) width (subst (λ rs. Refutes n rs ms) same r)

  pub solution_here : (n : ℕ) (rows : List (List ℤ)) → n ≡ turn_unknowns fs τs marks → rows ≡ turn_rows fs τs marks → turn_solution fs τs marks ≡ solution n rows
  solution_here n rows width same = λ i. solution (sym width i) (sym same i)

  pub point_natural : (t : ℤ) (w : List ℤ) → IsPoint (turn_unknowns fs τs marks) (turn_rows fs τs marks) t w → All (λ x. pos 0 ≤ℤ x) w
  point_natural t w p = subst (λ (xs : List ℤ). All (λ x. pos 0 ≤ℤ x) xs) (sym p.w_is) (all_natural p.values)

  pub point_room : (t : ℤ) (w : List ℤ) → IsPoint (turn_unknowns fs τs marks) (turn_rows fs τs marks) t w → k + k ≤ length w
  point_room t w p = omega (arith, ap length p.w_is, length-map p.values pos, p.long)

  pub at_point : (t : ℤ) (w : List ℤ) (f : Found) → IsPoint (turn_unknowns fs τs marks) (turn_rows fs τs marks) t w
      → HasDifferences w f → f.multipliers ≡ drop k (drop k w) → IsAt fs τs marks w f
  at_point t w f p numbers multipliers =
      let vs = p.values in
      let rest = drop k vs in
      let count = row_count (turn_targets fs τs marks) in
      let rest_long : length rest ≡ k + count = dropped k vs (k + count) p.long in
      record {
        more = take k vs;
        less = take k rest;
        multipliers = drop k rest;
        w_is = p.w_is ∙ ap (map pos) (sym (ap (λ s. take k vs ++ s) (split_off k rest) ∙ split_off k vs));
        more_long = taken k vs (omega (arith, p.long));
        less_long = taken k rest (omega (arith, rest_long));
        long = dropped k rest count rest_long;
        numbers_are = numbers vs p.w_is;
        multipliers_are = multipliers ∙ ap (λ s. drop k (drop k s)) p.w_is ∙ ap (drop k) (drop-map pos k vs) ∙ drop-map pos k rest;
      }

  pub found : (t : ℤ) (w : List ℤ) (f : Found) → IsPoint (turn_unknowns fs τs marks) (turn_rows fs τs marks) t w
      → HasDifferences w f → f.multipliers ≡ drop k (drop k w) → row_fits f.numbers ≡ true → IsFound fs τs marks f
  unfolding at_point
  found t w f p numbers multipliers fit =
      let at = at_point t w f p numbers multipliers in
      let whole : p.values ≡ at.more ++ (at.less ++ at.multipliers) = sym (ap (λ s. take k p.values ++ s) (split_off k (drop k p.values)) ∙ split_off k p.values) in
      let hold : AllHold (turn_rows fs τs marks) p.scale (at.more ++ (at.less ++ at.multipliers)) = subst (AllHold (turn_rows fs τs marks) p.scale) whole p.hold in
      record {
        t = t;
        w = w;
        point = p;
        at = at;
        fit = fit;
        shown = λ width has free. subst (λ zs. AreShown (mapping_of width fs zs) τs marks at.multipliers) (sym at.numbers_are)
            (points_fall width fs τs marks p.scale at.more at.less at.multipliers has free p.some at.more_long at.less_long at.long hold);
      }

  pub refuted : (ms : List ℤ) → Refutes (turn_unknowns fs τs marks) (turn_rows fs τs marks) ms → IsRefuted fs τs marks ms
  refuted ms r =
      let natural : ms ≡ map pos (map unsigned_abs ms) = are_naturals ms r.natural in
      record {
        multipliers = map unsigned_abs ms;
        multipliers_are = natural;
        long = length-map ms unsigned_abs ∙ r.long ∙ rows_long 0 (turn_targets fs τs marks);
        refutes = subst (Refutes (turn_unknowns fs τs marks) (turn_rows fs τs marks)) natural r;
      }

pub found_is_turn : FoundIsTurn
found_is_turn width fs τs marks f has free h = turns_give_lists.shown width (mapping_of width fs f.numbers) τs marks h.at.multipliers has (h.shown width has free)

pub refuted_is_turn : RefutedIsTurn
refuted_is_turn fs τs first others ms h here among = record { first = here; others = among; long = h.long; refutes = h.refutes }
