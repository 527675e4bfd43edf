-- The arguments and positions of notes, item by item.
use Rattle.std.proofs.Common.{◌≡◌, ℕ, zero, suc, ◌+◌, ◌-◌, ◌<◌, ◌≤◌, true, false, if◌then◌else◌, List, [], ◌∷◌, ◌++◌, drop, length, map, nat_eq, nat_lt, slice_get, Some, refl, ap, sym, ◌∙◌, arith, length-append}
use Rattle.std.specs.Prelude.{option_map, unwrap_or}
use Rattle.std.specs.List.{list_any}
use Rattle.std.proofs.lemmas.Bool.Decides.{nat_tests}
use Rattle.std.proofs.lemmas.List.{length-map}
use Rattle.call_components.specs.Numbers.{number_of}
use Rattle.call_components.specs.Partition.{Partition}
use Rattle.cert_structure.specs.Order.{pred_text}
use Rattle.certificate.specs.declared.fact.Fact.TheVariants as fact
use Rattle.cti_terms.specs.Listing.{Listing}
use Rattle.cti_terms.specs.declared.predicates.Pred.{Pred}
use Rattle.cti_terms.specs.declared.predicates.PredId.{PredId}
use Rattle.linear_rows.specs.Step.{columns}
use Rattle.termination_model.proofs.Lists.{indexed}
use Rattle.termination_model.specs.mappings.ComponentViews.{positions_in}
use Rattle.termination_model.specs.mappings.Ready.{arity_in, positions_by}
use Rattle.report.specs.SupportNotes.{arguments_in, large_at}
use Rattle.level_systems.proofs.PairLists.{drop_at}

pub arguments_step : (s : List ℕ) (first a n : ℕ) → a < n
    → arguments_in s (first + a) (a + 1) (n - a) ≡ (if list_any (λ x. nat_eq (first + a) x) s then (a + 1) ∷ [] else []) ++ arguments_in s (first + (a + 1)) ((a + 1) + 1) (n - (a + 1))
arguments_step s first a n less =
    let rest : n - a ≡ suc (n - (a + 1)) = omega arith in
    let position : suc (first + a) ≡ first + (a + 1) = omega arith in
    let argument : suc (a + 1) ≡ (a + 1) + 1 = omega arith in
    ap (arguments_in s (first + a) (a + 1)) rest
    ∙ (λ i. (if list_any (λ x. nat_eq (first + a) x) s then (a + 1) ∷ [] else []) ++ arguments_in s (position i) (argument i) (n - (a + 1)))

pub arity_there : (p : Listing) (q : ℕ) (d : Pred) → slice_get p.preds q ≡ Some d → arity_in p q ≡ d.arity
arity_there p q d e = ap (λ o. unwrap_or (option_map (λ (x : Pred). x.arity) o) 0) e

length_columns : (k n : ℕ) → length (columns k n) ≡ n
length_columns k zero = refl
length_columns k (suc n) = ap suc (length_columns (suc k) n)

pub positions_step : (p : Listing) (members : List PredId) (i : ℕ) (x : PredId) (d : Pred) → slice_get members i ≡ Some x → slice_get p.preds x.0 ≡ Some d
    → length (positions_by (arity_in p) (map number_of (drop i members))) ≡ d.arity + length (positions_by (arity_in p) (map number_of (drop (i + 1) members)))
positions_step p members i x d at there =
    let rest = positions_by (arity_in p) (map number_of (drop (i + 1) members)) in
    let own = columns 0 (arity_in p x.0) in
    ap (λ (ms : List PredId). length (positions_by (arity_in p) (map number_of ms))) (drop_at members i x at)
    ∙ length-append (map (λ a. (x.0, a)) own) rest
    ∙ ap (λ n. n + length rest) (length-map own (λ a. (x.0, a)) ∙ length_columns 0 (arity_in p x.0) ∙ arity_there p x.0 d there)

module _ (p : Listing) (names : List (List ℕ)) (comps : Partition) (q c n : ℕ) (same : n ≡ length (positions_in p comps c)) where
  pub few_positions : n ≤ 12 → large_at p names comps q (Some c) ≡ []
  few_positions less = let test : nat_lt 12 n ≡ false = small n less in λ i. if (ap (λ m. nat_lt 12 m) (sym same) ∙ test) i then fact.Large (pred_text p names q) (length (positions_in p comps c)) ∷ [] else []
    where
      small : (m : ℕ) → m ≤ 12 → nat_lt 12 m ≡ false
      small m l = grind (arith, nat_tests)

  pub many_positions : 12 < n → large_at p names comps q (Some c) ≡ fact.Large (pred_text p names q) n ∷ []
  many_positions more =
      let test : nat_lt 12 n ≡ true = large n more in
      (λ i. if (ap (λ m. nat_lt 12 m) (sym same) ∙ test) i then fact.Large (pred_text p names q) (length (positions_in p comps c)) ∷ [] else [])
      ∙ ap (λ m. fact.Large (pred_text p names q) m ∷ []) (sym same)
    where
      large : (m : ℕ) → 12 < m → nat_lt 12 m ≡ true
      large m l = grind (arith, nat_tests)

-- how many positions a component has, by its members
pub position_count : (p : Listing) (comps : Partition) (c : ℕ) (ms : List ℕ) (n : ℕ) → slice_get comps.members c ≡ Some ms → n ≡ length (positions_by (arity_in p) ms) → n ≡ length (positions_in p comps c)
position_count p comps c ms n row is = is ∙ ap (λ (xs : List ℕ). length (positions_by (arity_in p) xs)) (sym (indexed comps.members c ms [] row))
