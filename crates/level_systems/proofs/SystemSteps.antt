-- The rows of a system, one call after another.
use Rattle.std.proofs.Common.{◌≡◌, ℕ, zero, suc, ◌+◌, ℤ, List, [], ◌∷◌, ◌++◌, drop, map, length, Option, None, Some, refl, ap, sym, ◌∙◌}
use Rattle.std.specs.List.{AllByRecursion}
use Rattle.std.proofs.lemmas.List.{length-map}
use Rattle.cti_terms.specs.Tree.{Tree}
use Rattle.linear_rows.specs.Plain.{plain_row}
use Rattle.linear_rows.specs.declared.multipliers.Multipliers.{Multipliers}
use Rattle.termination_model.specs.mappings.OwnCalls.{OwnCall as Recalled, Position, rows_before}
use Rattle.termination_model.specs.mappings.SupportSystem.{call_rows, row_count, rows_from}
use Rattle.termination_model.proofs.Lists.{append_assoc}
use Rattle.level_systems.specs.Held.{live_of, with_live}
use Rattle.level_systems.specs.Recalled.{Recalls, count_of, with_count}
use Rattle.level_systems.specs.declared.own_call.OwnCall.{OwnCall}

module _ (expression : ℕ → Tree → List ℤ) (re : OwnCall → Recalled) (ps : List Position) (ms : List ℕ) where
  abbrev Same : OwnCall → Type 0
  Same own = Recalls expression (re own) own

  rows_count : (own : OwnCall) → Same own → length own.rows.list ≡ length (rows_before expression (re own))
  rows_count own r = sym (length-map own.rows.list plain_row) ∙ ap length r.rows

  count_case : (m : Option Multipliers) (own : OwnCall) (rest : List OwnCall) → Same own → row_count expression ps ms (map re (live_of rest)) ≡ count_of rest
      → row_count expression ps ms (map re (with_live m own (live_of rest))) ≡ with_count m (length own.rows.list) (count_of rest)
  count_case None own rest r e = λ i. sym (rows_count own r) i + e i
  count_case (Some by) own rest r e = e

  pub counts_are : (owns : List OwnCall) → AllByRecursion Same owns → row_count expression ps ms (map re (live_of owns)) ≡ count_of owns
  counts_are [] all = refl
  counts_are (own ∷ owns) all = count_case own.empty own owns all.0 (counts_are owns all.1)

  pub one_call : (own : OwnCall) (rest : List OwnCall) (before after n : ℕ) (old new : List (List ℤ)) → own.empty ≡ None → Same own → AllByRecursion Same rest → after ≡ count_of rest → n ≡ length own.rows.list
      → new ≡ old ++ call_rows expression ps ms before after (re own)
      → new ++ rows_from expression ps ms (before + n) (map re (live_of rest)) ≡ old ++ rows_from expression ps ms before (map re (live_of (own ∷ rest)))
  one_call own rest before after n old new none same all ea en e =
      let count : after ≡ row_count expression ps ms (map re (live_of rest)) = ea ∙ sym (counts_are rest all) in
      let long : n ≡ length (rows_before expression (re own)) = en ∙ rows_count own same in
      ap (λ s. s ++ rows_from expression ps ms (before + n) (map re (live_of rest))) e
      ∙ append_assoc old (call_rows expression ps ms before after (re own)) (rows_from expression ps ms (before + n) (map re (live_of rest)))
      ∙ (λ i. old ++ (call_rows expression ps ms before (count i) (re own) ++ rows_from expression ps ms (before + long i) (map re (live_of rest))))
      ∙ sym (ap (λ m. old ++ rows_from expression ps ms before (map re (with_live m own (live_of rest)))) none)

pub count_here : (own : OwnCall) (rest : List OwnCall) → own.empty ≡ None → count_of (own ∷ rest) ≡ length own.rows.list + count_of rest
count_here own rest e = ap (λ m. with_count m (length own.rows.list) (count_of rest)) e

pub dropped_all : {X : Type 0} → (P : X → Type 0) (xs : List X) (n : ℕ) → AllByRecursion P xs → AllByRecursion P (drop n xs)
dropped_all P xs zero all = all
dropped_all P [] (suc n) all = tt
dropped_all P (x ∷ xs) (suc n) all = dropped_all P xs n all.1
