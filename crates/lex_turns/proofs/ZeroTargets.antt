-- Where the mapping is 0, the target of each call is -1, 0, .., 0, whose numbers fit.
use Rattle.std.proofs.Common.{◌≡◌, ℕ, zero, suc, ◌<◌, ℤ, pos, negsuc, ◌+ℤ◌, ◌*ℤ◌, true, List, [], ◌∷◌, map, refl, sym, subst, ◌∙◌, arith}
use Rattle.cti_terms.specs.Tree.{Tree}
use Rattle.exact128.specs.Fits.{Fits}
use Rattle.exact128.specs.Sums.{entry}
use Rattle.linear_rows.specs.Replacing.{column_over}
use Rattle.termination_model.specs.claims.Claims.{Mapping}
use Rattle.termination_model.specs.lists.Turns.{EmptyFit}
use Rattle.termination_model.specs.mappings.Coefficients.{coefficient}
use Rattle.termination_model.specs.mappings.OwnCalls.{OwnCall, own_calls}
use Rattle.termination_model.specs.mappings.SupportSystem.{mapping_at, value_of_position}
use Rattle.termination_model.specs.mappings.View.{Rule, fall_over, level_over}
use Rattle.termination_model.specs.sizes.Rows.{added, scaled}
use Rattle.termination_model.specs.sizes.Systems.{row_fits}
use Rattle.termination_model.proofs.Entries.{entry_scaled}
use Rattle.termination_model.proofs.RowColumns.{entry_added, entry_substituted, row_that_fits}
use Rattle.level_dual.proofs.VanishLaws.{silent_dot}
use Rattle.level_systems.proofs.HeldCalls.{all_in}

none_positive : (q : ℕ) (places : List ℕ) (a : ℕ) → 0 < coefficient (map (value_of_position [] [] q) places) a → ⊥
none_positive q [] a some = omega (arith, some)
none_positive q (place ∷ places) zero some = omega (arith, some)
none_positive q (place ∷ places) (suc a) some = none_positive q places a some

-- a number of a target: 0, less 1 in the column of the constants
number_fits : (x : ℕ) → Fits (pos 0 +ℤ negsuc 0 *ℤ (pos 0 +ℤ entry (pos 1 ∷ []) x))
number_fits zero = omega arith
number_fits (suc x) = omega arith

module _ (expression : ℕ → Tree → List ℤ) (arity : ℕ → ℕ) where
  abbrev nowhere : Mapping
  nowhere = mapping_at arity [] [] [] []

  abbrev level : ℕ → ℕ → List Tree → List ℤ
  level n q ts = level_over expression n q ts nowhere

  level_none : (n q : ℕ) (ts : List Tree) (x : ℕ) → entry (level n q ts) x ≡ pos 0
  level_none n q ts x =
      let es = map (expression n) ts in
      entry_substituted n es (pos (nowhere.offset q) ∷ map pos (nowhere.coefficients q)) x
      ∙ silent_dot (nowhere.offset q ∷ nowhere.coefficients q) (column_over es x) (λ a some. absurd (positive a some))
    where
      positive : (a : ℕ) → 0 < coefficient (nowhere.offset q ∷ nowhere.coefficients q) a → ⊥
      positive zero some = omega (arith, some)
      positive (suc a) some = none_positive q _ a some

  target_fits : (k : Rule) (q : ℕ) (ts : List Tree) → row_fits (fall_over expression k q ts 1 nowhere) ≡ true
  target_fits k q ts =
      let head = level k.vars k.member k.args in
      let call = level k.vars q ts in
      row_that_fits (fall_over expression k q ts 1 nowhere) (λ x less.
      let number : entry (fall_over expression k q ts 1 nowhere) x ≡ pos 0 +ℤ negsuc 0 *ℤ (pos 0 +ℤ entry (pos 1 ∷ []) x) =
      entry_added head (scaled (negsuc 0) (added call (pos 1 ∷ []))) x
      ∙ rw (entry_scaled (negsuc 0) (added call (pos 1 ∷ [])) x, entry_added call (pos 1 ∷ []) x, level_none k.vars k.member k.args x, level_none k.vars q ts x) refl in
      subst Fits (sym number) (number_fits x))

  pub zero_fits : (view : List Rule) → EmptyFit expression view arity nowhere
  zero_fits view = all_in (λ (o : OwnCall). row_fits (fall_over expression o.rule o.member o.call.args 1 nowhere) ≡ true) (own_calls view) (λ o i. target_fits o.rule o.member o.call.args)
