-- What is known at a call of a clause: the mappings of its component can be weighed.
use Rattle.std.proofs.Common.{◌≡◌, ◌↔◌, ℕ, ◌<◌, ℤ, pos, neg_ℤ, ◌-ℤ◌, Bool, List, [], ◌∷◌, map, length, get_or, slice_get, Option, Some, None, Result, Ok, Err, IfOk, IsSomeAnd, refl, sym, ap, subst, ◌∙◌, arith}
use Rattle.std.specs.List.{AllByRecursion}
use Rattle.std.proofs.lemmas.List.{length-append, length-map}
use Rattle.cti_terms.specs.Tree.{Tree}
use Rattle.cti_terms.specs.declared.atom_list.Atom.{Atom}
use Rattle.cti_terms.specs.declared.clauses.Clause.{Clause}
use Rattle.number_tests.specs.declared.level_part.LevelPart.{LevelPart}
use Rattle.linear_rows.specs.declared.multipliers.Multipliers.{Multipliers}
use Rattle.term_size.specs.Norm.{IsNorm}
use Rattle.termination_model.specs.sizes.Replacing.{over_columns}
use Rattle.termination_model.proofs.Lists.{any_default, by_places}
use Rattle.number_tests.specs.Proved.{MappingsFall, fall_of}
use Rattle.number_tests.specs.Shape.{IsLevelPart, list_at}
use Rattle.linear_rows.specs.Showing.{IsShown}
use Rattle.number_tests.specs.Targets.{AreFallColumns, CanBeWeighed, fall_weights}
use Rattle.number_tests.proofs.FallTargets.{fall_target, long_columns}

pub list_at_is : {X : Type 0} → (xss yss : List (List X)) (i : ℕ) (x z : List X) → xss ≡ yss → i < length yss → x ≡ get_or xss i x → z ≡ x → z ≡ list_at yss i
list_at_is {X = X} xss yss i x z same lt at is = is ∙ at ∙ any_default xss i x [] (omega (arith, ap length same)) ∙ ap (λ (s : List (List X)). list_at s i) same

pub if_ok_more : {A E : Type 0} → (P Q : A → Type 0) → ((x : A) → P x → Q x) → (r : Result A E) → IfOk r P → IfOk r Q
if_ok_more P Q f (Ok x) h = f x h
if_ok_more P Q f (Err e) h = tt

module _ (c : Clause) (b : Atom) (columns : List (List ℤ)) (heads calls : List LevelPart)
    (head_parts : AllByRecursion (IsLevelPart (length c.head.args)) heads) (call_parts : AllByRecursion (IsLevelPart (length b.args)) calls) where
  pub can_weigh : (expression : ℕ → Tree → List ℤ) → AreFallColumns (map (expression c.vars) c.head.args) (map (expression c.vars) b.args) c.vars columns
      → (m : ℕ) (head call : LevelPart) → slice_get heads m ≡ Some head → slice_get calls m ≡ Some call → CanBeWeighed columns head call
  can_weigh expression are m head call eh ec =
      let h = by_places (IsLevelPart (length c.head.args)) heads head_parts m head eh in
      let k = by_places (IsLevelPart (length b.args)) calls call_parts m call ec in
      let long = length-append (head.offset ∷ head.coeffs) ((neg_ℤ call.offset -ℤ pos 1) ∷ map neg_ℤ call.coeffs) in
      let h_each = h.each in
      let k_each = k.each in
      record {
        offset = k.offset;
        naturals = k.naturals;
        long = long_columns (map (expression c.vars) c.head.args) (map (expression c.vars) b.args) c.vars (length (fall_weights head call)) columns are
            (omega (arith, long, length-map call.coeffs neg_ℤ, length-map c.head.args (expression c.vars), length-map b.args (expression c.vars), h_each, k_each));
      }

  module _ (size : (ℕ → ℕ) → Tree → ℕ) (truth : (ℕ → Bool) → Tree → Bool) (expression : ℕ → Tree → List ℤ) (norm : IsNorm size truth expression) where
    pub mappings_decided : (P : Type 0) (rows : List (List ℤ)) (ms : List Multipliers) → AreFallColumns (map (expression c.vars) c.head.args) (map (expression c.vars) b.args) c.vars columns
        → P ↔ ((m : ℕ) (head call : LevelPart) (by : Multipliers) → slice_get heads m ≡ Some head → slice_get calls m ≡ Some call → slice_get ms m ≡ Some by → IsShown rows (over_columns columns (fall_weights head call)) by)
        → P ↔ MappingsFall expression rows c b heads calls ms
    mappings_decided P rows ms are decides = (
      λ none m head call by eh ec eb. subst (λ (z : List ℤ). IsShown rows z by) (target m head call eh) (decides.0 none m head call by eh ec eb),
      λ all. decides.1 (λ m head call by eh ec eb. subst (λ (z : List ℤ). IsShown rows z by) (sym (target m head call eh)) (all m head call by eh ec eb)),
    )
      where
        target : (m : ℕ) (head call : LevelPart) → slice_get heads m ≡ Some head → over_columns columns (fall_weights head call) ≡ fall_of expression c b head call
        target m head call eh = fall_target size truth expression norm c b head call columns (by_places (IsLevelPart (length c.head.args)) heads head_parts m head eh).each are
