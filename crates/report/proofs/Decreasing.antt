-- A mapping whose falls are shown decreases.
use Rattle.std.proofs.Common.{◌≡◌, ℕ, zero, suc, ◌+◌, ◌<◌, ◌≤ℤ◌, ◌==◌, ◌*ℤ◌, ℤ, pos, negsuc, Bool, true, false, cond, if◌then◌else◌, List, [], ◌∷◌, length, map, take, slice_get, unsigned_abs, Some, None, Option, refl, ap, sym, subst, ◌∙◌, arith, eqb-true, inl, inr}
use Rattle.std.specs.Prelude.{All, filter}
use Rattle.std.specs.List.{AllByRecursion}
use Rattle.std.proofs.lemmas.List.{length-map}
use Rattle.call_components.specs.Partition.{AreComponents, IsIn, Partition}
use Rattle.cert_checker.proofs.Claims.{natural_is, naturals_are}
use Rattle.cert_checker.proofs.Excludes.{in_range, take_mapped}
use Rattle.cti_terms.specs.Listing.{IsProgram, Listing}
use Rattle.cti_terms.specs.Tree.{Tree}
use Rattle.cti_terms.specs.declared.atom_list.Atom.{Atom}
use Rattle.cti_terms.specs.declared.clauses.Clause.{Clause}
use Rattle.level_systems.specs.Mappings as dual
use Rattle.level_systems.specs.Mappings.{IsMappingOf, level_in, mapping_with}
use Rattle.level_systems.specs.declared.found.Found.{Found}
use Rattle.level_systems.specs.declared.mapping.Mapping.{Mapping}
use Rattle.level_systems.specs.declared.measure.Measure.{Measure}
use Rattle.level_systems.proofs.ViewCalls.{system_same}
use Rattle.linear_rows.proofs.Soundness.{law_empty, law_holds}
use Rattle.linear_rows.specs.Members.{In}
use Rattle.linear_rows.specs.Proves.{Proves}
use Rattle.linear_rows.specs.Rows.{HoldsOn}
use Rattle.linear_rows.specs.declared.row.Rows.{Rows}
use Rattle.number_tests.specs.Proved.{fall_of, level_of}
use Rattle.number_tests.specs.Shape.{IsLevelPart}
use Rattle.number_tests.specs.declared.level_part.LevelPart.{LevelPart}
use Rattle.termination_model.proofs.Proved.{length-substituted}
use Rattle.termination_model.specs.mappings.ComponentViews.{component_view, positions_in, rank_in, size_claims, members_in}
use Rattle.termination_model.specs.mappings.Excluding.{IsZeroOutside}
use Rattle.linear_rows.specs.Step.{columns}
use Rattle.termination_model.specs.mappings.Coefficients.{coefficient}
use Rattle.termination_model.specs.mappings.Ready.{arity_in, itself, positions_by}
use Rattle.termination_model.specs.mappings.Refutation.{Decreases}
use Rattle.termination_model.specs.sizes.Rows.{added, scaled}
use Rattle.termination_model.specs.sizes.Sizes.{rows_of}
use Rattle.termination_model.specs.mappings.SupportLaws.{HasWidths}
use Rattle.termination_model.specs.sizes.Systems.{row_over, system}
use Rattle.termination_model.specs.sizes.ShortSystems.{short_row, short_system}
use Rattle.termination_model.specs.mappings.View.{Call, Lower, Member, Rule, fall_over, rule_of, system_of, upward_union}
use Rattle.termination_model.specs.mappings.View as view
use Rattle.cert_assembly.proofs.PartShapes.{measured, unmapped}
use Rattle.report.proofs.MappingParts.{level_there, own_fall}
use Rattle.report.specs.Assembly.{AreFound}
use Rattle.termination_model.proofs.Proved.{short_all, length-added}
use Rattle.cert_assembly.proofs.PartShapes.{in_left, in_right}

shown_holds : (n : ℕ) (rows : List (List ℤ)) (target ms : List ℤ) (scale : ℕ) → length target ≡ n → All (λ m. pos 0 ≤ℤ m) ms → Proves (map short_row rows) ms target (pos scale) → HoldsOn n rows target
shown_holds n rows target ms zero len nonneg h t w ht hw hr =
    absurd (law_empty (map short_row rows) ms target nonneg h t w ht (hw ∙ sym len) (short_all t w rows hr))
shown_holds n rows target ms (suc d) len nonneg h t w ht hw hr =
    law_holds (map short_row rows) ms target d nonneg h t w ht (hw ∙ sym len) (short_all t w rows hr)

module _ (expression : ℕ → Tree → List ℤ) (widths : HasWidths expression) where
  all_wide : (n : ℕ) (ts : List Tree) → AllByRecursion (λ (r : List ℤ). length r ≡ suc n) (map (expression n) ts)
  all_wide n [] = tt
  all_wide n (t ∷ ts) = (widths n t, all_wide n ts)

  row_width : (n : ℕ) (ts : List Tree) (row : List ℤ) → length (row_over expression n ts row) ≡ suc n
  row_width n ts row = length-substituted n (map (expression n) ts) row (all_wide n ts)

  fall_width : (k : Clause) (b : Atom) (head call : LevelPart) → length (fall_of expression k b head call) ≡ suc k.vars
  fall_width k b head call =
      length-added (suc k.vars) (level_of expression k.vars k.head head) (scaled (negsuc 0) (added (level_of expression k.vars b call) (pos 1 ∷ [])))
      (row_width k.vars k.head.args (head.offset ∷ head.coeffs))
      (omega (
        arith,
        length-map (added (level_of expression k.vars b call) (pos 1 ∷ [])) (λ x. negsuc 0 *ℤ x),
        length-added (suc k.vars) (level_of expression k.vars b call) (pos 1 ∷ []) (row_width k.vars b.args (call.offset ∷ call.coeffs)) (omega arith),
      ))

-- what each element that passes a test has, the mapped ones have
kept_all : {X Y : Type 0} → (t : X → Bool) (g : X → Y) (Q : Y → Type 0) (xs : List X) → ((i : ℕ) (x : X) → slice_get xs i ≡ Some x → t x ≡ true → Q (g x)) → AllByRecursion Q (map g (filter t xs))
kept_all t g Q [] h = tt
kept_all t g Q (x ∷ xs) h = go (t x) refl (kept_all t g Q xs (λ i y e. h (suc i) y e))
  where
    go : (b : Bool) → t x ≡ b → AllByRecursion Q (map g (filter t xs)) → AllByRecursion Q (map g (cond b (x ∷ filter t xs) (filter t xs)))
    go true e rest = (h 0 x refl e, rest)
    go false e rest = rest

place_is : (b : Bool) (q n : ℕ) (f : List Bool → Bool) → (if b then Member q else Lower f) ≡ Member n → (b ≡ true) × (q ≡ n)
place_is true q n f e = (refl, let same : q ≡ n = cc in same)
place_is false q n f e = cc

level_same : (expression : ℕ → Tree → List ℤ) (n : ℕ) (a : Atom) (l : LevelPart) (o : Option LevelPart) (k : ℕ) → o ≡ Some l → IsLevelPart k l
    → row_over expression n a.args (pos (dual.natural_offset o) ∷ map pos (dual.natural_coefficients o)) ≡ level_of expression n a l
level_same expression n a l o k e is =
    ap (λ (x : Option LevelPart). row_over expression n a.args (pos (dual.natural_offset x) ∷ map pos (dual.natural_coefficients x))) e
    ∙ ap (row_over expression n a.args) (λ i. natural_is l.offset is.offset i ∷ naturals_are l.coeffs is.naturals i)

-- ---- positions
in_mapped_columns : (q k n a : ℕ) → a < n → In {X = ℕ × ℕ} (q, k + a) (map (λ b. (q, b)) (columns k n))
in_mapped_columns q k zero a less = absurd (omega arith)
in_mapped_columns q k (suc n) zero less = let same : k ≡ k + 0 = omega arith in inl (λ i. (q, same i))
in_mapped_columns q k (suc n) (suc a) less = let next : suc k + a ≡ k + suc a = omega arith in inr (subst (λ b. In {X = ℕ × ℕ} (q, b) (map (λ c. (q, c)) (columns (suc k) n))) next (in_mapped_columns q (suc k) n a (omega arith)))

in_positions : (arity : ℕ → ℕ) (qs : List ℕ) (q a : ℕ) → In q qs → a < arity q → In {X = ℕ × ℕ} (q, a) (positions_by arity qs)
in_positions arity [] q a h less = absurd h
in_positions arity (r ∷ qs) q a (inl e) less =
    let here : 0 + a ≡ a = omega arith in
    in_left (q, a) (map (λ b. (r, b)) (columns 0 (arity r))) (positions_by arity qs)
    (subst (λ z. In {X = ℕ × ℕ} (q, a) (map (λ b. (z, b)) (columns 0 (arity z)))) (sym e) (subst (λ b. In {X = ℕ × ℕ} (q, b) (map (λ c. (q, c)) (columns 0 (arity q)))) here (in_mapped_columns q 0 (arity q) a less)))
in_positions arity (r ∷ qs) q a (inr h) less = in_right (q, a) (map (λ b. (r, b)) (columns 0 (arity r))) (positions_by arity qs) (in_positions arity qs q a h less)

coefficient_below : (xs : List ℕ) (a : ℕ) → 0 < coefficient xs a → a < length xs
coefficient_below [] zero h = absurd (omega arith)
coefficient_below [] (suc a) h = absurd (omega arith)
coefficient_below (x ∷ xs) zero h = omega arith
coefficient_below (x ∷ xs) (suc a) h = let r = coefficient_below xs a h in omega arith

pub level_member : (ms : List Measure) (q : ℕ) (l : LevelPart) → level_in ms q ≡ Some l → In q (map (λ (m : Measure). m.pred.0) ms)
level_member [] q l e = cc
level_member (m ∷ ms) q l e = go (m.pred.0 == q) refl e (λ f. level_member ms q l f)
  where
    go : (b : Bool) → (m.pred.0 == q) ≡ b → (if b then Some m.part else level_in ms q) ≡ Some l → (level_in ms q ≡ Some l → In q (map (λ (m : Measure). m.pred.0) ms)) → In q (m.pred.0 ∷ map (λ (m : Measure). m.pred.0) ms)
    go true t f later = inl (eqb-true m.pred.0 q t)
    go false t f later = inr (later f)

module _ (expression : ℕ → Tree → List ℤ) (p : Listing) (comps : Partition) (rows : List Rows) (found : List Found)
    (program : IsProgram p) (components : AreComponents p comps) (founds : AreFound expression p comps rows found) (widths : HasWidths expression) where
  part_natural : (c q : ℕ) (m : Mapping) → IsMappingOf expression p (rows_of rows) comps c m → (l : LevelPart) → level_in m.measures q ≡ Some l → IsLevelPart (arity_in p q) l
  part_natural c q m im l e = measured (λ (x : ℕ) (l : LevelPart). IsLevelPart (arity_in p x) l) m.measures q l im.measures.parts e

  -- the coefficients of a mapping are at positions of its component
  pub mapping_at : (c : ℕ) (m : Mapping) → IsMappingOf expression p (rows_of rows) comps c m → IsZeroOutside (positions_in p comps c) (mapping_with m.measures)
  mapping_at c m im q a positive = go (level_in m.measures q) refl positive
    where
      go : (o : Option LevelPart) → level_in m.measures q ≡ o → 0 < coefficient (dual.natural_coefficients o) a → In {X = ℕ × ℕ} (q, a) (positions_in p comps c)
      go None e h = absurd (none a h)
        where
          none : (a : ℕ) → 0 < coefficient [] a → ⊥
          none zero h = absurd (omega arith)
          none (suc a) h = absurd (omega arith)
      go (Some l) e h =
          let long = (part_natural c q m im l e).each in
          let below = coefficient_below (map unsigned_abs l.coeffs) a h in
          let count = length-map l.coeffs unsigned_abs in
          in_positions (arity_in p) (members_in comps c) q a (subst (In q) im.measures.each (level_member m.measures q l e)) (omega arith)

  -- and a mapping falls at each call of its component
  pub mapping_decreases : (c : ℕ) (m : Mapping) → c < length comps.members → IsMappingOf expression p (rows_of rows) comps c m → Decreases expression (component_view expression p comps (rows_of rows) c) (mapping_with m.measures)
  mapping_decreases c m inner im =
      kept_all (λ (k : Clause). rank_in comps k.head.pred.0 == c) (rule_of (size_claims expression p comps (rows_of rows)) c itself)
      (λ (k : Rule). (j : ℕ) (b : Call) (q : ℕ) → slice_get k.body j ≡ Some b → b.place ≡ Member q
      → HoldsOn (suc k.vars) (system_of expression k.vars (take j k.body)) (fall_over expression k q b.args 1 (mapping_with m.measures))) p.clauses (λ i k at passes j b q ej place.
      let claims = size_claims expression p comps (rows_of rows) in
      let l = mapping_with m.measures in
      let (a, ea, same) = unmapped (view.call_of claims c itself) k.body j b ej in
      let head : IsIn comps c k.head.pred.0 = in_range comps.of k.head.pred.0 (length comps.members) c (eqb-true (rank_in comps k.head.pred.0) c passes) inner in
      let (own, number) = place_is (rank_in comps a.pred.0 == c) a.pred.0 q (upward_union claims a.pred.0) (ap (λ (x : Call). x.place) same ∙ place) in
      let call : IsIn comps c a.pred.0 = in_range comps.of a.pred.0 (length comps.members) c (eqb-true (rank_in comps a.pred.0) c own) inner in
      let (by, ef, shown) = own_fall expression p comps rows found program components founds c i j k a m at ea head call im in
      let (hl, ehl) = level_there expression p comps rows found program components founds c k.head.pred.0 m head im in
      let (cl, ecl) = level_there expression p comps rows found program components founds c a.pred.0 m call im in
      let is = shown hl cl ehl ecl in
      let body = system expression (rows_of rows) k.vars (take j k.body) in
      let scale = natural_is by.scale is.0.scale in
      let holds = shown_holds (suc k.vars) body (fall_of expression k a hl cl) by.list (unsigned_abs by.scale) (fall_width expression widths k a hl cl) is.0.naturals (subst (Proves (short_system expression (rows_of rows) k.vars (take j k.body)) by.list (fall_of expression k a hl cl)) (sym scale) is.1.proves) in
      let one = level_same expression k.vars k.head hl (level_in m.measures k.head.pred.0) (arity_in p k.head.pred.0) ehl (part_natural c k.head.pred.0 m im hl ehl) in
      let two = level_same expression k.vars a cl (level_in m.measures a.pred.0) (arity_in p a.pred.0) ecl (part_natural c a.pred.0 m im cl ecl) in
      let fall : fall_over expression (rule_of claims c itself k) a.pred.0 a.args 1 l ≡ fall_of expression k a hl cl = λ i. added (one i) (scaled (negsuc 0) (added (two i) (pos 1 ∷ []))) in
      let rows_same : body ≡ system_of expression k.vars (take j (map (view.call_of claims c itself) k.body)) =
      sym (ap (system_of expression k.vars) (take_mapped (view.call_of claims c itself) j k.body) ∙ system_same expression p comps (rows_of rows) c k.vars (take j k.body)) in
      subst (λ (rs : List (List ℤ)). HoldsOn (suc k.vars) rs (fall_over expression (rule_of claims c itself k) q b.args 1 l)) rows_same
      (subst (λ (x : Call). HoldsOn (suc k.vars) body (fall_over expression (rule_of claims c itself k) q x.args 1 l)) same
      (subst (λ (n : ℕ). HoldsOn (suc k.vars) body (fall_over expression (rule_of claims c itself k) n a.args 1 l)) number
      (subst (HoldsOn (suc k.vars) body) (sym fall) holds))))
