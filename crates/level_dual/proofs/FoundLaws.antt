-- The mapping that a point of a set's system gives is found.
use Rattle.std.proofs.Common.{◌≡◌, ℕ, ◌+◌, ◌-◌, ◌==◌, ℤ, pos, Bool, true, false, if◌then◌else◌, List, [], ◌∷◌, ◌++◌, map, filter, take, drop, length, slice_get, Some, refl, ap, sym, subst, ◌∙◌, arith, eqb-true}
use Rattle.std.specs.List.{AllByRecursion, list_any}
use Rattle.std.proofs.lemmas.List.{length-map}
use Rattle.cti_terms.specs.Listing.{IsClause, Listing}
use Rattle.cti_terms.specs.Tree.{Tree}
use Rattle.call_components.specs.Numbers.{number_of}
use Rattle.call_components.specs.Partition.{Partition}
use Rattle.linear_rows.specs.Rows.{AllHold, IsPoint}
use Rattle.number_tests.specs.Shape.{IsLevelPart}
use Rattle.number_tests.specs.declared.level_part.LevelPart.{LevelPart}
use Rattle.termination_model.specs.mappings.BlownSupports.{same_position}
use Rattle.termination_model.specs.mappings.Ready.{arity_in}
use Rattle.termination_model.specs.mappings.SupportSystem.{support_rows}
use Rattle.termination_model.specs.mappings.Supports.{picked_from}
use Rattle.termination_model.proofs.Lists.{by_places}
use Rattle.level_systems.specs.Falling.{AreFallsOf, ShowFalls}
use Rattle.level_systems.specs.Held.{IsHeld, spelled}
use Rattle.level_systems.specs.Mappings.{HasMeasures, IsMappingOf, level_in}
use Rattle.level_systems.specs.Pairs.{clause_at}
use Rattle.level_systems.specs.Recalled.{count_of}
use Rattle.level_systems.specs.Searched.{AreMeasuresAt, IsComponent, IsFoundIn}
use Rattle.level_systems.specs.declared.component.Component.{Component}
use Rattle.level_systems.specs.declared.mapping.Mapping.{Mapping}
use Rattle.level_systems.specs.declared.measure.Measure.{Measure}
use Rattle.level_systems.specs.declared.own_call.OwnCall.{OwnCall}
use Rattle.level_systems.specs.declared.position.Position.{Position}
use Rattle.level_systems.proofs.Falls.{falls_are, pairs_are}
use Rattle.level_dual.proofs.SearchLaws.{drop_mapped, length_drop, length_take, lives, point_found, split_values, take_mapped}
use Rattle.level_systems.proofs.SoundLaws.{some_arity}

pub part_of : (P : ℕ → LevelPart → Type 0) (ms : List Measure) (q : ℕ) (l : LevelPart) → AllByRecursion (λ (m : Measure). P m.pred.0 m.part) ms → level_in ms q ≡ Some l → P q l
part_of P [] q l all e = cc
part_of P (m ∷ ms) q l all e = go (m.pred.0 == q) refl e (part_of P ms q l all.1)
  where
    go : (b : Bool) → (m.pred.0 == q) ≡ b → (if b then Some m.part else level_in ms q) ≡ Some l → (level_in ms q ≡ Some l → P q l) → P q l
    go true s h rec = let same : m.part ≡ l = cc in subst (P q) same (subst (λ (x : ℕ). P x m.part) (eqb-true m.pred.0 q s) all.0)
    go false s h rec = rec h

module _ (size : (ℕ → ℕ) → Tree → ℕ) (truth : (ℕ → Bool) → Tree → Bool) (expression : ℕ → Tree → List ℤ) (p : Listing) (comps : Partition) (rows : ℕ → List (List ℤ)) (c : ℕ) (x : Component)
    (h : IsComponent size truth expression p comps rows c x) where
  -- parts have a coefficient for each argument of a head
  pub wide_heads : (ms : List Measure) → HasMeasures p (map number_of x.members.items) ms → (owns : List OwnCall) → AllByRecursion (IsHeld expression p rows) owns
      → AllByRecursion (λ (own : OwnCall). (head : LevelPart) → level_in ms (clause_at p own.clause).head.pred.0 ≡ Some head → length head.coeffs ≡ length (clause_at p own.clause).head.args) owns
  wide_heads ms m [] held = tt
  wide_heads ms m (own ∷ owns) held =
      let first = held.0 in
      let clause = by_places (IsClause p.preds) p.clauses h.program.clauses (own.clause - 1) (clause_at p own.clause) first.there in
      let arity = clause.head.arity in (
        λ head e.
            let part = part_of (λ q l. IsLevelPart (arity_in p q) l) ms (clause_at p own.clause).head.pred.0 head m.parts e in
            part.each ∙ some_arity (slice_get p.preds (clause_at p own.clause).head.pred.0) (length (clause_at p own.clause).head.args) arity,
        wide_heads ms m owns held.1,
      )

  pub mapping_is : (values : List ℤ) (m : Mapping) → HasMeasures p (map number_of x.members.items) m.measures → ShowFalls m.measures x.calls.items values → AreFallsOf x.calls.items values m.falls
      → IsMappingOf expression p rows comps c m
  mapping_is values m measures shows falls = record {
    measures = subst (λ (ms : List ℕ). HasMeasures p ms m.measures) h.members measures;
    pairs = pairs_are x.calls.items values m.falls falls ∙ h.pairs;
    falls = falls_are size truth expression h.norm p rows m.measures x.calls.items values m.falls h.held (wide_heads m.measures measures x.calls.items h.held) shows falls;
  }

  pub found_at : (s : List ℕ) (at : List Position) → map spelled at ≡ filter (λ r. list_any (same_position r) (picked_from 1 (map spelled x.positions.items) s)) (map spelled x.order.items)
      → (n : ℕ) (system : List (List ℤ)) → n ≡ length at + (length x.by_clauses.items + count_of x.calls.items)
      → system ≡ support_rows expression (map spelled at) (map number_of x.by_clauses.items) (lives size truth expression p comps rows c x h)
      → (t : ℤ) (w : List ℤ) → IsPoint n system t w → (m : Mapping) → AreMeasuresAt p x at w m.measures
      → ShowFalls m.measures x.calls.items (drop (length x.by_clauses.items) (drop (length at) w)) → AreFallsOf x.calls.items (drop (length x.by_clauses.items) (drop (length at) w)) m.falls
      → IsFoundIn expression p comps rows c s m
  found_at s at is n system en es t w point m measures shows falls =
      let a = length at in
      let b = length x.by_clauses.items in
      let values = point.values in
      let cs = take a values in
      let os = take b (drop a values) in
      let ms = drop b (drop a values) in
      let long : length values ≡ a + (b + count_of x.calls.items) = point.long ∙ en in
      let rest : length (drop a values) ≡ b + count_of x.calls.items = length_drop a values (b + count_of x.calls.items) long in
      let lc : length cs ≡ a = length_take a values (omega (arith, long)) in
      let lo : length os ≡ b = length_take b (drop a values) (omega (arith, rest)) in
      let lm : length ms ≡ count_of x.calls.items = length_drop b (drop a values) (count_of x.calls.items) rest in
      let whole : cs ++ (os ++ ms) ≡ values = ap (λ (z : List ℕ). cs ++ z) (split_values b (drop a values)) ∙ split_values a values in
      let hold : AllHold (support_rows expression (map spelled at) (map number_of x.by_clauses.items) (lives size truth expression p comps rows c x h)) point.scale (cs ++ (os ++ ms)) =
      subst (λ (z : List ℕ). AllHold (support_rows expression (map spelled at) (map number_of x.by_clauses.items) (lives size truth expression p comps rows c x h)) point.scale z) (sym whole)
      (subst (λ (rs : List (List ℤ)). AllHold rs point.scale values) es point.hold) in
      let spell = length-map at spelled in
      let count = length-map x.by_clauses.items number_of in
      let tc : take a w ≡ map pos cs = ap (take a) point.w_is ∙ take_mapped (λ n. pos n) a values in
      let to : take b (drop a w) ≡ map pos os = ap (λ (z : List ℤ). take b (drop a z)) point.w_is ∙ ap (take b) (drop_mapped (λ n. pos n) a values) ∙ take_mapped (λ n. pos n) b (drop a values) in
      point_found size truth expression p comps rows c x h s (map spelled at)
      (is ∙ (λ i. filter (λ r. list_any (same_position r) (picked_from 1 (h.positions i) s)) (h.order i)))
      point.scale cs os ms point.some (lc ∙ sym spell) (lo ∙ sym count) lm hold m
      (mapping_is (drop b (drop a w)) m measures.measures shows falls) (measures.parts cs os lc lo tc to)
