-- The drops that the code shows are drops of the parts at the pairs of the component.
use Rattle.std.proofs.Common.{◌≡◌, ℕ, ◌-◌, ℤ, Bool, true, false, List, [], ◌∷◌, map, take, length, slice_get, Some, refl, ap, sym, subst, ◌∙◌}
use Rattle.std.specs.List.{AllByRecursion}
use Rattle.std.proofs.lemmas.List.{length-map}
use Rattle.cti_terms.specs.Listing.{Listing}
use Rattle.cti_terms.specs.Tree.{Tree}
use Rattle.cti_terms.specs.declared.atom_list.Atom.{Atom}
use Rattle.cti_terms.specs.declared.clauses.Clause.{Clause}
use Rattle.linear_rows.specs.Members.{In}
use Rattle.linear_rows.specs.Plain.{plain_row, plain_rows}
use Rattle.linear_rows.specs.Replacing.{over_columns}
use Rattle.linear_rows.specs.Showing.{AreMultipliers, IsShown}
use Rattle.linear_rows.specs.declared.multipliers.Multipliers.{Multipliers}
use Rattle.number_tests.proofs.RowSteps.{length-system}
use Rattle.number_tests.specs.Shape.{row_count}
use Rattle.number_tests.specs.declared.level_part.LevelPart.{LevelPart}
use Rattle.term_size.specs.Norm.{IsNorm}
use Rattle.termination_model.proofs.Lists.{one_element}
use Rattle.termination_model.specs.sizes.Systems.{system}
use Rattle.termination_model.specs.sizes.ShortSystems.{short_system}
use Rattle.level_systems.specs.Held.{IsHeld, numbers_of_call}
use Rattle.level_systems.specs.Mappings.{level_in}
use Rattle.level_systems.specs.Pairs.{call_at, clause_at}
use Rattle.level_systems.specs.declared.measure.Measure.{Measure}
use Rattle.level_systems.specs.declared.own_call.OwnCall.{OwnCall}
use Rattle.level_systems.proofs.Falls.{short_same}
use Rattle.lex_turns.specs.Descending.{HasPlace, IsDrop}
use Rattle.number_tests.specs.Drops.{drop_of, drop_weights}
use Rattle.lex_turns.specs.Tracking.{AreTracked, ShowPlace, Shown, kept}
use Rattle.lex_turns.specs.declared.call_drops.CallDrops.{CallDrops}
use Rattle.number_tests.proofs.DropLaws.{drop_target}

-- where no call is kept, each has its place
abbrev ArePlaced : List (List Measure) → List OwnCall → List CallDrops → Type 0
ArePlaced mss [] [] = Unit {0}
ArePlaced mss [] (d ∷ ds) = ⊥
ArePlaced mss (own ∷ owns) [] = ⊥
ArePlaced mss (own ∷ owns) (d ∷ ds) = ((d.clause ≡ own.clause) × (d.call ≡ own.call) × ShowPlace mss own d.by) × ArePlaced mss owns ds

placed : (ms : List Measure) (mss : List (List Measure)) (owns : List OwnCall) (gs : List Bool) (ds : List CallDrops) → AreTracked (ms ∷ mss) owns gs ds → kept owns gs ≡ [] → ArePlaced (ms ∷ mss) owns ds
placed ms mss [] [] [] h e = tt
placed ms mss [] [] (d ∷ ds) h e = absurd h
placed ms mss [] (g ∷ gs) ds h e = absurd h
placed ms mss (own ∷ owns) [] ds h e = absurd h
placed ms mss (own ∷ owns) (g ∷ gs) [] h e = absurd h
placed ms mss (own ∷ owns) (true ∷ gs) (d ∷ ds) h e = (h.0, placed ms mss owns gs ds h.1 e)
placed ms mss (own ∷ owns) (false ∷ gs) (d ∷ ds) h e = cc

pub pairs_are : (ms : List Measure) (mss : List (List Measure)) (owns : List OwnCall) (gs : List Bool) (ds : List CallDrops) → AreTracked (ms ∷ mss) owns gs ds → kept owns gs ≡ [] → map (λ (d : CallDrops). (d.clause, d.call)) ds ≡ map numbers_of_call owns
pairs_are ms mss owns gs ds h e = go owns ds (placed ms mss owns gs ds h e)
  where
    go : (owns : List OwnCall) (ds : List CallDrops) → ArePlaced (ms ∷ mss) owns ds → map (λ (d : CallDrops). (d.clause, d.call)) ds ≡ map numbers_of_call owns
    go [] [] h = refl
    go [] (d ∷ ds) h = absurd h
    go (own ∷ owns) [] h = absurd h
    go (own ∷ owns) (d ∷ ds) h =
        let clause = h.0.0 in
        let call = h.0.1 in
        let rest = go owns ds h.1 in
        λ i. (clause i, call i) ∷ rest i

module _ (size : (ℕ → ℕ) → Tree → ℕ) (truth : (ℕ → Bool) → Tree → Bool) (expression : ℕ → Tree → List ℤ) (norm : IsNorm size truth expression) (p : Listing) (rows : ℕ → List (List ℤ)) where
  -- parts have a coefficient for each argument of a head
  abbrev pub IsWide : List Measure → OwnCall → Type 0
  IsWide ms own = (head : LevelPart) → level_in ms (clause_at p own.clause).head.pred.0 ≡ Some head → length head.coeffs ≡ length (clause_at p own.clause).head.args

  pub rows_same : (own : OwnCall) → (h : IsHeld expression p rows own)
      → plain_rows own.rows.list ≡ short_system expression rows (clause_at p own.clause).vars (take (own.call - 1) (clause_at p own.clause).body)
  rows_same own h =
      let rs = system expression rows (clause_at p own.clause).vars (take (own.call - 1) (clause_at p own.clause).body) in
      h.before ∙ sym (short_same rs (λ r i. h.fit r (subst (In r) (sym h.before) i)))

  -- the call by its clause and atom
  one_drop : (e : ℕ) (ms : List Measure) (own : OwnCall) (by : Multipliers) → IsHeld expression p rows own → IsWide ms own → Shown e ms own by → IsDrop expression p rows e ms (own.clause, own.call) by
  one_drop e ms own by h wide shows k b head call ek eb eh ec =
      let K = clause_at p own.clause in
      let B = call_at p own.clause own.call in
      let hk : k ≡ K = one_element p.clauses (own.clause - 1) k K ek h.there in
      let hb : b ≡ B = one_element K.body (own.call - 1) b B (subst (λ (x : Clause). slice_get x.body (own.call - 1) ≡ Some b) hk eb) h.at in
      let head_there : level_in ms K.head.pred.0 ≡ Some head = subst (λ (x : Clause). level_in ms x.head.pred.0 ≡ Some head) hk eh in
      let call_there : level_in ms B.pred.0 ≡ Some call = subst (λ (x : Atom). level_in ms x.pred.0 ≡ Some call) hb ec in
      let shown = shows.1 head call (ap (level_in ms) h.caller ∙ head_there) (ap (level_in ms) h.callee ∙ call_there) in
      let target = drop_target size truth expression norm e K B head call own.columns.items (wide head head_there) h.columns in
      let there : IsShown (short_system expression rows K.vars (take (own.call - 1) K.body)) (drop_of expression e K B head call) by =
      subst (λ (z : List ℤ). IsShown (short_system expression rows K.vars (take (own.call - 1) K.body)) z by) target
      (subst (λ (rs : List (List ℤ)). IsShown rs (over_columns own.columns.items (drop_weights e head call)) by) (rows_same own h) shown) in
      let count : length own.rows.list ≡ row_count rows (take (own.call - 1) K.body) =
      sym (length-map own.rows.list plain_row) ∙ ap length h.before ∙ length-system expression rows K.vars (take (own.call - 1) K.body) in
      let many : AreMultipliers (row_count rows (take (own.call - 1) K.body)) by = subst (λ (m : ℕ). AreMultipliers m by) count shows.0 in (
        subst (λ (x : Clause). AreMultipliers (row_count rows (take (own.call - 1) x.body)) by) (sym hk) many,
        subst (λ (x : Clause). IsShown (short_system expression rows x.vars (take (own.call - 1) x.body)) (drop_of expression e x b head call) by) (sym hk)
            (subst (λ (y : Atom). IsShown (short_system expression rows K.vars (take (own.call - 1) K.body)) (drop_of expression e K y head call) by) (sym hb) there),
      )

  one_place : (mss : List (List Measure)) (own : OwnCall) (bys : List Multipliers) → IsHeld expression p rows own → AllByRecursion (λ (ms : List Measure). IsWide ms own) mss → ShowPlace mss own bys
      → HasPlace expression p rows mss (own.clause, own.call) bys
  one_place mss own [] h wide s = absurd s
  one_place [] own (by ∷ bys) h wide s = absurd s
  one_place (ms ∷ mss) own (by ∷ []) h wide s = one_drop 1 ms own by h wide.0 s
  one_place (ms ∷ mss) own (by ∷ (next ∷ bys)) h wide s = (one_drop 0 ms own by h wide.0 s.0, one_place mss own (next ∷ bys) h wide.1 s.1)

  pub places_are : (ms : List Measure) (mss : List (List Measure)) (owns : List OwnCall) (gs : List Bool) (ds : List CallDrops) → AllByRecursion (IsHeld expression p rows) owns
      → AllByRecursion (λ (own : OwnCall). AllByRecursion (λ (ns : List Measure). IsWide ns own) (ms ∷ mss)) owns → AreTracked (ms ∷ mss) owns gs ds → kept owns gs ≡ []
      → AllByRecursion (λ (d : CallDrops). HasPlace expression p rows (ms ∷ mss) (d.clause, d.call) d.by) ds
  places_are ms mss owns gs ds held wide h e = go owns ds held wide (placed ms mss owns gs ds h e)
    where
      go : (owns : List OwnCall) (ds : List CallDrops) → AllByRecursion (IsHeld expression p rows) owns → AllByRecursion (λ (own : OwnCall). AllByRecursion (λ (ns : List Measure). IsWide ns own) (ms ∷ mss)) owns
          → ArePlaced (ms ∷ mss) owns ds → AllByRecursion (λ (d : CallDrops). HasPlace expression p rows (ms ∷ mss) (d.clause, d.call) d.by) ds
      go [] [] held wide h = tt
      go [] (d ∷ ds) held wide h = absurd h
      go (own ∷ owns) [] held wide h = absurd h
      go (own ∷ owns) (d ∷ ds) held wide h =
          let same : (own.clause, own.call) ≡ (d.clause, d.call) = λ i. (sym h.0.0 i, sym h.0.1 i) in (
            subst (λ (pair : ℕ × ℕ). HasPlace expression p rows (ms ∷ mss) pair d.by) same (one_place (ms ∷ mss) own d.by held.0 wide.0 h.0.2),
            go owns ds held.1 wide.1 h.1,
          )
