-- Parts of mappings, their falls and their supports, where the component stands with its members in any order.
use Rattle.std.proofs.Common.{◌≡◌, ◌≢◌, ℕ, zero, suc, ◌+◌, ◌-◌, ◌==◌, ℤ, Bool, true, inl, inr, List, [], ◌∷◌, map, take, length, slice_get, Option, None, Some, refl, ap, sym, subst, ◌∙◌}
use Rattle.std.specs.Prelude.{◌↔◌, option_map}
use Rattle.std.specs.List.{AllByRecursion}
use Rattle.call_components.specs.Partition.{Partition}
use Rattle.cti_terms.specs.Listing.{Listing}
use Rattle.cti_terms.specs.Tree.{Tree}
use Rattle.cti_terms.specs.declared.atom_list.Atom.{Atom}
use Rattle.cti_terms.specs.declared.clauses.Clause.{Clause}
use Rattle.linear_rows.specs.Members.{In}
use Rattle.linear_rows.specs.Showing.{AreMultipliers, IsShown}
use Rattle.linear_rows.proofs.Members.{in-map, of-map}
use Rattle.number_tests.specs.Proved.{fall_of}
use Rattle.number_tests.specs.Shape.{IsLevelPart, row_count}
use Rattle.number_tests.specs.declared.level_part.LevelPart.{LevelPart}
use Rattle.termination_model.specs.mappings.BlownSupports.{IsBlownAt}
use Rattle.termination_model.specs.chains.Chain.{clauses_of}
use Rattle.termination_model.specs.mappings.ComponentViews.{HasSupportIn, component_view, members_in, positions_in, rank_in}
use Rattle.termination_model.specs.mappings.Excluding.{IsZeroOutside}
use Rattle.termination_model.specs.mappings.OwnCalls.{Position}
use Rattle.termination_model.specs.mappings.Ready.{arity_in}
use Rattle.termination_model.specs.mappings.Refutation.{Decreases}
use Rattle.termination_model.specs.mappings.Supports.{HasSupport, picked_from, support_from}
use Rattle.termination_model.specs.sizes.ShortSystems.{short_row, short_system}
use Rattle.termination_model.specs.mappings.View.{Rule}
use Rattle.termination_model.proofs.ChainSieves.{all_of, of_all}
use Rattle.level_systems.specs.Found.{IsBlownSet}
use Rattle.level_systems.specs.Mappings.{HasMeasures, IsFall, level_in, mapping_with}
use Rattle.level_systems.specs.Pairs.{pairs_of}
use Rattle.level_systems.specs.declared.fall.Fall.{Fall}
use Rattle.level_systems.specs.declared.measure.Measure.{Measure}
use Rattle.component_laws.specs.Mapped.{AreSamePositions, pulled, renamed_rule}
use Rattle.component_laws.specs.Renaming.{renamed, renamed_atom}
use Rattle.component_laws.proofs.BlownLaws.{blown_alike}
use Rattle.component_laws.proofs.MappedLaws.{all_here, all_there, at_here}
use Rattle.component_laws.proofs.RunLaws.{renamed_system}
use Rattle.component_laws.proofs.SupportedLaws.{none_alike}
use Rattle.carried_mappings.specs.Moved.{moved_fall}
use Rattle.carried_mappings.proofs.Alike.{AreAlike, Rowed}
use Rattle.carried_mappings.proofs.Numbers.{AreMoved, Numbered, numbers_of}
use Rattle.carried_mappings.proofs.Renamed.{at_renamed, level_renamed, map_twice, mapping_pulled, preds_of, renamed_measure, renamed_position}

-- ---- lists
pub map_at : {X Y : Type 0} (g : X → Y) (xs : List X) (j : ℕ) (y : Y) → slice_get (map g xs) j ≡ Some y → (x : X) × (slice_get xs j ≡ Some x) × (g x ≡ y)
map_at g [] j y e = cc
map_at g (x ∷ xs) zero y e = let is : g x ≡ y = cc in (x, refl, is)
map_at g (x ∷ xs) (suc j) y e = map_at g xs j y e

pub take_mapped : {X Y : Type 0} (g : X → Y) (n : ℕ) (xs : List X) → take n (map g xs) ≡ map g (take n xs)
take_mapped g zero xs = refl
take_mapped g (suc n) [] = refl
take_mapped g (suc n) (x ∷ xs) = ap (λ z. g x ∷ z) (take_mapped g n xs)

pub in_taken : {X : Type 0} (n : ℕ) (xs : List X) (x : X) → In x (take n xs) → In x xs
in_taken zero xs x h = absurd h
in_taken (suc n) [] x h = absurd h
in_taken (suc n) (y ∷ xs) x (inl e) = inl e
in_taken (suc n) (y ∷ xs) x (inr h) = inr (in_taken n xs x h)

pub some_mapped : {X Y : Type 0} (g : X → Y) (o : Option X) → (option_map g o ≢ None) ↔ (o ≢ None)
some_mapped g None = (λ h e. h refl, λ h e. h refl)
some_mapped g (Some x) = (λ h e. cc, λ h e. cc)

-- ---- rows of atoms
row_count_renamed : (f : ℕ → ℕ) (rows new_rows : Rowed) (bs : List Atom) → ((a : Atom) → In a bs → new_rows (f a.pred.0) ≡ rows a.pred.0) → row_count new_rows (map (renamed_atom f) bs) ≡ row_count rows bs
row_count_renamed f rows new_rows [] h = refl
row_count_renamed f rows new_rows (a ∷ bs) h =
    let here = h a (inl refl) in
    let more = row_count_renamed f rows new_rows bs (λ x i. h x (inr i)) in
    λ i. length (here i) + more i

module _ (p new : Listing) (comps new_comps : Partition) (b c : ℕ) (rows new_rows : Rowed) (f back : ℕ → ℕ) (h : AreAlike p new comps new_comps b c rows new_rows f back)
    (g : ℕ → ℕ) (moves : AreMoved g (numbers_of (clauses_of p comps b)) (numbers_of (clauses_of new new_comps c))) (expression : ℕ → Tree → List ℤ) where
  abbrev m : ℕ → Bool
  m q = rank_in comps q == b

  abbrev ps : List Position
  ps = positions_in p comps b

  abbrev view : List Rule
  view = component_view expression p comps rows b

  abbrev new_view : List Rule
  new_view = component_view expression new new_comps new_rows c

  abbrev members : List ℕ
  members = members_in new_comps c

  -- ---- falls
  module _ (ms : List Measure) (parts : (x : Measure) → In x ms → m x.pred.0 ≡ true) where
    abbrev new_ms : List Measure
    new_ms = map (renamed_measure f) ms

    -- what shows a fall from a clause, by multipliers, to the call of this number
    abbrev Shows : Rowed → List Measure → Fall → Clause → Type 0
    Shows its its_ms x k = (a : Atom) (head call : LevelPart) → slice_get k.body (x.call - 1) ≡ Some a → level_in its_ms k.head.pred.0 ≡ Some head → level_in its_ms a.pred.0 ≡ Some call
        → AreMultipliers (row_count its (take (x.call - 1) k.body)) x.by × IsShown (short_system expression its k.vars (take (x.call - 1) k.body)) (fall_of expression k a head call) x.by

    shows_renamed : (k : Numbered) → In k (clauses_of p comps b) → (x : Fall) (a : Atom) → slice_get k.1.body (x.call - 1) ≡ Some a → m a.pred.0 ≡ true → Shows rows ms x k.1 → Shows new_rows new_ms x (renamed f k.1)
    shows_renamed k i x a at own old e head call at_e at_head at_call =
        let n = x.call - 1 in
        let from = map_at (renamed_atom f) k.1.body n e at_e in
        let there = from.1 in
        let same : from.0 ≡ a = cc in
        let is : renamed_atom f a ≡ e = ap (renamed_atom f) (sym same) ∙ from.2 in
        let head_here : level_in ms k.1.head.pred.0 ≡ Some head = sym (level_renamed f m h.all.apart ms parts k.1.head.pred.0 (h.here k i).1) ∙ at_head in
        let call_here : level_in ms a.pred.0 ≡ Some call = sym (level_renamed f m h.all.apart ms parts a.pred.0 own) ∙ ap (λ (z : Atom). level_in new_ms z.pred.0) is ∙ at_call in
        let given = old a head call at head_here call_here in
        let body : List Atom = take n k.1.body in
        let body_is : take n (map (renamed_atom f) k.1.body) ≡ map (renamed_atom f) body = take_mapped (renamed_atom f) n k.1.body in
        let rows_are : (z : Atom) → In z body → new_rows (f z.pred.0) ≡ rows z.pred.0 = λ z j. h.body_rows k i z (in_taken n k.1.body z j) in
        let counts : row_count new_rows (take n (map (renamed_atom f) k.1.body)) ≡ row_count rows body = ap (row_count new_rows) body_is ∙ row_count_renamed f rows new_rows body rows_are in
        let systems : short_system expression new_rows k.1.vars (take n (map (renamed_atom f) k.1.body)) ≡ short_system expression rows k.1.vars body =
        ap (short_system expression new_rows k.1.vars) body_is ∙ ap (map short_row) (renamed_system f expression rows new_rows k.1.vars body rows_are) in
        let falls : fall_of expression (renamed f k.1) e head call ≡ fall_of expression k.1 a head call = ap (λ (z : Atom). fall_of expression (renamed f k.1) z head call) (sym is) in (
          subst (λ (z : ℕ). AreMultipliers z x.by) (sym counts) given.0,
          subst (λ (z : List (List ℤ)). IsShown z (fall_of expression (renamed f k.1) e head call) x.by) (sym systems)
              (subst (λ (z : List ℤ). IsShown (short_system expression rows k.1.vars body) z x.by) (sym falls) given.1),
        )

    fall_there : (x : Fall) → In (x.clause, x.call) (pairs_of p comps b) → IsFall expression p rows ms x → IsFall expression new new_rows new_ms (moved_fall g x)
    fall_there x i old k e head call at_k at_e at_head at_call =
        let from = h.pair_clause (x.clause, x.call) i in
        let own = from.0 in
        let l = h.partner g moves own from.1 in
        let at : slice_get p.clauses (x.clause - 1) ≡ Some own.1 = ap (λ (n : ℕ). slice_get p.clauses (n - 1)) from.2 ∙ (h.here own from.1).0 in
        let there : slice_get new.clauses (g x.clause - 1) ≡ Some l.0.1 = ap (λ (n : ℕ). slice_get new.clauses (n - 1)) (ap g from.2 ∙ l.2) ∙ (h.there l.0 l.1).0 in
        let same : l.0.1 ≡ k = cc in
        let shown = shows_renamed own from.1 x from.3 from.4 from.5 (λ a hd cl at_a at_hd at_cl. old own.1 a hd cl at at_a at_hd at_cl) in
        subst (Shows new_rows new_ms x) (sym l.3 ∙ same) shown e head call at_e at_head at_call

  -- ---- parts of members
  pub own_parts : (ms : List Measure) → preds_of ms ≡ members_in comps b → (x : Measure) → In x ms → m x.pred.0 ≡ true
  own_parts ms e x i = h.all.member x.pred.0 (subst (In x.pred.0) e (in-map (λ (y : Measure). y.pred.0) ms x i))

  pub part_there : (ms : List Measure) → HasMeasures p (members_in comps b) ms → (x : Measure) → In x ms → IsLevelPart (arity_in new (f x.pred.0)) x.part
  part_there ms old x i =
      subst (λ (n : ℕ). IsLevelPart n x.part) (sym (h.all.arity x.pred.0 (own_parts ms old.each x i)))
      (of_all (λ (z : Measure). IsLevelPart (arity_in p z.pred.0) z.part) ms x old.parts i)

  pub pairs_there : (falls : List Fall) → map (λ (z : Fall). (z.clause, z.call)) falls ≡ pairs_of p comps b → map (λ (z : Fall). (z.clause, z.call)) (map (moved_fall g) falls) ≡ pairs_of new new_comps c
  pairs_there falls e =
      map_twice (λ (z : Fall). (z.clause, z.call)) (moved_fall g) falls ∙ sym (map_twice (λ (z : ℕ × ℕ). (g z.0, z.1)) (λ (z : Fall). (z.clause, z.call)) falls)
      ∙ ap (map (λ (z : ℕ × ℕ). (g z.0, z.1))) e ∙ sym (h.pairs g moves)

  pub falls_there : (ms : List Measure) → preds_of ms ≡ members_in comps b → (falls : List Fall) → map (λ (z : Fall). (z.clause, z.call)) falls ≡ pairs_of p comps b
      → AllByRecursion (IsFall expression p rows ms) falls → AllByRecursion (IsFall expression new new_rows (map (renamed_measure f) ms)) (map (moved_fall g) falls)
  falls_there ms each falls pairs old = all_of (IsFall expression new new_rows (map (renamed_measure f) ms)) (map (moved_fall g) falls) (λ y i.
      let z = of-map (moved_fall g) falls y i in
      let among = subst (In (z.0.clause, z.0.call)) pairs (in-map (λ (w : Fall). (w.clause, w.call)) falls z.0 z.1) in
      subst (IsFall expression new new_rows (map (renamed_measure f) ms)) z.2 (fall_there ms (own_parts ms each) z.0 among (of_all (IsFall expression p rows ms) falls z.0 old z.1)))

  -- ---- mappings of these parts
  pub pulled_there : (ms : List Measure) → preds_of ms ≡ members_in comps b → pulled f m (mapping_with (map (renamed_measure f) ms)) ≡ mapping_with ms
  pulled_there ms e = mapping_pulled f m h.all.apart ms (own_parts ms e)

  pub at_there : (ms : List Measure) → preds_of ms ≡ members_in comps b → IsZeroOutside ps (mapping_with ms) → IsZeroOutside (positions_in new new_comps c) (mapping_with (map (renamed_measure f) ms))
  at_there ms e at r a i =
      let x = of-map (renamed_position f) ps (r, a) (at_renamed f m h.all.apart ms ps (own_parts ms e) at r a i) in
      subst (λ (z : Position). In z (positions_in new new_comps c)) x.2 (h.all.positions.there x.0.0 x.0.1 x.1)

  pub falling_there : (ms : List Measure) → preds_of ms ≡ members_in comps b → Decreases expression view (mapping_with ms) → Decreases expression new_view (mapping_with (map (renamed_measure f) ms))
  falling_there ms e falls =
      subst (λ (z : List Rule). Decreases expression z (mapping_with (map (renamed_measure f) ms))) (sym (h.view expression))
      (all_there expression f m view (h.rules expression) (mapping_with (map (renamed_measure f) ms)) (subst (Decreases expression view) (sym (pulled_there ms e)) falls))

  -- ---- supports
  abbrev HadThere : List ℕ → Type 0
  HadThere = HasSupport expression (map (renamed_rule f) view) (positions_in new new_comps c)

  pub to_view : (s : List ℕ) → HadThere s → HasSupportIn expression new new_comps new_rows c s
  to_view s has = subst (λ (z : List Rule). HasSupport expression z (positions_in new new_comps c) s) (sym (h.view expression)) has

  pub of_view : (s : List ℕ) → HasSupportIn expression new new_comps new_rows c s → HadThere s
  of_view s has = subst (λ (z : List Rule). HasSupport expression z (positions_in new new_comps c) s) (h.view expression) has

  pub none_here : ((s : List ℕ) → HasSupportIn expression new new_comps new_rows c s → ⊥) → (s : List ℕ) → HasSupportIn expression p comps rows b s → ⊥
  none_here none =
      none_alike expression f m view ps (positions_in new new_comps c) back (λ r. rank_in new_comps r == c)
      (λ q a. (h.all.back_of q a, h.all.to q a)) h.all.from (h.rules expression) h.all.positions (λ s has. none s (to_view s has))

  -- and none there where there is none here
  pub none_there : ((s : List ℕ) → HasSupportIn expression p comps rows b s → ⊥) → (s : List ℕ) → HasSupportIn expression new new_comps new_rows c s → ⊥
  none_there none s has =
      let there = of_view s has in
      let l = there.mapping in
      none (support_from 1 ps (pulled f m l)) (record {
        mapping = pulled f m l;
        at = at_here expression f m view ps (positions_in new new_comps c) h.all.apart (h.rules expression) h.all.positions l there.at;
        decreases = all_here expression f m view (h.rules expression) l there.decreases;
        is = refl;
      })

  -- the system of the same positions is blown there
  pub blown_at : (s t : List ℕ) → AreSamePositions f m (picked_from 1 ps s) (picked_from 1 (positions_in new new_comps c) t) → IsBlownSet expression p comps rows b s → IsBlownSet expression new new_comps new_rows c t
  blown_at s t same old =
      subst (λ (z : List Rule). IsBlownAt expression z (arity_in new) (picked_from 1 (positions_in new new_comps c) t)) (sym (h.view expression))
      (blown_alike expression f m view (arity_in p) (arity_in new) (picked_from 1 ps s) (picked_from 1 (positions_in new new_comps c) t) h.all.apart (h.rules expression) h.all.arity same old)
