-- Components that are solved, and stay so while later ones are.
use Rattle.std.proofs.Common.{◌≡◌, ℕ, zero, suc, ◌+◌, ◌<◌, Bool, true, false, IsTrue, List, [], length, map, replicate, slice_get, None, Some, refl, ap, sym, subst, ◌∙◌, arith}
use Rattle.std.specs.List.{Any, list_any}
use Rattle.std.proofs.lemmas.List.{length-map, length-replicate}
use Rattle.bool_diagrams.specs.Rows.{IsDiagram, Keeps, holds}
use Rattle.bool_diagrams.specs.Tree.{Tree as Rows}
use Rattle.bool_diagrams.specs.declared.diagram.Diagram.{Diagram}
use Rattle.call_components.specs.Calls.{Calls}
use Rattle.call_components.specs.Numbers.{number_of}
use Rattle.call_components.specs.Partition.{AreComponents, IsIn, Partition}
use Rattle.cti_terms.specs.Listing.{IsAtom, IsClause, IsProgram, Listing}
use Rattle.cti_terms.specs.Tree.{Tree}
use Rattle.cti_terms.specs.declared.atom_list.Atom.{Atom}
use Rattle.cti_terms.specs.declared.clauses.Clause.{Clause}
use Rattle.cti_terms.specs.declared.predicates.Pred.{Pred}
use Rattle.cti_terms.specs.declared.predicates.PredId.{PredId}
use Rattle.number_tests.specs.Levels.{coefficients_of, items_of}
use Rattle.number_tests.specs.declared.level_part.LevelPart.{LevelPart}
use Rattle.precond_fixpoint.specs.Greatest.{IsGreatestIn}
use Rattle.precond_fixpoint.specs.Removing.{AreRanked, is_ranked}
use Rattle.precond_fixpoint.specs.Solving.{AreLevels, AreMappingSets, AreUnions, IsColumn, IsSolution, IsSolved, allowed_family, is_member, pre_family}
use Rattle.precond_fixpoint.proofs.AllowedLaws.{greatest_depends_below, greatest_depends_on_members}
use Rattle.precond_fixpoint.proofs.FamilyLaws.{allowed_after, column_row, pre_after}
use Rattle.groundness.proofs.NoRows.{start_none, start_sets}
use Rattle.precond_fixpoint.proofs.PlaceLaws.{any_at, at_is, is_at_of, items_at, items_same, member_place, not_at, place_member, ranked_is, some_at}
use Rattle.termination_model.specs.grounds.Grounds.{Family}
use Rattle.termination_model.specs.mappings.View.{all_upper}
use Rattle.truth_rows.specs.Sets.{AreSets, family_of, has_row}
use Rattle.truth_rows.proofs.CallerLemmas.{family_later, sets_later}
use Rattle.termination_model.proofs.Lists.{by_places, one_element, place_below}
use Rattle.truth_rows.proofs.SetLaws.{some_is}

module _ (truth : (ℕ → Bool) → Tree → Bool) (p : Listing) (comps : Partition) (grounds : Family) (levels : List (List LevelPart))
    (T T2 : List Rows) (K : Keeps T T2) (sets new : List (List Diagram)) (S : AreMappingSets p.preds T sets)
    (c : ℕ) (others : (q : ℕ) → (IsIn comps c q → ⊥) → slice_get new q ≡ slice_get sets q) where
  -- the component whose sets were put
  pub component_solved : (ranks : List ℕ) → ranks ≡ map (λ d. d + 1) comps.of → (allowed : List Diagram) → AreUnions p.preds T sets allowed
      → (T1 : List Rows) → Keeps T1 T2 → (families : List (List Diagram)) (count : ℕ) → length families ≡ count
      → ((m : ℕ) (family : List Diagram) → slice_get families m ≡ Some family → IsSolution truth p ranks (c + 1) (family_of p.preds T allowed) grounds levels T1 m family)
      → ((q : ℕ) → IsIn comps c q → IsColumn families q (items_of new q)) → ((q : ℕ) → IsIn comps c q → length (items_of levels q) ≡ count)
      → IsSolved truth p comps grounds levels T2 new c
  component_solved ranks are allowed U T1 K1 families count each solutions own counted = record {
    counts = λ q in_it. (own q in_it).each ∙ each ∙ sym (counted q in_it);
    greatest = λ q m in_it lt.
        let f = some_at families m (omega (arith, counted q in_it, each, lt)) in
        let s = solutions m f.0 f.1 in
        let a = subst (λ (t : ℕ → Bool). IsGreatestIn truth p t (family_of p.preds T allowed) grounds (coefficients_of levels m) (family_of p.preds T1 f.0)) (ranked_is ranks comps c are) s.greatest in
        let b = subst (λ (g : Family). IsGreatestIn truth p (is_member comps c) g grounds (coefficients_of levels m) (family_of p.preds T1 f.0)) U.rows a in
        let d = greatest_depends_below truth p (is_member comps c) (allowed_family p.preds T sets) (allowed_family p.preds T2 new) grounds (coefficients_of levels m) (family_of p.preds T1 f.0)
        (λ i k at member j x there no. sym (allowed_after T T2 K p.preds sets new S x.pred.0 (others x.pred.0 (not_at (slice_get comps.of x.pred.0) c no)))) b in
        greatest_depends_on_members truth p (is_member comps c) (allowed_family p.preds T2 new) grounds (coefficients_of levels m) (family_of p.preds T1 f.0) (pre_family p.preds T2 new m)
        (λ r member. column_row T1 T2 K1 p.preds families new r m f.0 (λ x e. s.sets.known r x e) f.1 (own r (at_is (slice_get comps.of r) c member))) d;
  }

  -- an earlier component
  pub solved_after : IsProgram p → AreComponents p comps → (d : ℕ) → d < c → IsSolved truth p comps grounds levels T sets d → IsSolved truth p comps grounds levels T2 new d
  solved_after program are d before h = record {
    counts = λ q in_it. ap length (items_same new sets q (same q d in_it before)) ∙ h.counts q in_it;
    greatest = λ q m in_it lt.
        let a = greatest_depends_below truth p (is_member comps d) (allowed_family p.preds T sets) (allowed_family p.preds T2 new) grounds (coefficients_of levels m) (pre_family p.preds T sets m)
        (λ i k at member j x there no. sym (allowed_after T T2 K p.preds sets new S x.pred.0 (callee i k at member j x there))) (h.greatest q m in_it lt) in
        greatest_depends_on_members truth p (is_member comps d) (allowed_family p.preds T2 new) grounds (coefficients_of levels m) (pre_family p.preds T sets m) (pre_family p.preds T2 new m)
        (λ r member. sym (pre_after T T2 K p.preds sets new S r (same r d (at_is (slice_get comps.of r) d member) before) m)) a;
  }
    where
      same : (q e : ℕ) → IsIn comps e q → e < c → slice_get new q ≡ slice_get sets q
      same q e in_it lt = others q (λ here. let is : e ≡ c = one_element comps.of q e c in_it here in absurd (omega arith))

      callee : (i : ℕ) (k : Clause) → slice_get p.clauses i ≡ Some k → is_member comps d k.head.pred.0 ≡ true → (j : ℕ) (x : Atom) → slice_get k.body j ≡ Some x
          → slice_get new x.pred.0 ≡ slice_get sets x.pred.0
      callee i k at member j x there =
          let is = by_places (IsClause p.preds) p.clauses program.clauses i k at in
          let atom = by_places (IsAtom p.preds k.vars) k.body is.body j x there in
          let w = some_is (λ (y : Pred). y.arity ≡ length x.args) (slice_get p.preds x.pred.0) atom.arity in
          let lt = place_below p.preds x.pred.0 w.0 w.1 in
          let e = some_at comps.of x.pred.0 (omega (arith, are.each, lt)) in
          let calls : Calls p k.head.pred.0 x.pred.0 =
          any_at (λ (y : Clause). (y.head.pred.0 ≡ k.head.pred.0) × Any (λ (z : Atom). z.pred.0 ≡ x.pred.0) y.body) p.clauses i k at (refl, any_at (λ (z : Atom). z.pred.0 ≡ x.pred.0) k.body j x there refl) in
          let le = are.callees_first k.head.pred.0 x.pred.0 d e.0 (at_is (slice_get comps.of k.head.pred.0) d member) e.1 calls in
          same x.pred.0 e.0 e.1 (omega arith)

-- at the start there are no sets
none_of : (n q : ℕ) → items_of {A = Diagram} (replicate n []) q ≡ []
none_of zero q = refl
none_of (suc n) zero = refl
none_of (suc n) (suc q) = none_of n q

off : (b : Bool) → (IsTrue b → ⊥) → b ≡ false
off true h = absurd (h refl)
off false h = refl

module _ (preds : List Pred) (T : List Rows) (n : ℕ) (each : n ≡ length preds) where
  pub start_mappings : AreMappingSets preds T (replicate n [])
  start_mappings = record {
    each = length-replicate n [] ∙ each;
    known = λ q m d e. let f : None ≡ Some d = sym (ap (λ (ds : List Diagram). slice_get ds m) (none_of n q)) ∙ e in cc;
    reads = λ q m k d e a. let f : None ≡ Some d = sym (ap (λ (ds : List Diagram). slice_get ds m) (none_of n q)) ∙ e in cc;
  }

  pub start_unions : (d : Diagram) → IsDiagram T d → ((row : ℕ → Bool) → holds T d row ≡ false) → AreUnions preds T (replicate n []) (replicate n d)
  start_unions d known none = record {
    sets = start_sets preds T n d known none each;
    rows = λ i q row. nothing q row i;
  }
    where
      nothing : (q : ℕ) (row : List Bool) → family_of preds T (replicate n d) q row ≡ allowed_family preds T (replicate n []) q row
      nothing q row =
          off (family_of preds T (replicate n d) q row) (start_none preds T n d known none q row)
          ∙ sym (ap (λ (ds : List Diagram). list_any (λ (x : Diagram). all_upper (has_row (slice_get preds q) T (Some x)) row) ds) (none_of n q))

-- solutions while the table grows, and in the words of an earlier one
module _ (truth : (ℕ → Bool) → Tree → Bool) (p : Listing) (ranks : List ℕ) (rank : ℕ) (levels : List (List LevelPart)) (m : ℕ) (family : List Diagram) where
  pub solution_later : (T T2 : List Rows) → Keeps T T2 → (allowed grounds : Family) → IsSolution truth p ranks rank allowed grounds levels T m family → IsSolution truth p ranks rank allowed grounds levels T2 m family
  solution_later T T2 K allowed grounds s = record {
    sets = sets_later p.preds T T2 K family s.sets;
    greatest = subst (λ (f : Family). IsGreatestIn truth p (is_ranked ranks rank) allowed grounds (coefficients_of levels m) f) (sym (family_later p.preds T T2 K family s.sets.known)) s.greatest;
  }

  pub solution_first : (T T2 : List Rows) → Keeps T T2 → (allowed grounds : List Diagram) → AreSets p.preds T allowed → AreSets p.preds T grounds → (T3 : List Rows)
      → IsSolution truth p ranks rank (family_of p.preds T2 allowed) (family_of p.preds T2 grounds) levels T3 m family
      → IsSolution truth p ranks rank (family_of p.preds T allowed) (family_of p.preds T grounds) levels T3 m family
  solution_first T T2 K allowed grounds A G T3 s =
      let a = subst (λ (f : Family). IsSolution truth p ranks rank f (family_of p.preds T2 grounds) levels T3 m family) (family_later p.preds T T2 K allowed A.known) s in
      subst (λ (f : Family). IsSolution truth p ranks rank (family_of p.preds T allowed) f levels T3 m family) (family_later p.preds T T2 K grounds G.known) a

-- as many parts for each member as for one of them
pub counted : (p : Listing) (comps : Partition) (levels : List (List LevelPart)) → AreLevels p comps levels → (c a : ℕ) → IsIn comps c a → (own : List LevelPart) → slice_get levels a ≡ Some own
    → (q : ℕ) → IsIn comps c q → length (items_of levels q) ≡ length own
counted p comps levels L c a in_it own at q other = L.together c q a other in_it ∙ ap length (items_at levels a own at)

-- the members of a component
module _ (p : Listing) (comps : Partition) (are : AreComponents p comps) (c : ℕ) (members : List PredId) (at : slice_get comps.members c ≡ Some (map number_of members)) where
  pub member_in : (j : ℕ) (a : PredId) → slice_get members j ≡ Some a → IsIn comps c a.0
  member_in j a e = (are.members c (map number_of members) at a.0).0 (place_member members j a e)

  pub some_members : 0 < length members
  some_members = let some = (are.ascending c (map number_of members) at).1 in omega (arith, length-map members number_of)

  pub in_program : (q : ℕ) → IsIn comps c q → q < length p.preds
  in_program q in_it = let lt = place_below comps.of q c in_it in omega (arith, are.each)

  pub member_columns : (families : List (List Diagram)) (sets : List (List Diagram)) → ((j : ℕ) (a : PredId) → slice_get members j ≡ Some a → IsColumn families a.0 (items_of sets a.0))
      → (q : ℕ) → IsIn comps c q → IsColumn families q (items_of sets q)
  member_columns families sets own q in_it =
      let place = member_place members q ((are.members c (map number_of members) at q).1 in_it) in
      subst (λ (k : ℕ). IsColumn families k (items_of sets k)) (sym place.3) (own place.0 place.1 place.2)

  pub no_place : (q : ℕ) → (IsIn comps c q → ⊥) → (j : ℕ) (a : PredId) → slice_get members j ≡ Some a → q ≡ a.0 → ⊥
  no_place q not_in j a e same = not_in (subst (IsIn comps c) (sym same) (member_in j a e))

  -- they are the predicates of one rank
  pub members_ranked : (ranks : List ℕ) → ranks ≡ map (λ d. d + 1) comps.of → AreRanked p.preds ranks (c + 1) members
  members_ranked ranks is = record {
    within = λ j a e. in_program a.0 (member_in j a e);
    ranked = λ j a e. (λ i. ranked_is ranks comps c is i a.0) ∙ is_at_of (slice_get comps.of a.0) c (member_in j a e);
    all = λ q ranked. member_place members q ((are.members c (map number_of members) at q).1 (at_is (slice_get comps.of q) c (sym (λ i. ranked_is ranks comps c is i q) ∙ ranked)));
  }
