-- What is tested of the sets is what holding modes are.
use Rattle.std.proofs.Common.{◌≡◌, ◌↔◌, inl, inr, ℕ, zero, suc, ◌<◌, ◌==◌, Bool, true, ◌&&◌, IsTrue, List, [], length, pos, slice_get, slice_index_or, Option, None, Some, unwrap_or, refl, ap, sym, subst, ◌∙◌, arith, eqb-true}
use Rattle.std.specs.List.{AllByRecursion, list_all}
use Rattle.std.proofs.lemmas.Bool.{and_parts, cases_lt, eq-eqb}
use Rattle.termination_model.proofs.Lists.{by_places, from_places, place_below, there}
use Rattle.truth_rows.proofs.RowLaws.{both}
use Rattle.truth_rows.proofs.SetLaws.{none}
use Rattle.truth_rows.specs.Rules.{KeepsSets, same_rank}
use Rattle.truth_rows.specs.Sets.{family_of, has_row}
use Rattle.bool_diagrams.proofs.CallerLemmas.{holds_later}
use Rattle.bool_diagrams.specs.Cubes.{truth_rows, values_of}
use Rattle.bool_diagrams.specs.Rows.{Keeps}
use Rattle.bool_diagrams.specs.Tree.{Tree as Rows}
use Rattle.bool_diagrams.specs.declared.diagram.Diagram.{Diagram}
use Rattle.call_components.specs.Partition.{AreComponents, Partition}
use Rattle.cert_structure.specs.Numbered.{AreEach}
use Rattle.cert_structure.specs.Shape.{HasWidth, arity_in, is_same, is_together, items_of}
use Rattle.cert_modes.specs.Shaped.{HaveSets, IsWide}
use Rattle.cert_structure.specs.declared.parts.Parts.{Parts}
use Rattle.cti_terms.specs.Listing.{IsAtom, IsClause, IsProgram, Listing}
use Rattle.cti_terms.specs.Tree.{Tree}
use Rattle.cti_terms.specs.declared.atom_list.Atom.{Atom}
use Rattle.cti_terms.specs.declared.clauses.Clause.{Clause}
use Rattle.cti_terms.specs.declared.predicates.Pred.{Pred}
use Rattle.termination_model.specs.claims.Descent.{mode_row}
use Rattle.termination_model.specs.grounds.Grounds.{Family}
use Rattle.termination_model.specs.sizes.Rows.{Covers}
use Rattle.cert_modes.specs.Failing.{Admits, Closes, ClosesIn, KeepsRule, OfPred}
use Rattle.cert_modes.specs.Modes.{allowed, coefficients_of, grounds_of, naturals, precondition}
use Rattle.cert_modes.specs.Sets.{AreCovered, AreReady, HaveLevels, KeepsEach, SpellParts, mapping_family}
use Rattle.cert_modes.specs.declared.sets.Sets.{Sets}
use Rattle.cert_modes.proofs.CoverLaws.{covered_later}
use Rattle.cert_modes.proofs.PlaceLaws.{all_test, each_at, items_at, nothing_at}
use Rattle.cert_modes.proofs.RuleLaws.{atom_below, each_later, keeps_agree}
use Rattle.cert_modes.proofs.SpellLaws.{arity_at, arity_few}

-- a row of a mapping's set
mapping_in : (o : Option Pred) (T : List Rows) (b : Option Diagram) (row : List Bool) → has_row o T b row ≡ true
    → (x : Pred) × (d : Diagram) × (o ≡ Some x) × (b ≡ Some d) × (x.arity ≡ length row) × IsTrue (truth_rows T d row)
mapping_in None T b row h = cc
mapping_in (Some x) T None row h = cc
mapping_in (Some x) T (Some d) row h = let a = and_parts (x.arity == length row) (truth_rows T d row) h in (x, d, refl, refl, eqb-true x.arity (length row) a.0, a.1)

mode_length : (mode : List ℕ) (i n : ℕ) → length (mode_row mode i n) ≡ n
mode_length mode i zero = refl
mode_length mode i (suc n) = ap suc (mode_length mode (suc i) n)

-- in one component, by the numbers of components
pub together_is : (comps : Partition) (q r : ℕ) → q < length comps.of → r < length comps.of → same_rank comps.of q r ≡ is_together comps q r
together_is comps q r lt less = sym ((λ i. is_same (there comps.of q 0 lt i) (slice_get comps.of r)) ∙ (λ i. is_same (Some (slice_index_or comps.of q 0)) (there comps.of r 0 less i)))

module _ (truth : (ℕ → Bool) → Tree → Bool) (p : Listing) (program : IsProgram p) (comps : Partition) (components : AreComponents p comps) (parts : Parts) (shape : HaveSets p parts)
    (T : List Rows) (sets : Sets) (R : AreReady p T sets) (S : SpellParts p parts T sets) where
  -- the mappings of a predicate
  pub levels_of : (q : ℕ) → q < length p.preds → HaveLevels T (arity_in p q) (items_of parts.levels q) (items_of sets.preconditions q)
  levels_of q lt =
      let at = there p.preds q (record { name = record { 0 = 0 }; arity = 0 }) lt in
      let few = arity_few p program q _ at in
      let wide = arity_at p q _ at in
      let l = there parts.levels q [] (omega (arith, lt, shape.levels.count)) in
      let own = each_at (length p.preds) (λ a. AllByRecursion (IsWide (arity_in p a))) parts.levels shape.levels q _ l in
      let c = there parts.preconditions q [] (omega (arith, lt, shape.preconditions.count)) in
      let cubes = each_at (length p.preds) (λ a. AreEach (length (items_of parts.levels a)) (λ _. AllByRecursion (HasWidth (arity_in p a)))) parts.preconditions shape.preconditions q _ c in
      record {
        few = omega (arith, few, wide);
        each = S.each q ∙ ap length (items_at parts.preconditions q _ c) ∙ cubes.count;
        wide = λ m level e. by_places (IsWide (arity_in p q)) (slice_index_or parts.levels q []) own m level (ap (λ ls. slice_get ls m) (sym (items_at parts.levels q _ l)) ∙ e);
        known = R.preconditions.known q;
        reads = R.preconditions.reads q;
      }

  -- the ground rows of a predicate
  pub closed_at : (q : ℕ) → ClosesIn truth p (family_of p.preds T sets.grounds.items) q ↔ Closes truth p comps parts q
  closed_at q = (λ h. subst (λ (f : Family). ClosesIn truth p f q) S.grounds h, λ h. subst (λ (f : Family). ClosesIn truth p f q) (sym S.grounds) h)

  -- rows that are covered
  pub covered_at : (T2 : List Rows) → Keeps T T2 → (q : ℕ)
      → (q < length p.preds → AreCovered T2 (items_of parts.levels q) (items_of sets.preconditions q))
      ↔ ((m : ℕ) (row : List Bool) → IsTrue (precondition p parts m q row) → Covers (coefficients_of parts.levels m q) row)
  covered_at T2 K q = (forth, back)
    where
      forth : (q < length p.preds → AreCovered T2 (items_of parts.levels q) (items_of sets.preconditions q))
          → (m : ℕ) (row : List Bool) → IsTrue (precondition p parts m q row) → Covers (coefficients_of parts.levels m q) row
      forth h m row t =
          let w = mapping_in (slice_get p.preds q) T (slice_get (items_of sets.preconditions q) m) row ((λ i. S.preconditions m i q row) ∙ t) in
          let lt = place_below p.preds q w.0 w.2 in
          let have = levels_of q lt in
          let at = there (items_of parts.levels q) m (record { coeffs = []; offset = pos 0 }) (omega (arith, place_below (items_of sets.preconditions q) m w.1 w.3, have.each)) in
          let level = slice_index_or (items_of parts.levels q) m (record { coeffs = []; offset = pos 0 }) in
          let covered = (covered_later T T2 K (items_of parts.levels q) (items_of sets.preconditions q) have.known).0 (h lt) in
          subst (λ cs. Covers cs row) (sym (ap naturals at)) (covered m level w.1 at w.3 row (sym w.4 ∙ sym (arity_at p q w.0 w.2) ∙ sym (have.wide m level at)) w.5)

      back : ((m : ℕ) (row : List Bool) → IsTrue (precondition p parts m q row) → Covers (coefficients_of parts.levels m q) row)
          → q < length p.preds → AreCovered T2 (items_of parts.levels q) (items_of sets.preconditions q)
      back h lt =
          let have = levels_of q lt in
          (covered_later T T2 K (items_of parts.levels q) (items_of sets.preconditions q) have.known).1 (λ m level d e f row long t.
          let x = slice_index_or p.preds q (record { name = record { 0 = 0 }; arity = 0 }) in
          let at : slice_get p.preds q ≡ Some x = there p.preds q (record { name = record { 0 = 0 }; arity = 0 }) lt in
          let wide : x.arity ≡ length row = sym (arity_at p q x at) ∙ sym (have.wide m level e) ∙ sym long in
          let there_row : has_row (slice_get p.preds q) T (slice_get (items_of sets.preconditions q) m) row ≡ true = (λ i. has_row (at i) T (f i) row) ∙ both (x.arity == length row) (truth_rows T d row) (eq-eqb x.arity (length row) wide) t in
          subst (λ cs. Covers cs row) (ap naturals e) (h m row ((λ i. sym (S.preconditions m) i q row) ∙ there_row)))

  -- the rule of one clause
  rule_of : (k : Clause) → IsClause p.preds k
      → KeepsEach truth p T comps.of sets k ↔ ((m : ℕ) → KeepsRule truth p comps parts m k)
  rule_of k c = (
    λ h m. keeps_agree truth k (precondition p parts m) (precondition p parts m) (allowed p parts) (grounds_of p parts) ranked together (λ row. refl) (λ j b at row. refl) same
        (subst (λ (f : Family). KeepsSets truth f (allowed p parts) (grounds_of p parts) ranked k) (S.preconditions m)
        (subst (λ (f : Family). KeepsSets truth (mapping_family p.preds T sets.preconditions m) f (grounds_of p parts) ranked k) S.allowed
        (subst (λ (f : Family). KeepsSets truth (mapping_family p.preds T sets.preconditions m) (family_of p.preds T sets.allowed.items) f ranked k) S.grounds (h m)))),
    λ h m.
        subst (λ (f : Family). KeepsSets truth (mapping_family p.preds T sets.preconditions m) (family_of p.preds T sets.allowed.items) f ranked k) (sym S.grounds)
        (subst (λ (f : Family). KeepsSets truth (mapping_family p.preds T sets.preconditions m) f (grounds_of p parts) ranked k) (sym S.allowed)
        (subst (λ (f : Family). KeepsSets truth f (allowed p parts) (grounds_of p parts) ranked k) (sym (S.preconditions m))
        (keeps_agree truth k (precondition p parts m) (precondition p parts m) (allowed p parts) (grounds_of p parts) together ranked (λ row. refl) (λ j b at row. refl) (λ j b at. sym (same j b at)) (h m)))),
  )
    where
      ranked : ℕ → Bool
      ranked = λ q. same_rank comps.of q k.head.pred.0

      together : ℕ → Bool
      together = λ q. is_together comps q k.head.pred.0

      same : (j : ℕ) (b : Atom) → slice_get k.body j ≡ Some b → ranked b.pred.0 ≡ together b.pred.0
      same j b at =
          let lt = atom_below p.preds k.vars b (by_places (IsAtom p.preds k.vars) k.body c.body j b at) in
          let less = atom_below p.preds k.vars k.head c.head in
          together_is comps b.pred.0 k.head.pred.0 (omega (arith, lt, components.each)) (omega (arith, less, components.each))

  pub rule_at : (T2 : List Rows) → Keeps T T2 → (ranks : List ℕ) → ranks ≡ comps.of → (q : ℕ)
      → OfPred p q (KeepsEach truth p T2 ranks sets) ↔ ((m : ℕ) → OfPred p q (KeepsRule truth p comps parts m))
  rule_at T2 K ranks numbers q = (
    λ h m j k e same. (rule_of k (sound j k e)).0 (subst (λ (rs : List ℕ). KeepsEach truth p T rs sets k) numbers ((each_later truth p T T2 K sets R ranks k).0 (h j k e same))) m,
    λ h j k e same.
        (each_later truth p T T2 K sets R ranks k).1 (subst (λ (rs : List ℕ). KeepsEach truth p T rs sets k) (sym numbers) ((rule_of k (sound j k e)).1 (λ m. h m j k e same))),
  )
    where
      sound : (j : ℕ) (k : Clause) → slice_get p.clauses j ≡ Some k → IsClause p.preds k
      sound j k e = by_places (IsClause p.preds) p.clauses program.clauses j k e

  -- modes that are admitted
  pub modes_at : (T2 : List Rows) → Keeps T T2 → (q : ℕ)
      → ((d : Diagram) → slice_get sets.allowed.items q ≡ Some d → IsTrue (list_all (λ mode. truth_rows T2 d (mode_row mode 1 (arity_in p q))) (items_of parts.modes q)))
      ↔ Admits truth p comps parts q
  modes_at T2 K q = (forth, back)
    where
      -- the set of a predicate, and what is allowed
      same : (d : Diagram) → slice_get sets.allowed.items q ≡ Some d → (mode : List ℕ) → truth_rows T2 d (mode_row mode 1 (arity_in p q)) ≡ allowed p parts q (mode_row mode 1 (arity_in p q))
      same d f mode =
          let row = mode_row mode 1 (arity_in p q) in
          let lt : q < length p.preds = omega (arith, place_below sets.allowed.items q d f, R.allowed.each) in
          let x = slice_index_or p.preds q (record { name = record { 0 = 0 }; arity = 0 }) in
          let at : slice_get p.preds q ≡ Some x = there p.preds q (record { name = record { 0 = 0 }; arity = 0 }) lt in
          let wide : x.arity ≡ length (mode_row mode 1 (arity_in p q)) = sym (arity_at p q x at) ∙ sym (mode_length mode 1 (arity_in p q)) in
          holds_later T T2 d K (R.allowed.known q d f) (values_of row)
          ∙ sym ((λ i. has_row (at i) T (f i) row) ∙ (λ i. eq-eqb x.arity (length row) wide i && truth_rows T d row))
          ∙ (λ i. S.allowed i q row)

      forth : ((d : Diagram) → slice_get sets.allowed.items q ≡ Some d → IsTrue (list_all (λ mode. truth_rows T2 d (mode_row mode 1 (arity_in p q))) (items_of parts.modes q)))
          → Admits truth p comps parts q
      forth h = elim (cases_lt q (length p.preds)) [
        | inl lt ↦
            let f = there sets.allowed.items q none (omega (arith, lt, R.allowed.each)) in
            let all = (all_test (λ mode. truth_rows T2 (slice_index_or sets.allowed.items q none) (mode_row mode 1 (arity_in p q))) (items_of parts.modes q)).0 (h _ f) in
            from_places (λ mode. IsTrue (allowed p parts q (mode_row mode 1 (arity_in p q)))) (items_of parts.modes q) (λ j mode e.
            sym (same _ f mode) ∙ by_places (λ mode. IsTrue (truth_rows T2 (slice_index_or sets.allowed.items q none) (mode_row mode 1 (arity_in p q)))) (items_of parts.modes q) all j mode e)
        | inr ge ↦
            let e = nothing_at parts.modes q (λ lt. omega (arith, lt, ge, shape.modes)) in
            let empty : items_of parts.modes q ≡ [] = ap (λ o. unwrap_or o []) e in
            subst (AllByRecursion (λ mode. IsTrue (allowed p parts q (mode_row mode 1 (arity_in p q))))) (sym empty) tt
      ]

      back : Admits truth p comps parts q
          → (d : Diagram) → slice_get sets.allowed.items q ≡ Some d → IsTrue (list_all (λ mode. truth_rows T2 d (mode_row mode 1 (arity_in p q))) (items_of parts.modes q))
      back h d f = (all_test (λ mode. truth_rows T2 d (mode_row mode 1 (arity_in p q))) (items_of parts.modes q)).1
          (from_places (λ mode. IsTrue (truth_rows T2 d (mode_row mode 1 (arity_in p q)))) (items_of parts.modes q) (λ j mode e.
          same d f mode ∙ by_places (λ mode. IsTrue (allowed p parts q (mode_row mode 1 (arity_in p q)))) (items_of parts.modes q) h j mode e))
