-- A component of which no note says that something was given up has its best modes.
use Rattle.std.proofs.Common.{◌≡◌, ℕ, ◌<◌, ◌≤◌, ℤ, Bool, true, false, IsTrue, if◌then◌else◌, List, [], ◌∷◌, ◌⊎◌, inl, inr, length, map, nat_lt, slice_get, Some, Option, refl, ap, sym, subst, ◌∙◌, arith}
use Rattle.std.specs.List.{AllByRecursion}
use Rattle.std.proofs.lemmas.Bool.Decides.{nat_tests}
use Rattle.call_components.specs.Partition.{AreComponents, IsIn, Partition}
use Rattle.cert_checker.proofs.ShapeLaws.{have_levels, items_are, one_of}
use Rattle.cert_checker.specs.Norms.{norm_in}
use Rattle.cert_structure.specs.Order.{fall_facts, ground_facts, head_facts, level_facts, listed, mode_facts, pre_facts, pred_text, proof_facts, refuted_facts, size_facts}
use Rattle.cert_structure.specs.Shape.{first_of, HaveShape, is_recursive, items_of}
use Rattle.cert_structure.specs.declared.parts.Parts.{Parts}
use Rattle.certificate.specs.declared.fact.Fact.{Fact}
use Rattle.certificate.specs.declared.fact.Fact.TheVariants as fact
use Rattle.cti_terms.specs.Listing.{IsProgram, Listing}
use Rattle.cti_terms.specs.Tree.{Tree}
use Rattle.cti_terms.specs.declared.predicates.Pred.{Pred}
use Rattle.level_systems.specs.Subsequences.{IsSubsequence}
use Rattle.linear_rows.proofs.Members.{in-flat_map, in-left, in-map, in-right}
use Rattle.linear_rows.specs.Members.{In}
use Rattle.linear_rows.specs.Step.{columns}
use Rattle.precond_fixpoint.specs.Greatest.{Solved}
use Rattle.term_size.specs.AnyNorm.{any_row, any_truth}
use Rattle.term_size.specs.declared.any_norm.AnyNorm.{AnyNorm}
use Rattle.termination_model.proofs.Points.{in_columns}
use Rattle.termination_model.specs.mappings.ComponentViews.{members_in, positions_in}
use Rattle.termination_model.specs.grounds.Modes.{chosen_up_to, modes}
use Rattle.report.specs.Exact.{IsExact}
use Rattle.report.specs.ExactMappings.{HaveEachSupport, IsSolvedMapping, MappingsAreExact, printed_support}
use Rattle.cert_assembly.specs.ExactModes.{admitted_by, AreCounted}
use Rattle.report.specs.SupportNotes.{arguments_by_member, blown_at, blown_note, blown_notes, large_at, large_notes, support_notes}
use Rattle.cert_assembly.specs.Leading.{led_by}
use Rattle.report.specs.Unnoted.{IsUnnoted, UnnotedAreBest}
use Rattle.report.proofs.BestLaws.{best_modes_are_printed}
use Rattle.cert_assembly.proofs.ModeLaws.{item_is, place_below, there}
use Rattle.cert_assembly.proofs.PartShapes.{leads}
use Rattle.cert_assembly.proofs.SetParts.{below_or, listed_past}

-- ---- how many lists parts have
module _ (p : Listing) (comps : Partition) (parts : Parts) (components : AreComponents p comps) (have : HaveShape p comps parts) where
  pub levels_together : (c a b : ℕ) → IsIn comps c a → IsIn comps c b → length (items_of parts.levels a) ≡ length (items_of parts.levels b)
  levels_together c a b ia ib = ap length (items_are parts.levels a) ∙ (have_levels p comps parts have components).members a b (ia ∙ sym ib) ∙ sym (ap length (items_are parts.levels b))

  mapping_counts : (q : ℕ) → length (items_of parts.preconditions q) ≡ length (items_of parts.levels q)
  mapping_counts q = elim (below_or q (length p.preds)) [
    | inl less ↦
        let count = have.preconditions.count in
        let own = there parts.preconditions q (omega arith) in
        ap length (item_is parts.preconditions q own.0 own.1) ∙ (one_of parts.preconditions have.preconditions q own.0 own.1).count
    | inr le ↦
        let sets = have.preconditions.count in
        let levels = have.levels.count in
        ap length (listed_past parts.preconditions q (omega arith)) ∙ sym (ap length (listed_past parts.levels q (omega arith)))
  ]

  pub shape_counted : AreCounted p comps parts
  shape_counted = record {
    modes = have.modes.count;
    grounds = have.grounds.count;
    preconditions = have.preconditions.count;
    together = λ c a b ia ib. mapping_counts a ∙ levels_together c a b ia ib ∙ sym (mapping_counts b);
    mappings = mapping_counts;
  }

-- ---- notes among facts
in_chosen : {X : Type 0} (b : Bool) (x : X) → b ≡ true → In x (if b then x ∷ [] else [])
in_chosen true x e = inl refl
in_chosen false x e = cc

is_more : (m n : ℕ) → m < n → nat_lt m n ≡ true
is_more m n h = grind (arith, nat_tests)

few_or : (m n : ℕ) → (n ≤ m) ⊎ (m < n)
few_or m n = grind arith

in_listed : (p : Listing) (names : List (List ℕ)) (parts : Parts) (notes : List Fact) (f : Fact) → In f notes → In f (listed p names parts notes)
in_listed p names parts notes f i =
    in-right (head_facts parts.norm) _ f
    (in-right (mode_facts p names parts.modes) _ f
    (in-right (size_facts p names parts.rows) _ f
    (in-right (proof_facts parts.row_proofs) _ f
    (in-right (ground_facts p names parts.grounds) _ f
    (in-right (level_facts p names parts.levels) _ f
    (in-right (fall_facts parts.falls) _ f
    (in-right (pre_facts p names parts.preconditions) _ f
    (in-right (refuted_facts p names parts.refutations) notes f i))))))))

module _ (p : Listing) (names : List (List ℕ)) (comps : Partition) (blown : ℕ → List (List ℕ)) (c q : ℕ) (less : q < length p.preds) (lead : led_by comps q ≡ Some c) where
  here : In q (columns 0 (length p.preds))
  here = in_columns (length p.preds) 0 q (omega arith) (omega arith)

  support_noted : (s : List ℕ) → In s (blown c) → In (blown_note p names comps c q s) (support_notes p names comps blown)
  support_noted s i =
      in-left (blown_notes p names comps blown) (large_notes p names comps) (blown_note p names comps c q s)
      (in-flat_map (λ k. blown_at p names comps blown k (led_by comps k)) (columns 0 (length p.preds)) q (blown_note p names comps c q s) here
      (subst (λ (o : Option ℕ). In (blown_note p names comps c q s) (blown_at p names comps blown q o)) (sym lead) (in-map (blown_note p names comps c q) (blown c) s i)))

  size_noted : 12 < length (positions_in p comps c) → In (fact.Large (pred_text p names q) (length (positions_in p comps c))) (support_notes p names comps blown)
  size_noted more =
      let note = fact.Large (pred_text p names q) (length (positions_in p comps c)) in
      in-right (blown_notes p names comps blown) (large_notes p names comps) note
      (in-flat_map (λ k. large_at p names comps k (led_by comps k)) (columns 0 (length p.preds)) q note here
      (subst (λ (o : Option ℕ). In note (large_at p names comps q o)) (sym lead) (in_chosen (nat_lt 12 (length (positions_in p comps c))) note (is_more 12 (length (positions_in p comps c)) more))))

-- ---- a member has as many mappings as the first one
module _ (expression : ℕ → Tree → List ℤ) (p : Listing) (comps : Partition) (parts : Parts) where
  of_member : (c q r : ℕ) → length (items_of parts.levels q) ≡ length (items_of parts.levels r) → MappingsAreExact expression p comps parts c q [] → MappingsAreExact expression p comps parts c r []
  of_member c q r same is = record {
    at = λ m few. is.at m (fewer m few);
    decreases = λ m few. is.decreases m (fewer m few);
    minimal = λ m few. is.minimal m (fewer m few);
    within = λ s has. elim (is.within s has) [
      | inl (m, few, part) ↦ inl (m, subst (λ (n : ℕ). m < n) same few, part)
      | inr above ↦ inr above
    ];
    order = subst (λ (n : ℕ). IsSubsequence (map (printed_support expression p comps parts c) (columns 0 n)) (chosen_up_to (length (positions_in p comps c)) (length (positions_in p comps c)))) same is.order;
  }
    where
      fewer : (m : ℕ) → m < length (items_of parts.levels r) → m < length (items_of parts.levels q)
      fewer m few = subst (λ (n : ℕ). m < n) (sym same) few

module _ (p : Listing) (names : List (List ℕ)) (facts : List Fact) (program : IsProgram p) (exact : IsExact p names facts) (c q : ℕ) (inside : IsIn exact.comps c q) (recursive : IsTrue (is_recursive exact.comps q))
    (first : first_of exact.comps q ≡ q) (unnoted : IsUnnoted p names q facts) where
  abbrev norm : AnyNorm
  norm = norm_in names exact.parts.norm

  less : q < length p.preds
  less = let each = exact.components.each in let there = place_below exact.comps.of q c inside in omega arith

  among : (f : Fact) → In f (support_notes p names exact.comps exact.exact.blown) → In f facts
  among f i =
      subst (In f) (sym exact.structured.is)
      (in_listed p names exact.parts exact.structured.notes f
      (subst (In f) (sym exact.exact.are) (in-right exact.exact.steps (support_notes p names exact.comps exact.exact.blown) f i)))

  lead : led_by exact.comps q ≡ Some c
  lead = leads exact.comps q c recursive first inside

  none_blown : (ss : List (List ℕ)) → exact.exact.blown c ≡ ss → ss ≡ []
  none_blown [] e = refl
  none_blown (s ∷ ss) e =
      absurd (unnoted.blown (arguments_by_member p s 1 (members_in exact.comps c)) (among _ (support_noted p names exact.comps exact.exact.blown c q less lead s (subst (In s) (sym e) (inl refl)))))

  few : length (positions_in p exact.comps c) ≤ 12
  few = elim (few_or 12 (length (positions_in p exact.comps c))) [
    | inl le ↦ le
    | inr more ↦ absurd (unnoted.large (length (positions_in p exact.comps c)) (among _ (size_noted p names exact.comps exact.exact.blown c q less lead more)))
  ]

  mappings : MappingsAreExact (any_row norm) p exact.comps exact.parts c q []
  mappings = subst (MappingsAreExact (any_row norm) p exact.comps exact.parts c q) (none_blown (exact.exact.blown c) refl) ((exact.exact.components c q inside recursive first).small few)

  best : (r : ℕ) (d : Pred) → IsIn exact.comps c r → slice_get p.preds r ≡ Some d
      → (ns : List Solved) → AllByRecursion (IsSolvedMapping (any_row norm) p exact.comps exact.parts (any_truth norm) c) ns → HaveEachSupport (any_row norm) p exact.comps exact.parts (any_truth norm) c ns
      → items_of exact.parts.modes r ≡ modes d.arity (admitted_by ns r)
  best r d ir at ns all each =
      let counts = levels_together p exact.comps exact.parts exact.components exact.structured.shape c q r inside ir in
      best_modes_are_printed (any_truth norm) (any_row norm) p exact.comps exact.parts program exact.components
      (shape_counted p exact.comps exact.parts exact.components exact.structured.shape) exact.exact.modes c r d ir at
      (of_member (any_row norm) p exact.comps exact.parts c q r counts mappings) ns all each

pub unnoted_are_best : UnnotedAreBest
unnoted_are_best p names facts program exact c q inside recursive first unnoted = best p names facts program exact c q inside recursive first unnoted
