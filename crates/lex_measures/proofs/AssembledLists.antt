-- The parts of a certificate of lists that the engines give are valid and exact, with their notes.
use Rattle.std.proofs.Common.{◌≡◌, ◌++◌, ℕ, true, List, [], ◌∷◌, All, length, map, take, slice_get, Some, None, Option, refl, ap, sym, subst, ◌∙◌}
use Rattle.std.specs.Prelude.{IfSome}
use Rattle.std.specs.List.{AllByRecursion, flat_map}
use Rattle.std.proofs.lemmas.List.{length-map}
use Rattle.call_components.specs.Partition.{AreComponents, Partition}
use Rattle.cert_assembly.proofs.ChainParts.{chain_sizes_hold}
use Rattle.cert_assembly.proofs.ModeLaws.{exact_modes_hold}
use Rattle.cert_assembly.proofs.SetParts.{modes_are_exact, parts_are_counted}
use Rattle.cert_assembly.specs.ChainNotes.{chain_notes}
use Rattle.cert_assembly.specs.ExactModes.{AreCounted, HoldWithShape, ModesAreExact}
use Rattle.cert_assembly.specs.Leading.{led_by}
use Rattle.cert_assembly.specs.Ranges.{AreMultipliersBelow, IsPartBelow, IsRefutationBelow}
use Rattle.cert_assembly.specs.Sizing.{SizesHold}
use Rattle.cert_checker.specs.Proved.{IsZero}
use Rattle.cert_structure.specs.Numbered as old
use Rattle.cert_structure.specs.Shape as shape
use Rattle.cert_structure.specs.Shape.{arity_in, body_of, head_of, items_of, rows_of_atoms}
use Rattle.certificate.specs.declared.fact.Fact.{Fact}
use Rattle.certificate.specs.declared.fact.Fact.TheVariants as fact
use Rattle.cti_terms.specs.Listing.{IsProgram, Listing}
use Rattle.cti_terms.specs.Tree.{truth}
use Rattle.exact128.specs.Fits.{fits}
use Rattle.fact_reading.specs.Numbered.{AreEach}
use Rattle.lex_certificate.specs.Flat.{flat, union_part}
use Rattle.lex_certificate.specs.Shape.{AreLists, ArePlaces, HaveShape, IsStuckSet, lengths_of, lists_of_call}
use Rattle.lex_certificate.specs.Structure.{AreNotes}
use Rattle.lex_certificate.specs.declared.fact.LexFact.{LexFact}
use Rattle.lex_certificate.specs.declared.parts.LexParts.{LexParts}
use Rattle.lex_checker.specs.Proved.{MeasuresDrop}
use Rattle.lex_checker.specs.Valid.{PartsHold}
use Rattle.lex_turns.specs.declared.found_lists.FoundLists.{FoundLists}
use Rattle.linear_rows.specs.Blown.{all_of}
use Rattle.linear_rows.specs.Replacing.{row_fits}
use Rattle.linear_rows.specs.Step.{columns}
use Rattle.linear_rows.specs.declared.multipliers.Multipliers.{Multipliers}
use Rattle.linear_rows.specs.declared.row.Rows.{Rows}
use Rattle.number_tests.specs.Shape.{list_at}
use Rattle.number_tests.specs.declared.level_part.LevelPart.{LevelPart}
use Rattle.number_tests.specs.declared.refutation.Refutation.{Refutation}
use Rattle.numeric_model.specs.Proved.{AreProved}
use Rattle.numeric_model.specs.States.{plain_step}
use Rattle.numeric_model.specs.declared.step.Step.{Step}
use Rattle.term_size.specs.Occurrences.{size_row}
use Rattle.termination_model.proofs.ChainKeeping.{chains_state}
use Rattle.termination_model.specs.chains.Chain.{IsLegalChain}
use Rattle.termination_model.specs.sizes.Sizes.{AreSizes, rows_of}
use Rattle.termination_model.specs.sizes.ShortSystems.{short_system}
use Rattle.termination_model.specs.declared.sizes.Sizes.{Sizes}
use Rattle.lex_measures.proofs.DropShapes.{drops_are_shown, drops_shape}
use Rattle.lex_measures.proofs.FoundExact.{component_is_exact}
use Rattle.lex_measures.proofs.ListParts.{lists_shape, lists_zero, union_items}
use Rattle.lex_measures.proofs.PlaceParts.{same_each, weaker_each}
use Rattle.lex_measures.proofs.StuckParts.{stuck_refutes, stuck_shape}
use Rattle.lex_measures.specs.Assembly.{AreBounded, AreFound, ArePartsOf, IsAssembled}
use Rattle.lex_measures.specs.Exact.{component_notes, note_at, note_if, noted}
use Rattle.lex_measures.specs.Lists.{found_of, printed_lists}

-- ---- notes
notes_append : (xs ys : List LexFact) → AreNotes xs → AreNotes ys → AreNotes (xs ++ ys)
notes_append [] ys h k = k
notes_append (x ∷ xs) ys h k = (h.0, notes_append xs ys h.1 k)

flat_notes : {X : Type 0} (f : X → List LexFact) → ((x : X) → AreNotes (f x)) → (xs : List X) → AreNotes (flat_map f xs)
flat_notes f h [] = tt
flat_notes f h (x ∷ xs) = notes_append (f x) (flat_map f xs) (h x) (flat_notes f h xs)

noted_is : (f : Fact) → AreNotes (noted f)
noted_is (fact.Image step clause pred rows) = (refl, tt)
noted_is (fact.Step step pred how rows) = (refl, tt)
noted_is (fact.WeakImage step) = (refl, tt)
noted_is (fact.WeakStep step) = (refl, tt)
noted_is _ = tt

module _ (p : Listing) (names : List (List ℕ)) (found : ℕ → FoundLists) where
  note_is : (q : ℕ) (blown : List (List ℕ)) → AreNotes (note_if p names q blown)
  note_is q [] = tt
  note_is q (s ∷ blown) = (refl, tt)

  note_at_is : (q : ℕ) (o : Option ℕ) → AreNotes (note_at p names found q o)
  note_at_is q None = tt
  note_at_is q (Some c) = note_is q (found c).blown

-- ---- all together
module _ (p : Listing) (names : List (List ℕ)) (comps : Partition) (sizes : Sizes) (found : List FoundLists) (parts : LexParts) (notes : List LexFact) (steps : List Step)
    (program : IsProgram p) (components : AreComponents p comps)
    (legal : IsLegalChain (all_of fits) size_row p comps (map plain_step steps) (rows_of sizes.rows))
    (are_sizes : AreSizes p.preds sizes.rows) (proved : AreProved size_row (rows_of sizes.rows) p.clauses sizes.proofs)
    (fit : (q : ℕ) → All (λ r. row_fits r ≡ true) (rows_of sizes.rows q))
    (founds : AreFound size_row p comps sizes.rows found) (are : ArePartsOf truth p comps sizes found parts) (bounded : AreBounded parts)
    (is_noted : notes ≡ flat_map noted (chain_notes p names (map plain_step steps)) ++ component_notes p names comps (found_of found)) where
  founds_here : AreFound size_row p comps parts.rows found
  founds_here = subst (λ (rows : List Rows). AreFound size_row p comps rows found) (sym are.rows) founds

  sizes_hold : SizesHold size_row p parts.rows parts.row_proofs
  sizes_hold =
      subst (λ (rows : List Rows). SizesHold size_row p rows parts.row_proofs) (sym are.rows)
      (subst (λ (proofs : List (List Multipliers)). SizesHold size_row p sizes.rows proofs) (sym are.row_proofs)
      (chain_sizes_hold size_row p sizes.rows sizes.proofs are_sizes fit proved (subst (AllByRecursion (AllByRecursion AreMultipliersBelow)) are.row_proofs bounded.row_proofs)
      (λ q b e. chains_state (all_of fits) size_row p comps (map plain_step steps) (rows_of sizes.rows) program legal q b e)))

  exact : ModesAreExact truth p comps (flat parts)
  exact = let s = are.sets in modes_are_exact truth p comps (flat parts) (map (map union_part) parts.lists) s.first s.last s.grounds s.sets s.lists components s.solved s.spelled

  counted : AreCounted p comps (flat parts)
  counted = let s = are.sets in parts_are_counted truth p comps (flat parts) (map (map union_part) parts.lists) s.first s.last s.grounds s.sets s.lists components s.solved s.spelled

  modes_hold : HoldWithShape truth p comps (flat parts)
  modes_hold = exact_modes_hold truth p comps (flat parts) program components counted exact

  union_count : (a : ℕ) → length (items_of (map (map union_part) parts.lists) a) ≡ length (items_of parts.lists a)
  union_count a = ap length (union_items parts.lists a) ∙ length-map (items_of parts.lists a) union_part

  lists_are : AreEach (length p.preds) (λ a. AreLists (arity_in p a) (lengths_of comps parts.lists a)) parts.lists
  lists_are =
      subst (λ (ls : List (List (List LevelPart))). AreEach (length p.preds) (λ a. AreLists (arity_in p a) (lengths_of comps ls a)) ls) (sym are.lists)
      (lists_shape size_row p comps parts.rows found program components founds_here (subst (AllByRecursion (AllByRecursion (AllByRecursion IsPartBelow))) are.lists bounded.lists))

  drops_are : AreEach (length p.clauses) (λ k. AreEach (length (body_of p k)) (λ j. ArePlaces (rows_of_atoms parts.rows (take j (body_of p k))) (lists_of_call comps parts.lists (head_of p k) (slice_get (body_of p k) j)))) parts.drops
  drops_are =
      subst (λ (ls : List (List (List LevelPart))).
      AreEach (length p.clauses) (λ k. AreEach (length (body_of p k)) (λ j. ArePlaces (rows_of_atoms parts.rows (take j (body_of p k))) (lists_of_call comps ls (head_of p k) (slice_get (body_of p k) j)))) parts.drops) (sym are.lists)
      (subst (λ (ds : List (List (List (List Multipliers)))).
      AreEach (length p.clauses) (λ k. AreEach (length (body_of p k)) (λ j. ArePlaces (rows_of_atoms parts.rows (take j (body_of p k))) (lists_of_call comps (printed_lists p comps found) (head_of p k) (slice_get (body_of p k) j)))) ds) (sym are.drops)
      (drops_shape size_row p comps parts.rows found program components founds_here (subst (AllByRecursion (AllByRecursion (AllByRecursion (AllByRecursion AreMultipliersBelow)))) are.drops bounded.drops)))

  stuck_are : AreEach (length p.preds) (IsStuckSet p comps parts.lists) parts.stuck
  stuck_are =
      subst (λ (ls : List (List (List LevelPart))). AreEach (length p.preds) (IsStuckSet p comps ls) parts.stuck) (sym are.lists)
      (subst (λ (rs : List (Option Refutation)). AreEach (length p.preds) (IsStuckSet p comps (printed_lists p comps found)) rs) (sym are.stuck)
      (stuck_shape size_row p comps parts.rows found program components founds_here (subst (AllByRecursion (λ (o : Option Refutation). IfSome o IsRefutationBelow)) are.stuck bounded.stuck)))

  have_shape : HaveShape p comps parts
  have_shape = record {
    modes = same_each parts.modes modes_hold.modes;
    rows = same_each parts.rows sizes_hold.shape;
    row_proofs = weaker_each (λ k. old.AreEach (shape.rows_of parts.rows (head_of p k)) (λ _. shape.HaveMultipliers (rows_of_atoms parts.rows (body_of p k))))
        (λ k. AreEach (shape.rows_of parts.rows (head_of p k)) (λ _. shape.HaveMultipliers (rows_of_atoms parts.rows (body_of p k)))) (λ k ms is. same_each ms is) parts.row_proofs sizes_hold.proofs_shape;
    grounds = same_each parts.grounds modes_hold.grounds;
    lists = lists_are;
    drops = drops_are;
    preconditions = weaker_each (λ a. old.AreEach (length (items_of (map (map union_part) parts.lists) a)) (λ _. AllByRecursion (shape.HasWidth (arity_in p a))))
        (λ a. AreEach (length (items_of parts.lists a)) (λ _. AllByRecursion (shape.HasWidth (arity_in p a))))
        (λ a cs is. subst (λ (n : ℕ). AreEach n (λ (_ : ℕ). AllByRecursion (shape.HasWidth (arity_in p a))) cs) (union_count a) (same_each cs is)) parts.preconditions modes_hold.preconditions;
    stuck = stuck_are;
  }

  hold : PartsHold truth size_row p comps parts
  hold = record {
    modes = modes_hold.hold;
    stated = sizes_hold.stated;
    rows = sizes_hold.hold;
    zero = λ c q inside e. subst (λ (ls : List (List (List LevelPart))). AllByRecursion (AllByRecursion IsZero) (list_at ls q)) (sym are.lists) (lists_zero size_row p comps parts.rows found program components founds_here c q inside e);
    drops = λ k x ek j b ej together m.
        subst (λ (ls : List (List (List LevelPart))). MeasuresDrop size_row (short_system size_row (rows_of parts.rows) x.vars (take j x.body)) x b (list_at (list_at ls x.head.pred.0) m) (list_at (list_at ls b.pred.0) m) (list_at (list_at (list_at parts.drops k) j) m)) (sym are.lists)
        (subst (λ (ds : List (List (List (List Multipliers)))).
        MeasuresDrop size_row (short_system size_row (rows_of parts.rows) x.vars (take j x.body)) x b (list_at (list_at (printed_lists p comps found) x.head.pred.0) m) (list_at (list_at (printed_lists p comps found) b.pred.0) m) (list_at (list_at (list_at ds k) j) m)) (sym are.drops)
        (drops_are_shown size_row p comps parts.rows found program components founds_here k x ek j b ej together m));
    stuck = λ q c r members e inside row. stuck_refutes size_row p comps parts.rows found program components founds_here q c r members (ap (λ (rs : List (Option Refutation)). slice_get rs q) (sym are.stuck) ∙ e) inside row;
  }

  pub assembled : IsAssembled p names comps (record { parts = parts; notes = notes })
  assembled = record {
    are_notes = subst AreNotes (sym is_noted) (notes_append (flat_map noted (chain_notes p names (map plain_step steps))) (component_notes p names comps (found_of found))
        (flat_notes noted noted_is (chain_notes p names (map plain_step steps)))
        (flat_notes (λ (q : ℕ). note_at p names (found_of found) q (led_by comps q)) (λ q. note_at_is p names (found_of found) q (led_by comps q)) (columns 0 (length p.preds))));
    shape = have_shape;
    hold = hold;
    exact = record {
      modes = exact;
      found = found_of found;
      components = component_is_exact p comps parts.rows found program components founds_here parts refl are.lists are.drops are.stuck;
      steps = chain_notes p names (map plain_step steps);
      chain = record {
        steps = map plain_step steps;
        legal = subst (λ (rows : List Rows). IsLegalChain (all_of fits) size_row p comps (map plain_step steps) (rows_of rows)) (sym are.rows) legal;
        are = refl;
      };
      are = is_noted;
    };
  }
