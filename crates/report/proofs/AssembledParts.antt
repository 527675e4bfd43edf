-- What the engines give makes a certificate valid and exact.
use Rattle.std.proofs.Common.{◌≡◌, ℕ, suc, ◌++◌, Bool, true, false, IsTrue, if◌then◌else◌, List, [], ◌∷◌, All, length, map, nat_lt, slice_get, take, Some, None, Option, refl, ap, sym, subst, ◌∙◌}
use Rattle.std.specs.Prelude.{IfSome}
use Rattle.std.specs.List.{AllByRecursion, flat_map}
use Rattle.call_components.specs.Partition.{AreComponents, Partition}
use Rattle.cert_checker.specs.Norms.{norm_in}
use Rattle.cert_checker.specs.Proved.{IsZero}
use Rattle.certificate.specs.declared.fact.Fact.{Fact}
use Rattle.certificate.specs.declared.fact.Fact.TheVariants as fact
use Rattle.certificate.specs.declared.norm.CertNorm.{CertNorm}
use Rattle.cert_structure.specs.Numbered.{AreEach, facts_from}
use Rattle.cert_structure.specs.Order.{is_note, pred_text}
use Rattle.cert_structure.specs.Shape as shape
use Rattle.cert_structure.specs.Shape.{arity_in, body_of, head_of, mappings_of, proofs_of_call, rows_of_atoms}
use Rattle.cert_structure.specs.Structure.{AreNotes}
use Rattle.cert_structure.specs.declared.parts.Parts.{Parts}
use Rattle.cti_terms.specs.Listing.{IsProgram, Listing}
use Rattle.exact128.specs.Fits.{fits}
use Rattle.level_systems.specs.declared.found.Found.{Found}
use Rattle.linear_rows.specs.Blown.{all_of}
use Rattle.linear_rows.specs.Replacing.{row_fits}
use Rattle.linear_rows.specs.Step.{columns}
use Rattle.linear_rows.specs.declared.multipliers.Multipliers.{Multipliers}
use Rattle.linear_rows.specs.declared.row.Rows.{Rows}
use Rattle.number_tests.specs.Proved.{MappingsFall}
use Rattle.number_tests.specs.Shape.{list_at}
use Rattle.number_tests.specs.declared.level_part.LevelPart.{LevelPart}
use Rattle.number_tests.specs.declared.refutation.Refutation.{Refutation}
use Rattle.numeric_model.specs.Proved.{AreProved}
use Rattle.numeric_model.specs.States.{plain_step}
use Rattle.numeric_model.specs.declared.step.Step.{Step}
use Rattle.term_size.specs.AnyNorm.{any_is_a_norm, any_row, any_truth}
use Rattle.term_size.specs.declared.any_norm.AnyNorm.{AnyNorm}
use Rattle.termination_model.proofs.ChainKeeping.{chains_state}
use Rattle.termination_model.specs.chains.Chain.{IsLegalChain}
use Rattle.termination_model.specs.chains.ChainSteps.{Step as Plain}
use Rattle.termination_model.specs.mappings.ComponentViews.{positions_in}
use Rattle.termination_model.specs.sizes.Sizes.{AreSizes, rows_of}
use Rattle.termination_model.specs.sizes.ShortSystems.{short_system}
use Rattle.termination_model.specs.declared.sizes.Sizes.{Sizes}
use Rattle.cert_assembly.proofs.ChainParts.{chain_sizes_hold}
use Rattle.report.proofs.ExactParts.{components_are_exact}
use Rattle.report.proofs.MappingParts.{falls_are_shown, falls_shape, levels_shape, measures_zero}
use Rattle.report.proofs.RefutedParts.{refutations_are_shown, refutations_shape}
use Rattle.cert_assembly.proofs.SetParts.{modes_are_exact, parts_are_counted}
use Rattle.report.specs.Assembled.{MappingsHold, NumbersHold}
use Rattle.cert_assembly.specs.Sizing.{SizesHold}
use Rattle.report.specs.Assembly.{AreBounded, AreFound, ArePartsOf, IsAssembled}
use Rattle.cert_assembly.specs.ChainNotes.{chain_notes, noted_if, step_notes}
use Rattle.report.specs.Exact.{ComponentIsExact}
use Rattle.cert_assembly.specs.ExactModes.{ModesAreExact}
use Rattle.report.specs.Levels.{given_up, level_list}
use Rattle.cert_assembly.specs.Ranges.{AreMultipliersBelow, IsPartBelow, IsRefutationBelow}
use Rattle.report.specs.SupportNotes.{blown_at, blown_note, blown_notes, large_at, large_notes, support_notes}
use Rattle.cert_assembly.specs.Leading.{led_by}

abbrev IsNote : Fact → Type 0
IsNote f = IsTrue (is_note f)

-- ---- notes
notes_append : (xs ys : List Fact) → AreNotes xs → AreNotes ys → AreNotes (xs ++ ys)
notes_append [] ys h k = k
notes_append (x ∷ xs) ys h k = (h.0, notes_append xs ys h.1 k)

noted_note : (b : Bool) (f : Fact) → IsNote f → AreNotes (noted_if b f)
noted_note true f h = (h, tt)
noted_note false f h = tt

module _ (p : Listing) (names : List (List ℕ)) where
  step_is : (n : ℕ) (s : Plain) → AreNotes (step_notes p names n s)
  step_is n s = (refl, (refl, notes_append (noted_if s.image_weak (fact.WeakImage n)) (noted_if s.weak (fact.WeakStep n)) (noted_note s.image_weak (fact.WeakImage n) refl) (noted_note s.weak (fact.WeakStep n) refl)))

  steps_are : (n : ℕ) (ss : List Plain) → AreNotes (facts_from n (step_notes p names) ss)
  steps_are n [] = tt
  steps_are n (s ∷ ss) = notes_append (step_notes p names n s) (facts_from (suc n) (step_notes p names) ss) (step_is n s) (steps_are (suc n) ss)

flat_notes : (f : ℕ → List Fact) → ((q : ℕ) → AreNotes (f q)) → (qs : List ℕ) → AreNotes (flat_map f qs)
flat_notes f h [] = tt
flat_notes f h (q ∷ qs) = notes_append (f q) (flat_map f qs) (h q) (flat_notes f h qs)

module _ (p : Listing) (names : List (List ℕ)) (comps : Partition) (blown : ℕ → List (List ℕ)) where
  sets_are : (c q : ℕ) (ss : List (List ℕ)) → AreNotes (map (blown_note p names comps c q) ss)
  sets_are c q [] = tt
  sets_are c q (s ∷ ss) = (refl, sets_are c q ss)

  blown_is : (q : ℕ) (o : Option ℕ) → AreNotes (blown_at p names comps blown q o)
  blown_is q None = tt
  blown_is q (Some c) = sets_are c q (blown c)

  large_is : (q : ℕ) (o : Option ℕ) → AreNotes (large_at p names comps q o)
  large_is q None = tt
  large_is q (Some c) = either (nat_lt 12 (length (positions_in p comps c)))
    where
      either : (b : Bool) → AreNotes (if b then fact.Large (pred_text p names q) (length (positions_in p comps c)) ∷ [] else [])
      either true = (refl, tt)
      either false = tt

  supports_are : AreNotes (support_notes p names comps blown)
  supports_are =
      notes_append (blown_notes p names comps blown) (large_notes p names comps)
      (flat_notes (λ q. blown_at p names comps blown q (led_by comps q)) (λ q. blown_is q (led_by comps q)) (columns 0 (length p.preds)))
      (flat_notes (λ q. large_at p names comps q (led_by comps q)) (λ q. large_is q (led_by comps q)) (columns 0 (length p.preds)))

-- ---- all together
module _ (n : AnyNorm) (named : Option CertNorm) (p : Listing) (names : List (List ℕ)) (comps : Partition) (sizes : Sizes) (found : List Found) (parts : Parts) (steps : List Step)
    (program : IsProgram p) (components : AreComponents p comps)
    (legal : IsLegalChain (all_of fits) (any_row n) p comps (map plain_step steps) (rows_of sizes.rows))
    (are_sizes : AreSizes p.preds sizes.rows) (proved : AreProved (any_row n) (rows_of sizes.rows) p.clauses sizes.proofs)
    (fit : (q : ℕ) → All (λ r. row_fits r ≡ true) (rows_of sizes.rows q))
    (founds : AreFound (any_row n) p comps sizes.rows found) (are : ArePartsOf n named p comps sizes found parts) (bounded : AreBounded parts)
    (force : n ≡ norm_in names named) where
  founds_here : AreFound (any_row n) p comps parts.rows found
  founds_here = subst (λ (rows : List Rows). AreFound (any_row n) p comps rows found) (sym are.rows) founds

  sizes_hold : SizesHold (any_row n) p parts.rows parts.row_proofs
  sizes_hold =
      subst (λ (rows : List Rows). SizesHold (any_row n) p rows parts.row_proofs) (sym are.rows)
      (subst (λ (proofs : List (List Multipliers)). SizesHold (any_row n) p sizes.rows proofs) (sym are.row_proofs)
      (chain_sizes_hold (any_row n) p sizes.rows sizes.proofs are_sizes fit proved (subst (AllByRecursion (AllByRecursion AreMultipliersBelow)) are.row_proofs bounded.row_proofs)
      (λ q b e. chains_state (all_of fits) (any_row n) p comps (map plain_step steps) (rows_of sizes.rows) program legal q b e)))

  mappings_hold : MappingsHold (any_row n) p comps parts
  mappings_hold = record {
    levels = subst (λ (ls : List (List LevelPart)). AreEach (length p.preds) (λ a l. (length l ≡ mappings_of comps ls a) × AllByRecursion (shape.IsLevel (arity_in p a)) l) ls) (sym are.levels)
        (levels_shape (any_row n) p comps parts.rows found program components founds_here (subst (AllByRecursion (AllByRecursion IsPartBelow)) are.levels bounded.levels));
    falls =
        subst (λ (ls : List (List LevelPart)).
        AreEach (length p.clauses)
        (λ k. AreEach (length (body_of p k)) (λ j. AreEach (proofs_of_call comps ls (head_of p k) (slice_get (body_of p k) j)) (λ _. shape.HaveMultipliers (rows_of_atoms parts.rows (take j (body_of p k)))))) parts.falls) (sym are.levels)
        (subst (λ (fs : List (List (List Multipliers))).
        AreEach (length p.clauses)
        (λ k. AreEach (length (body_of p k)) (λ j. AreEach (proofs_of_call comps (level_list p comps found) (head_of p k) (slice_get (body_of p k) j)) (λ _. shape.HaveMultipliers (rows_of_atoms parts.rows (take j (body_of p k)))))) fs) (sym are.falls)
        (falls_shape (any_row n) p comps parts.rows found program components founds_here (subst (AllByRecursion (AllByRecursion (AllByRecursion AreMultipliersBelow))) are.falls bounded.falls)));
    refutations =
        subst (λ (ls : List (List LevelPart)). AreEach (length p.preds) (shape.IsRefutation p comps ls) parts.refutations) (sym are.levels)
        (subst (λ (rs : List (Option Refutation)). AreEach (length p.preds) (shape.IsRefutation p comps (level_list p comps found)) rs) (sym are.refutations)
        (refutations_shape (any_row n) p comps parts.rows found program components founds_here (any_is_a_norm n).width (subst (AllByRecursion (λ (o : Option Refutation). IfSome o IsRefutationBelow)) are.refutations bounded.refutations)));
    measures_hold = λ c q inside e. subst (λ (ls : List (List LevelPart)). AllByRecursion IsZero (list_at ls q)) (sym are.levels) (measures_zero (any_row n) p comps parts.rows found program components founds_here c q inside e);
    falls_hold = λ k x ek j b ej together.
        subst (λ (ls : List (List LevelPart)). MappingsFall (any_row n) (short_system (any_row n) (rows_of parts.rows) x.vars (take j x.body)) x b (list_at ls x.head.pred.0) (list_at ls b.pred.0) (list_at (list_at parts.falls k) j)) (sym are.levels)
        (subst (λ (fs : List (List (List Multipliers))). MappingsFall (any_row n) (short_system (any_row n) (rows_of parts.rows) x.vars (take j x.body)) x b (list_at (level_list p comps found) x.head.pred.0) (list_at (level_list p comps found) b.pred.0) (list_at (list_at fs k) j)) (sym are.falls)
        (falls_are_shown (any_row n) p comps parts.rows found program components founds_here k x ek j b ej together));
    refutations_hold = λ q c r members e inside row.
        refutations_are_shown (any_row n) p comps parts.rows found program components founds_here (any_is_a_norm n).width q c r members (ap (λ (rs : List (Option Refutation)). slice_get rs q) (sym are.refutations) ∙ e) inside row;
  }

  -- the norm in force is that of the parts
  here : n ≡ norm_in names parts.norm
  here = force ∙ ap (norm_in names) (sym are.norm)

  pub assembled : IsAssembled p names comps (record { parts = parts; steps = steps; found = found })
  assembled =
      let s = are.sets in
      record {
        each = founds.each;
        are_notes = notes_append (chain_notes p names (map plain_step steps)) (support_notes p names comps (given_up found)) (steps_are p names 1 (map plain_step steps)) (supports_are p names comps (given_up found));
        counted = parts_are_counted (any_truth n) p comps parts parts.levels s.first s.last s.grounds s.sets s.lists components s.solved s.spelled;
        numbers = subst (λ (m : AnyNorm). NumbersHold (any_row m) p comps parts) here (record { sizes = sizes_hold; mappings = mappings_hold });
        exact = record {
          modes = subst (λ (m : AnyNorm). ModesAreExact (any_truth m) p comps parts) here
              (modes_are_exact (any_truth n) p comps parts parts.levels s.first s.last s.grounds s.sets s.lists components s.solved s.spelled);
          blown = given_up found;
          components = λ c q inside recursive first.
              subst (λ (m : AnyNorm). ComponentIsExact (any_row m) p comps parts c q (given_up found c)) here
              (components_are_exact (any_row n) p comps parts found program components founds_here (any_is_a_norm n).width are.levels are.refutations c q inside recursive first);
          steps = chain_notes p names (map plain_step steps);
          chain = record {
            steps = map plain_step steps;
            legal = subst (λ (m : AnyNorm). IsLegalChain (all_of fits) (any_row m) p comps (map plain_step steps) (rows_of parts.rows)) here
                (subst (λ (rows : List Rows). IsLegalChain (all_of fits) (any_row n) p comps (map plain_step steps) (rows_of rows)) (sym are.rows) legal);
            are = refl;
          };
          are = refl;
        };
      }
