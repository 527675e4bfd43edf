-- What is printed of a component is what was found.
use Rattle.std.proofs.Common.{◌≡◌, ℕ, suc, true, List, [], ◌∷◌, length, map, slice_get, Some, Option, refl, ap, sym, subst, ◌∙◌, arith}
use Rattle.std.specs.Prelude.{unwrap_or}
use Rattle.std.specs.List.{AllByRecursion}
use Rattle.call_components.specs.Partition.{AreComponents, IsIn, Partition}
use Rattle.cert_assembly.proofs.ModeLaws.{there}
use Rattle.cert_assembly.proofs.PartShapes.{leads, list_is}
use Rattle.cert_assembly.proofs.SetParts.{mapped_at}
use Rattle.cert_assembly.specs.Leading.{led_by}
use Rattle.cert_assembly.specs.Parted.{part_or_zero}
use Rattle.cert_structure.specs.Shape.{arity_in, items_of}
use Rattle.cti_terms.specs.Listing.{IsProgram, Listing}
use Rattle.cti_terms.specs.declared.atom_list.Atom.{Atom}
use Rattle.cti_terms.specs.declared.clauses.Clause.{Clause}
use Rattle.level_systems.specs.Mappings.{HasMeasures, level_in}
use Rattle.level_systems.specs.declared.measure.Measure.{Measure}
use Rattle.lex_certificate.specs.declared.parts.LexParts.{LexParts}
use Rattle.lex_turns.specs.FoundLists.{AreFoundLists, IsDescendingList}
use Rattle.lex_turns.specs.declared.found_lists.FoundLists.{FoundLists}
use Rattle.lex_turns.specs.declared.measure_list.MeasureList.{MeasureList}
use Rattle.linear_rows.specs.declared.multipliers.Multipliers.{Multipliers}
use Rattle.linear_rows.specs.declared.row.Rows.{Rows}
use Rattle.number_tests.specs.Shape.{list_at}
use Rattle.number_tests.specs.declared.level_part.LevelPart.{LevelPart}
use Rattle.number_tests.specs.declared.refutation.Refutation.{Refutation}
use Rattle.term_size.specs.Occurrences.{size_row}
use Rattle.termination_model.proofs.Lists.{place_below}
use Rattle.termination_model.specs.mappings.ComponentViews.{members_in}
use Rattle.termination_model.specs.sizes.Sizes.{rows_of}
use Rattle.lex_measures.proofs.ComponentLaws.{member_below, recursive_at}
use Rattle.lex_measures.proofs.DropShapes.{drops_deep, own_place, printed_drops_at}
use Rattle.lex_measures.proofs.ListParts.{level_there, printed_deep, printed_is}
use Rattle.lex_measures.specs.Assembly.{AreFound}
use Rattle.lex_measures.specs.Exact.{ComponentIsExact, parts_in, place_in}
use Rattle.lex_measures.specs.Lists.{found_of, list_of, nothing, place_of, place_or_none, printed_drops, printed_lists, printed_stuck, stuck_of}

module _ (p : Listing) (comps : Partition) (rows : List Rows) (found : List FoundLists)
    (program : IsProgram p) (components : AreComponents p comps) (founds : AreFound size_row p comps rows found) where
  -- ---- lists
  parts_are : (c q : ℕ) → IsIn comps c q → (mss : List (List Measure)) → AllByRecursion (HasMeasures p (members_in comps c)) mss
      → map Some (map (λ (ms : List Measure). part_or_zero (arity_in p q) (level_in ms q)) mss) ≡ map (λ (ms : List Measure). level_in ms q) mss
  parts_are c q inside [] h = refl
  parts_are c q inside (ms ∷ mss) h =
      let (l, e) = level_there size_row p comps rows found program components founds c q ms inside h.0 in
      let here : Some (part_or_zero (arity_in p q) (level_in ms q)) ≡ level_in ms q = ap (λ (o : Option LevelPart). Some (part_or_zero (arity_in p q) o)) e ∙ sym e in
      λ i. here i ∷ parts_are c q inside mss h.1 i

  all_parts : (c q : ℕ) → IsIn comps c q → (ls : List MeasureList) → AllByRecursion (IsDescendingList size_row p comps (rows_of rows) c) ls → map (map Some) (map (list_of (arity_in p q) q) ls) ≡ map (parts_in q) ls
  all_parts c q inside [] h = refl
  all_parts c q inside (l ∷ ls) h = λ i. parts_are c q inside l.measures h.0.measures i ∷ all_parts c q inside ls h.1 i

  -- ---- drops
  all_places : (c k j : ℕ) (x : Clause) (b : Atom) → slice_get p.clauses k ≡ Some x → slice_get x.body j ≡ Some b → IsIn comps c x.head.pred.0 → IsIn comps c b.pred.0
      → (ls : List MeasureList) → AllByRecursion (IsDescendingList size_row p comps (rows_of rows) c) ls → map Some (map (place_of (suc k) (suc j)) ls) ≡ map (λ (l : MeasureList). place_in l.drops (suc k) (suc j)) ls
  all_places c k j x b ek ej ih ib [] h = refl
  all_places c k j x b ek ej ih ib (l ∷ ls) h =
      let (bys, at, has) = own_place size_row p comps rows found program components founds c k j x b l ek ej ih ib h.0 in
      let here : Some (place_of (suc k) (suc j) l) ≡ place_in l.drops (suc k) (suc j) = ap (λ (o : Option (List Multipliers)). Some (place_or_none o)) at ∙ sym at in
      λ i. here i ∷ all_places c k j x b ek ej ih ib ls h.1 i

  module _ (parts : LexParts) (same_rows : parts.rows ≡ rows) (same_lists : parts.lists ≡ printed_lists p comps found) (same_drops : parts.drops ≡ printed_drops p comps found) (same_stuck : parts.stuck ≡ printed_stuck p comps found) where
    pub component_is_exact : (c : ℕ) → slice_get comps.recursive c ≡ Some true → ComponentIsExact p comps parts c (found_of found c)
    component_is_exact c e =
        let less = place_below comps.recursive c true e in
        let answers = components.answers in
        let each = founds.each in
        let (f, at) = there found c (omega arith) in
        let is = founds.are c f at e in
        let own : f ≡ found_of found c = sym (ap (λ (o : Option FoundLists). unwrap_or o nothing) at) in
        subst (ComponentIsExact p comps parts c) own (record {
          are_found = subst (λ (rs : List Rows). AreFoundLists size_row p comps (rows_of rs) c f) (sym same_rows) is;
          lists = λ q inside.
              ap (λ (ls : List (List (List LevelPart))). map (map Some) (items_of ls q)) same_lists
              ∙ ap (map (map Some)) (printed_is size_row p comps rows found program components founds q (member_below p comps program components c q inside)
              ∙ printed_deep size_row p comps rows found program components founds c q f inside at (recursive_at p comps program components c q true inside e))
              ∙ all_parts c q inside f.lists is.lists;
          drops = λ k j x b ek ej ih ib.
              ap (λ (ds : List (List (List (List Multipliers)))). map Some (items_of (items_of ds k) j)) same_drops
              ∙ ap (map Some) (ap (λ (ds : List (List (List Multipliers))). items_of ds j) (list_is (printed_drops p comps found) k) ∙ list_is (list_at (printed_drops p comps found) k) j
              ∙ printed_drops_at size_row p comps rows found program components founds k j x b ek ej
              ∙ drops_deep size_row p comps rows found program components founds c k j x b f ek ih ib at)
              ∙ all_places c k j x b ek ej ih ib f.lists is.lists;
          stuck = λ q inside first.
              let recursive = recursive_at p comps program components c q true inside e in
              ap (λ (rs : List (Option Refutation)). slice_get rs q) same_stuck
              ∙ mapped_at (λ q. stuck_of found (led_by comps q)) (length p.preds) q (member_below p comps program components c q inside)
              ∙ ap (λ (o : Option ℕ). Some (stuck_of found o)) (leads comps q c recursive first inside)
              ∙ ap (λ (g : FoundLists). Some g.refutation) (sym own);
        })
