-- To believe, for the modes by lists of mappings.
-- When a certificate of lists is exact: it says the most that may be said by its method.
--
-- Its size rows come from a legal chain, whose steps it notes. Its lists, their drops and its stuck sets are those that
-- are found of each recursive component, and where the search for some list was given up, the component is noted. Its
-- ground rows, preconditions and modes are exact for these lists. Sizes are term sizes.
--
-- To believe: all of this file, over FoundLists.antt of `lex_turns`, which says what is found, and over
-- ChainNotes.antt, ExactModes.antt and Leading.antt of `cert_assembly`.
use Rattle.std.specs.Prelude.{◌≡◌, ◌==◌, ◌&&◌, ℕ, suc, true, if◌then◌else◌, List, [], ◌∷◌, ◌++◌, map, length, slice_get, Option, None, Some}
use Rattle.std.specs.List.{flat_map}
use Rattle.call_components.specs.Partition.{AreComponents, IsIn, Partition}
use Rattle.cert_assembly.specs.ChainNotes.{IsChain}
use Rattle.cert_assembly.specs.ExactModes.{ModesAreExact}
use Rattle.cert_assembly.specs.Leading.{led_by}
use Rattle.cert_structure.specs.Order.{pred_text}
use Rattle.cert_structure.specs.Shape.{first_of, items_of}
use Rattle.certificate.specs.declared.fact.Fact.{Fact}
use Rattle.certificate.specs.declared.fact.Fact.TheVariants as fact
use Rattle.cti_terms.specs.Listing.{Listing}
use Rattle.cti_terms.specs.Tree.{truth}
use Rattle.cti_terms.specs.declared.atom_list.Atom.{Atom}
use Rattle.cti_terms.specs.declared.clauses.Clause.{Clause}
use Rattle.exact128.specs.Fits.{fits}
use Rattle.level_systems.specs.Mappings.{level_in}
use Rattle.level_systems.specs.declared.measure.Measure.{Measure}
use Rattle.lex_certificate.specs.Flat.{flat}
use Rattle.lex_certificate.specs.Structure.{IsStructured}
use Rattle.lex_certificate.specs.declared.fact.LexFact.{LexFact}
use Rattle.lex_certificate.specs.declared.fact.LexFact.TheVariants as lex
use Rattle.lex_certificate.specs.declared.parts.LexParts.{LexParts}
use Rattle.lex_turns.specs.FoundLists.{AreFoundLists}
use Rattle.lex_turns.specs.declared.call_drops.CallDrops.{CallDrops}
use Rattle.lex_turns.specs.declared.found_lists.FoundLists.{FoundLists}
use Rattle.lex_turns.specs.declared.measure_list.MeasureList.{MeasureList}
use Rattle.linear_rows.specs.Blown.{all_of}
use Rattle.linear_rows.specs.Step.{columns}
use Rattle.linear_rows.specs.declared.multipliers.Multipliers.{Multipliers}
use Rattle.number_tests.specs.declared.level_part.LevelPart.{LevelPart}
use Rattle.term_size.specs.Occurrences.{size_row}
use Rattle.termination_model.specs.sizes.Sizes.{rows_of}

-- a predicate's parts in the mappings of a list, where they have some
abbrev pub parts_in : ℕ → MeasureList → List (Option LevelPart)
parts_in q l = map (λ (ms : List Measure). level_in ms q) l.measures

-- the multipliers up to the place of a call in a list. The clause and the call count from 1
abbrev pub place_in : List CallDrops → ℕ → ℕ → Option (List Multipliers)
place_in [] k j = None
place_in (d ∷ ds) k j = if (d.clause == k) && (d.call == j) then Some d.by else place_in ds k j

module _ (p : Listing) (comps : Partition) (parts : LexParts) where
  -- of the recursive component c these lists were found, or this stuck set: and they are what is printed, in their
  -- order
  pub record ComponentIsExact (c : ℕ) (found : FoundLists) : Type 0 where
    pub are_found : AreFoundLists size_row p comps (rows_of parts.rows) c found
    pub lists : (q : ℕ) → IsIn comps c q → map (map Some) (items_of parts.lists q) ≡ map (parts_in q) found.lists
    pub drops : (k j : ℕ) (x : Clause) (b : Atom) → slice_get p.clauses k ≡ Some x → slice_get x.body j ≡ Some b → IsIn comps c x.head.pred.0 → IsIn comps c b.pred.0
        → map Some (items_of (items_of parts.drops k) j) ≡ map (λ (l : MeasureList). place_in l.drops (suc k) (suc j)) found.lists
    pub stuck : (q : ℕ) → IsIn comps c q → first_of comps q ≡ q → slice_get parts.stuck q ≡ Some found.refutation

-- a note of a chain, as it stands here
abbrev pub noted : Fact → List LexFact
noted (fact.Image step clause pred rows) = lex.Image step clause pred rows ∷ []
noted (fact.Step step pred how rows) = lex.Step step pred how rows ∷ []
noted (fact.WeakImage step) = lex.WeakImage step ∷ []
noted (fact.WeakStep step) = lex.WeakStep step ∷ []
noted _ = []

-- a note of a component, by its first member q, where the search for some of its lists was given up
abbrev pub note_if : Listing → List (List ℕ) → ℕ → List (List ℕ) → List LexFact
note_if p names q [] = []
note_if p names q (s ∷ blown) = lex.Blown (pred_text p names q) ∷ []

abbrev pub note_at : Listing → List (List ℕ) → (ℕ → FoundLists) → ℕ → Option ℕ → List LexFact
note_at p names found q None = []
note_at p names found q (Some c) = note_if p names q (found c).blown

-- the notes of all recursive components, by their first members
abbrev pub component_notes : Listing → List (List ℕ) → Partition → (ℕ → FoundLists) → List LexFact
component_notes p names comps found = flat_map (λ q. note_at p names found q (led_by comps q)) (columns 0 (length p.preds))

-- the parts and the notes are exact
pub record IsExactOf (p : Listing) (names : List (List ℕ)) (comps : Partition) (parts : LexParts) (notes : List LexFact) : Type 0 where
  pub modes : ModesAreExact truth p comps (flat parts)
  pub found : ℕ → FoundLists
  pub components : (c : ℕ) → slice_get comps.recursive c ≡ Some true → ComponentIsExact p comps parts c (found c)
  pub steps : List Fact
  pub chain : IsChain (all_of fits) size_row p comps names parts.rows steps
  pub are : notes ≡ flat_map noted steps ++ component_notes p names comps found

-- the facts are those of parts that are exact
pub record IsExact (p : Listing) (names : List (List ℕ)) (facts : List LexFact) : Type 0 where
  pub comps : Partition
  pub components : AreComponents p comps
  pub parts : LexParts
  pub structured : IsStructured p names comps parts facts
  pub exact : IsExactOf p names comps parts structured.notes
