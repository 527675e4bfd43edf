-- Private.
-- What is found of the mappings of a program's components.
--
-- To believe: `AreFound`, `KeepFound`.
use Rattle.std.specs.Prelude.{◌≡◌, ℕ, ℤ, false, true, List, length, map, option_map, slice_get, Some}
use Rattle.std.specs.List.{AllByRecursion}
use Rattle.call_components.specs.Partition.{Partition}
use Rattle.cti_terms.specs.Listing.{Listing}
use Rattle.cti_terms.specs.Tree.{Tree}
use Rattle.cti_terms.specs.declared.clauses.Clause.{Clause}
use Rattle.termination_model.specs.chains.Chain.{clauses_of}
use Rattle.termination_model.specs.mappings.ComponentViews.{members_in}
use Rattle.termination_model.specs.sizes.Sizes.{AreSizes, rows_of}
use Rattle.level_systems.specs.Found.{IsFound, nothing}
use Rattle.level_systems.specs.declared.found.Found.{Found}
use Rattle.level_systems.specs.declared.mapping.Mapping.{Mapping}
use Rattle.level_systems.specs.declared.measure.Measure.{Measure}
use Rattle.solved_program.specs.Marks.{AreMarkedTo}
use Rattle.solved_program.specs.Resolving.{AreSources}
use Rattle.solved_program.specs.Standing.{KeepValues, StandsFor}
use Rattle.solved_program.specs.declared.edit.Edit.{Edit}
use Rattle.carried_mappings.specs.Moved.{moved, moved_found, moved_refutation}
use Rattle.carried_mappings.specs.Order.{AreSameMappings, HaveSameOrder}
use Rattle.carried_mappings.specs.declared.resolving.MappingSources.{MappingSources}

module _ (expression : ℕ → Tree → List ℤ) (p : Listing) (comps : Partition) (rows : ℕ → List (List ℤ)) where
  -- what is found of a component: nothing, where it is not recursive
  pub record IsFoundAt (c : ℕ) (f : Found) : Type 0 where
    pub recursive : slice_get comps.recursive c ≡ Some true → IsFound expression p comps rows c f
    pub other : slice_get comps.recursive c ≡ Some false → f ≡ nothing

  -- what is found of the components below n
  pub record AreFoundTo (n : ℕ) (fs : List Found) : Type 0 where
    pub each : length fs ≡ n
    pub found : (c : ℕ) (f : Found) → slice_get fs c ≡ Some f → IsFoundAt c f

  -- of all of them
  abbrev pub AreFound : List Found → Type 0
  AreFound fs = AreFoundTo (length comps.members) fs

-- an edit with the size rows of both programs, marks of the predicates whose rows stayed, and what was found of the old
-- components: mappings with a part for each member, and nothing of those that are not recursive
pub record AreMappingSources (s : MappingSources) : Type 0 where
  pub sources : AreSources s.sources
  pub rows : AreSizes s.sources.edit.now.after.now.preds s.sizes.now.rows
  pub stayed : AreMarkedTo s.sources.edit.now (length s.sources.edit.now.components.now.members)
      (rows_of s.sources.old.now.sizes.rows) (rows_of s.sizes.now.rows) s.stayed.now
  pub each : length s.found.now ≡ length s.sources.edit.now.components_before.now.members
  pub parts : (c : ℕ) (x : Found) → slice_get s.found.now c ≡ Some x
      → AllByRecursion (λ (m : Mapping).
      map (λ (y : Measure). y.pred.0) m.measures ≡ members_in s.sources.edit.now.components_before.now c) x.mappings
  pub others : (c : ℕ) (x : Found) → slice_get s.found.now c ≡ Some x → slice_get s.sources.edit.now.components_before.now.recursive c ≡ Some false → x ≡ nothing

abbrev pub FoundBefore : (ℕ → Tree → List ℤ) → MappingSources → Type 0
FoundBefore expression s =
    AreFound expression s.sources.edit.now.before.now s.sources.edit.now.components_before.now (rows_of s.sources.old.now.sizes.rows)
    s.found.now

abbrev pub ValuesAreKept : MappingSources → Type 0
ValuesAreKept s = KeepValues s.sources.edit.now (rows_of s.sources.old.now.sizes.rows) (rows_of s.sizes.now.rows)

-- this is found of the component c, by each norm by which the old ones were found
abbrev pub IsCarriedAt : MappingSources → ℕ → Found → Type 0
IsCarriedAt s c x = (expression : ℕ → Tree → List ℤ) → FoundBefore expression s → ValuesAreKept s
    → IsFound expression s.sources.edit.now.after.now s.sources.edit.now.components.now (rows_of s.sizes.now.rows) c x

-- the numbers of a component's clauses
abbrev pub clause_numbers : Listing → Partition → ℕ → List ℕ
clause_numbers p comps c = map (λ (k : ℕ × Clause). k.0) (clauses_of p comps c)

-- the number in the second component of a clause that both have
abbrev pub number_in : Edit → ℕ → ℕ → ℕ → ℕ
number_in e b c = moved (clause_numbers e.before.now e.components_before.now b) (clause_numbers e.after.now e.components.now c)

-- what was found of the component b, under the numbers of the component c
abbrev pub carried_over : Edit → ℕ → ℕ → Found → Found
carried_over e b c x = moved_found (number_in e b c) (members_in e.components.now c) x

-- This is what was found of the component b: the same mappings, and the same refutation under the clauses' new numbers;
-- with the members in the same order it is all the same.
pub record IsKeptFrom (e : Edit) (b c : ℕ) (x f : Found) : Type 0 where
  pub mappings : AreSameMappings e b x.mappings f.mappings
  pub refutation : f.refutation ≡ option_map (moved_refutation (number_in e b c)) x.refutation
  pub moved : HaveSameOrder e b c → f ≡ carried_over e b c x

-- Where the component c stands for an old one, this is what was found of that one.
abbrev pub IsKeptAt : Edit → (ℕ → List (List ℤ)) → (ℕ → List (List ℤ)) → List Found → ℕ → Found → Type 0
IsKeptAt e rows_before rows found c f =
    (b : ℕ) (x : Found)
    → StandsFor e.components_before.now e.components.now b c rows_before rows e.before.now e.after.now e.kept.now
    → slice_get found b ≡ Some x → IsKeptFrom e b c x f

-- so it is with each of these
abbrev pub KeepFound : Edit → (ℕ → List (List ℤ)) → (ℕ → List (List ℤ)) → List Found → List Found → Type 0
KeepFound e rows_before rows found now =
    (c : ℕ) (f : Found) → slice_get now c ≡ Some f → IsKeptAt e rows_before rows found c f

-- the same of what mappings are made from
abbrev pub IsKept : MappingSources → ℕ → Found → Type 0
IsKept s c f = IsKeptAt s.sources.edit.now (rows_of s.sources.old.now.sizes.rows) (rows_of s.sizes.now.rows) s.found.now c f

abbrev pub AreKeptFound : MappingSources → List Found → Type 0
AreKeptFound s now =
    KeepFound s.sources.edit.now (rows_of s.sources.old.now.sizes.rows) (rows_of s.sizes.now.rows) s.found.now now
