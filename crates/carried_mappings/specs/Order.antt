-- Private.
-- The members of two components, and the parts that they have in mappings, by their names and arities.
--
-- To believe: `HaveSameOrder`, `AreSameMappings`.
use Rattle.std.specs.Prelude.{◌≡◌, ℕ, List, map, slice_get, Option}
use Rattle.call_components.specs.Partition.{Partition, IsIn}
use Rattle.cti_terms.specs.Listing.{Listing}
use Rattle.cti_terms.specs.declared.predicates.Pred.{Pred}
use Rattle.linear_rows.specs.Members.{In}
use Rattle.level_systems.specs.Mappings.{level_in}
use Rattle.level_systems.specs.declared.mapping.Mapping.{Mapping}
use Rattle.termination_model.specs.mappings.ComponentViews.{members_in}
use Rattle.solved_program.specs.declared.edit.Edit.{Edit}

-- ---- members in one order
-- two predicates, each of its program, have one name and arity
abbrev pub AreNamesakes : Edit → ℕ → ℕ → Type 0
AreNamesakes e q r = slice_get e.before.now.preds q ≡ slice_get e.after.now.preds r

-- the names and arities of predicates
abbrev pub named_by : Listing → List ℕ → List (Option Pred)
named_by p qs = map (slice_get p.preds) qs

-- the members of two components, one of each program, have the same names and arities, in the order of their numbers
abbrev pub HaveSameOrder : Edit → ℕ → ℕ → Type 0
HaveSameOrder e b c =
    named_by e.before.now (members_in e.components_before.now b) ≡ named_by e.after.now (members_in e.components.now c)

-- ---- members in any order
-- they have the same names and arities
pub record HaveSameMembersIn (p new : Listing) (comps new_comps : Partition) (b c : ℕ) : Type 0 where
  pub there : (q : ℕ) → IsIn comps b q → (r : ℕ) × IsIn new_comps c r × (slice_get p.preds q ≡ slice_get new.preds r)
  pub before : (r : ℕ) → IsIn new_comps c r → (q : ℕ) × IsIn comps b q × (slice_get p.preds q ≡ slice_get new.preds r)

abbrev pub HaveSameMembers : Edit → ℕ → ℕ → Type 0
HaveSameMembers e b c = HaveSameMembersIn e.before.now e.after.now e.components_before.now e.components.now b c

-- ---- mappings
-- each member of the component b has the part that it has in the other mapping, under its name and arity
abbrev pub HaveSameParts : Listing → Listing → Partition → ℕ → Mapping → Mapping → Type 0
HaveSameParts p new comps b x y =
    (q r : ℕ) → IsIn comps b q → slice_get p.preds q ≡ slice_get new.preds r → level_in y.measures r ≡ level_in x.measures q

-- each mapping of one list is one of the other, and the other way round
pub record AreSameMappingsIn (p new : Listing) (comps : Partition) (b : ℕ) (xs ys : List Mapping) : Type 0 where
  pub there : (x : Mapping) → In x xs → (y : Mapping) × In y ys × HaveSameParts p new comps b x y
  pub before : (y : Mapping) → In y ys → (x : Mapping) × In x xs × HaveSameParts p new comps b x y

abbrev pub AreSameMappings : Edit → ℕ → List Mapping → List Mapping → Type 0
AreSameMappings e b xs ys = AreSameMappingsIn e.before.now e.after.now e.components_before.now b xs ys
