-- Private.
-- What the search for a mapping at a set of positions is given, and what it answers. Nothing here has to be believed.
use Rattle.std.specs.Prelude.{◌≡◌, ◌<◌, ℕ, ℤ, pos, Bool, true, List, map, take, drop, length, slice_get, Option, None, Some}
use Rattle.std.specs.List.{AllByRecursion}
use Rattle.call_components.specs.Numbers.{number_of}
use Rattle.call_components.specs.Partition.{AreComponents, IsIn, Partition}
use Rattle.cti_terms.specs.Listing.{IsProgram, Listing}
use Rattle.cti_terms.specs.Tree.{Tree}
use Rattle.linear_rows.specs.Members.{In}
use Rattle.term_size.specs.Norm.{IsNorm}
use Rattle.termination_model.specs.mappings.ComponentViews.{HasSupportIn, component_view, members_in, positions_in}
use Rattle.termination_model.specs.mappings.Excluding.{IsZeroOutside}
use Rattle.termination_model.specs.grounds.Minimal.{IsExcluded}
use Rattle.termination_model.specs.grounds.Modes.{is_part}
use Rattle.termination_model.specs.mappings.OwnCalls.{members_of}
use Rattle.termination_model.specs.mappings.Ready.{Apart, arity_in, positions_by}
use Rattle.termination_model.specs.mappings.Refutation.{Decreases}
use Rattle.termination_model.specs.mappings.SupportSystem.{mapping_at}
use Rattle.termination_model.specs.mappings.Supports.{AreDistinct}
use Rattle.level_systems.specs.Falling.{AreFallsOf, IsReady, ShowFalls}
use Rattle.level_systems.specs.Found.{IsBlownSet}
use Rattle.level_systems.specs.Held.{IsHeld, numbers_of_call, spelled}
use Rattle.level_systems.specs.Mappings.{HasMeasures, IsMappingOf, mapping_with, support_of}
use Rattle.level_systems.specs.Pairs.{pairs_of}
use Rattle.level_systems.specs.Recalled.{HasNumbers}
use Rattle.level_systems.specs.Valued.{IsPartOf}
use Rattle.level_systems.specs.declared.answer.Answer.{Answer}
use Rattle.level_systems.specs.declared.answer.Answer.TheVariants.{Blown, Mapping, Refuted}
use Rattle.level_systems.specs.declared.component.Component.{Component}
use Rattle.level_systems.specs.declared.mapping.Mapping as mapping
use Rattle.level_systems.specs.declared.measure.Measure.{Measure}
use Rattle.level_systems.specs.declared.own_call.OwnCall.{OwnCall}
use Rattle.level_systems.specs.declared.position.Position.{Position}

-- a call of members, with a size for each argument
pub record IsSoundCall (p : Listing) (members : List ℕ) (own : OwnCall) : Type 0 where
  pub numbers : HasNumbers own
  pub ready : IsReady own
  pub caller : In own.caller.0 members
  pub callee : In own.callee.0 members
  pub head : length own.caller_sizes.list ≡ arity_in p own.caller.0
  pub call : length own.callee_sizes.list ≡ arity_in p own.callee.0

-- what the search needs of a component
pub record IsSound (p : Listing) (x : Component) : Type 0 where
  pub members : AllByRecursion (λ q. q < length p.preds) (map number_of x.members.items)
  pub apart : Apart (map number_of x.by_clauses.items)
  pub distinct : AreDistinct (map spelled x.order.items)
  pub calls : AllByRecursion (IsSoundCall p (map number_of x.members.items)) x.calls.items

-- the component c, over these size rows
pub record IsComponent (size : (ℕ → ℕ) → Tree → ℕ) (truth : (ℕ → Bool) → Tree → Bool) (expression : ℕ → Tree → List ℤ) (p : Listing) (comps : Partition) (rows : ℕ → List (List ℤ)) (c : ℕ)
    (x : Component) : Type 0 where
  pub norm : IsNorm size truth expression
  pub program : IsProgram p
  pub components : AreComponents p comps
  pub inner : c < length comps.members
  pub recursive : slice_get comps.recursive c ≡ Some true
  pub members : map number_of x.members.items ≡ members_in comps c
  pub by_clauses : map number_of x.by_clauses.items ≡ members_of (component_view expression p comps rows c)
  pub order : map spelled x.order.items ≡ positions_by (arity_in p) (map number_of x.by_clauses.items)
  pub positions : map spelled x.positions.items ≡ positions_in p comps c
  pub pairs : map numbers_of_call x.calls.items ≡ pairs_of p comps c
  pub held : AllByRecursion (IsHeld expression p rows) x.calls.items
  pub callers : AllByRecursion (λ (own : OwnCall). IsIn comps c own.caller.0) x.calls.items
  pub inside : AllByRecursion (λ (own : OwnCall). IsIn comps c own.callee.0) x.calls.items

-- a part for each member, those of the mapping that values give
pub record AreMeasuresAt (p : Listing) (x : Component) (at : List Position) (values : List ℤ) (ms : List Measure) : Type 0 where
  pub measures : HasMeasures p (map number_of x.members.items) ms
  pub parts : (cs os : List ℕ) → length cs ≡ length at → length os ≡ length x.by_clauses.items
      → take (length at) values ≡ map pos cs → take (length x.by_clauses.items) (drop (length at) values) ≡ map pos os
      → AllByRecursion (λ (m : Measure). IsPartOf (mapping_at (arity_in p) (map spelled at) (map number_of x.by_clauses.items) cs os) m.pred.0 m.part) ms

-- the mapping is there exactly where its falls are shown
abbrev pub IsMappingIf : Listing → Component → List Position → List ℤ → Option mapping.Mapping → Type 0
IsMappingIf p x at values None = (ms : List Measure) × AreMeasuresAt p x at values ms × (ShowFalls ms x.calls.items (drop (length x.by_clauses.items) (drop (length at) values)) → ⊥)
IsMappingIf p x at values (Some m) =
    AreMeasuresAt p x at values m.measures
    × ShowFalls m.measures x.calls.items (drop (length x.by_clauses.items) (drop (length at) values))
    × AreFallsOf x.calls.items (drop (length x.by_clauses.items) (drop (length at) values)) m.falls

module _ (expression : ℕ → Tree → List ℤ) (p : Listing) (comps : Partition) (rows : ℕ → List (List ℤ)) (c : ℕ) where
  -- a mapping of the component's positions that decreases
  pub record IsDecreasing (m : mapping.Mapping) : Type 0 where
    pub mapping : IsMappingOf expression p rows comps c m
    pub at : IsZeroOutside (positions_in p comps c) (mapping_with m.measures)
    pub falling : Decreases expression (component_view expression p comps rows c) (mapping_with m.measures)

  -- such a mapping whose support is part of a set, and had
  pub record IsFoundIn (s : List ℕ) (m : mapping.Mapping) : Type 0 where
    pub mapping : IsDecreasing m
    pub part : is_part (support_of (positions_in p comps c) m) s ≡ true
    pub has : HasSupportIn expression p comps rows c (support_of (positions_in p comps c) m)

  abbrev pub IsAnswer : List ℕ → Answer → Type 0
  IsAnswer s (Mapping m) = IsFoundIn s m
  IsAnswer s Refuted = IsExcluded (HasSupportIn expression p comps rows c) s
  IsAnswer s Blown = IsBlownSet expression p comps rows c s
