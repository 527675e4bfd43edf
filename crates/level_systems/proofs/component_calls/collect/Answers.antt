use Rattle.std.proofs.Common.{◌≡◌, ◌<◌, ℕ, List, [], length, map, slice_get, IfSome, Some, ap, sym, subst, ◌∙◌}
use Rattle.std.specs.List.{AllByRecursion}
use Rattle.call_components.specs.Numbers.{number_of}
use Rattle.call_components.specs.Partition.{IsIn}
use Rattle.call_components.proofs.Lists.{all_map}
use Rattle.cti_terms.specs.declared.predicates.PredId.{PredId}
use Rattle.termination_model.specs.mappings.ComponentViews.{members_in}
use Rattle.termination_model.specs.mappings.Ready.{Apart, arity_in, positions_by}
use Rattle.termination_model.specs.sizes.Sizes.{rows_of}
use Rattle.termination_model.specs.mappings.Supports.{AreDistinct}
use Rattle.termination_model.proofs.Lists.{indexed}
use Rattle.termination_model.proofs.Readiness.{positions_are_distinct}
use Rattle.level_systems.specs.Collected.{IsHeldIn}
use Rattle.level_systems.specs.Held.{IsHeld, numbers_of_call, spelled}
use Rattle.level_systems.specs.Pairs.{pairs_of}
use Rattle.level_systems.specs.Searched.{IsSoundCall}
use Rattle.level_systems.specs.declared.own_call.OwnCall.{OwnCall}
use Rattle.level_systems.proofs.MemberLists.{members_are}
use Rattle.level_systems.proofs.SoundLaws.{are_below, clause_members_below, members_apart, sound_call}
use Rattle.level_systems.proofs.component_calls.collect.Goals as goal

pub positions_of-requires : goal.positions_of-requires
positions_of-requires g c =
    subst (λ (ps : List PredId). AllByRecursion (λ (q : ℕ). q < length c.args.own.now.program.now.preds) (map number_of ps)) (sym c.as_slice.ensures.value)
    (subst (AllByRecursion (λ (q : ℕ). q < length c.args.own.now.program.now.preds)) (sym c.in_ok-by_clauses.ensures) (clause_members_below c.args.own.now.program.now c.args.own.now.comps.now c.args.own.now.number c.preds.ensures.sound))

pub returns-clause-sound : goal.returns-clause-sound
returns-clause-sound g c =
    let p = c.args.own.now.program.now in
    let comps = c.args.own.now.comps.now in
    let number = c.args.own.now.number in
    let e = g.N.Norm.expression c.args.norm.now in
    let rows = rows_of c.args.sizes.now.rows in
    let members = map number_of c.in_ok-members.members.items in
    let mine = map number_of c.in_ok-by_clauses.by_clauses.items in
    let at : slice_get comps.members number ≡ Some members = c.members.ensures ∙ ap (λ (ps : List PredId). Some (map number_of ps)) (sym c.in_ok-members.ensures.items) in
    let same : members_in comps number ≡ members = indexed comps.members number members [] at in
    let apart : Apart mine = subst Apart (sym c.in_ok-by_clauses.ensures) (members_apart comps number [] p.clauses tt) in
    let order : map spelled c.in_ok-order.order.items ≡ positions_by (arity_in p) mine = c.in_ok-order.ensures ∙ ap (λ (ps : List PredId). positions_by (arity_in p) (map number_of ps)) c.as_slice.ensures.value in
    let held : AllByRecursion (IsHeldIn e p rows comps number) c.in-Some.calls.items = subst (λ o. IfSome o (λ calls. AllByRecursion (IsHeldIn e p rows comps number) calls.items)) c.in-Some.is c.in_ok-calls.ensures.held in
    record {
      members = are_below p comps number members c.requires.clauses.components at;
      apart = apart;
      distinct = subst AreDistinct (sym order) (positions_are_distinct (arity_in p) mine apart);
      calls = subst (λ (ms : List ℕ). AllByRecursion (IsSoundCall p ms) c.in-Some.calls.items) same
          (all_map (IsHeldIn e p rows comps number) (IsSoundCall p (members_in comps number)) (sound_call e p c.preds.ensures.sound comps c.requires.clauses.components rows number) c.in-Some.calls.items held);
    }

pub returns-clause-component : goal.returns-clause-component
returns-clause-component g c =
    let p = c.args.own.now.program.now in
    let comps = c.args.own.now.comps.now in
    let number = c.args.own.now.number in
    let e = g.N.Norm.expression c.args.norm.now in
    let rows = rows_of c.args.sizes.now.rows in
    let members = map number_of c.in_ok-members.members.items in
    let at : slice_get comps.members number ≡ Some members = c.members.ensures ∙ ap (λ (ps : List PredId). Some (map number_of ps)) (sym c.in_ok-members.ensures.items) in
    let calls = c.in-Some.calls.items in
    let held : AllByRecursion (IsHeldIn e p rows comps number) calls = subst (λ o. IfSome o (λ os. AllByRecursion (IsHeldIn e p rows comps number) os.items)) c.in-Some.is c.in_ok-calls.ensures.held in
    record {
      norm = g.met.N.Norm.laws c.args.norm.now;
      program = c.preds.ensures.sound;
      components = c.requires.clauses.components;
      inner = c.requires.clauses.inner;
      recursive = c.requires.recursive;
      members = sym (indexed comps.members number members [] at);
      by_clauses = c.in_ok-by_clauses.ensures ∙ members_are e p comps rows number;
      order = c.in_ok-order.ensures ∙ ap (λ (ps : List PredId). positions_by (arity_in p) (map number_of ps)) c.as_slice.ensures.value;
      positions = c.requires.positions;
      pairs = subst (λ o. IfSome o (λ os. map numbers_of_call os.items ≡ pairs_of p comps number)) c.in-Some.is c.in_ok-calls.ensures.pairs;
      held = all_map (IsHeldIn e p rows comps number) (IsHeld e p rows) (λ own h. h.0) calls held;
      callers = all_map (IsHeldIn e p rows comps number) (λ (own : OwnCall). IsIn comps number own.caller.0) (λ own h. h.1) calls held;
      inside = all_map (IsHeldIn e p rows comps number) (λ (own : OwnCall). IsIn comps number own.callee.0) (λ own h. h.2) calls held;
    }
