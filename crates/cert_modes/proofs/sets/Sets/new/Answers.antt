use Rattle.std.proofs.Common.{◌∙◌, ℕ, List, sym, subst}
use Rattle.bool_diagrams.proofs.CallerLemmas.{keeps_twice}
use Rattle.bool_diagrams.specs.Cubes.{covered}
use Rattle.bool_diagrams.specs.declared.cube.Cell.{Cell}
use Rattle.bool_diagrams.specs.declared.diagram.Diagram.{Diagram}
use Rattle.cert_structure.specs.Shape.{items_of}
use Rattle.cert_modes.specs.Sets.{AllSpelled, AreMappingSets, HaveRows, upward}
use Rattle.cert_modes.proofs.SpellLaws.{all_later, allowed_is, are_sets, family_is, have_later, mapping_count, mapping_is, mapping_sets, mappings_later}
use Rattle.cert_modes.proofs.sets.Sets.new.Goals as goal

pub allowed_sets-requires : goal.allowed_sets-requires
allowed_sets-requires c =
    let p = c.args.p.now in
    let now = c.precondition_sets.new.table in
    let sets = c.in_ok-preconditions.preconditions in
    let spelled = subst (λ (cs : List (List (List (List Cell)))). AllSpelled p now cs sets) c.as_slice-2.ensures c.in_ok-preconditions.ensures.rows in
    record { sets = subst (AreMappingSets p now) (sym c.as_slice-3.ensures) (mapping_sets p now c.args.parts.now.preconditions sets spelled c.requires.preconditions) }

pub returns-clause-ready : goal.returns-clause-ready
returns-clause-ready c =
    let p = c.args.p.now in
    let middle = c.precondition_sets.new.table in
    let last = c.allowed_sets.new.table in
    let grounds = c.in_ok-grounds.grounds.items in
    let sets = c.in_ok-preconditions.preconditions in
    let spelled = subst (λ (cs : List (List (List (List Cell)))). AllSpelled p middle cs sets) c.as_slice-2.ensures c.in_ok-preconditions.ensures.rows in
    let own = λ (q : ℕ). covered (items_of c.as_slice.result.now q) in
    record {
      grounds = are_sets p last own grounds (have_later c.ground_sets.new.table last (keeps_twice _ _ _ c.precondition_sets.ensures.keeps c.allowed_sets.ensures.keeps) p own grounds c.in_ok-grounds.ensures.rows);
      allowed = are_sets p last (λ q. upward middle (items_of c.as_slice-3.result.now q)) c.in_ok-allowed.allowed.items c.in_ok-allowed.ensures.rows;
      preconditions = mappings_later middle last c.allowed_sets.ensures.keeps p sets (mapping_sets p middle c.args.parts.now.preconditions sets spelled c.requires.preconditions);
      none = c.truth-none.ensures.known;
      no_rows = c.truth-none.ensures.rows;
    }

pub returns-clause-spell : goal.returns-clause-spell
returns-clause-spell c =
    let p = c.args.p.now in
    let middle = c.precondition_sets.new.table in
    let last = c.allowed_sets.new.table in
    let grounds = c.in_ok-grounds.grounds.items in
    let sets = c.in_ok-preconditions.preconditions in
    let unions = c.in_ok-allowed.allowed.items in
    let cubes = c.args.parts.now.preconditions in
    let spelled = subst (λ (cs : List (List (List (List Cell)))). AllSpelled p middle cs sets) c.as_slice-2.ensures c.in_ok-preconditions.ensures.rows in
    let later = all_later middle last c.allowed_sets.ensures.keeps p cubes sets spelled in
    let own = λ (q : ℕ). covered (items_of c.args.parts.now.grounds q) in
    let of_grounds = subst (λ (cs : List (List (List Cell))). HaveRows p c.ground_sets.new.table (λ q. covered (items_of cs q)) grounds) c.as_slice.ensures c.in_ok-grounds.ensures.rows in
    let of_unions = subst (λ (xs : List (List Diagram)). HaveRows p last (λ q. upward middle (items_of xs q)) unions) c.as_slice-3.ensures c.in_ok-allowed.ensures.rows in
    record {
      grounds = λ i q row. family_is p last own grounds (have_later c.ground_sets.new.table last (keeps_twice _ _ _ c.precondition_sets.ensures.keeps c.allowed_sets.ensures.keeps) p own grounds of_grounds) q row i;
      allowed = λ i q row. (family_is p last (λ r. upward middle (items_of sets r)) unions of_unions q row ∙ allowed_is p middle cubes sets spelled c.requires.preconditions q row) i;
      preconditions = λ m i q row. mapping_is p last cubes sets later c.requires.preconditions m q row i;
      each = mapping_count p last cubes sets later c.requires.preconditions;
    }
