use Rattle.std.proofs.Common.{◌-◌, ◌≤ℤ◌, ℤ, pos, List, All, drop, length, map, take, sym, subst}
use Rattle.std.specs.List.{AllByRecursion}
use Rattle.call_components.specs.Numbers.{number_of}
use Rattle.call_components.proofs.Lists.{all_map}
use Rattle.level_systems.specs.Falling.{HasParts, IsReady}
use Rattle.level_systems.specs.Searched.{IsSoundCall}
use Rattle.level_systems.specs.declared.measure.Measure.{Measure}
use Rattle.level_dual.proofs.PartLaws.{all_dropped}
use Rattle.level_dual.proofs.SupportLaws.{has_parts}
use Rattle.level_systems.proofs.ValueLaws.{rest_whole}
use Rattle.level_dual.proofs.searching.mapping_at.Goals as goal

pub falls_of-requires-clause-parts : goal.falls_of-requires-clause-parts
falls_of-requires-clause-parts c =
    let measures = c.in_ok-measures.ensures.measures in
    subst (λ (ms : List Measure). AllByRecursion (HasParts ms) c.as_slice-2.result.now) (sym c.as_slice-3.ensures)
    (subst (AllByRecursion (HasParts c.in_ok-measures.measures)) (sym c.as_slice-2.ensures.value)
    (all_map (IsSoundCall c.args.p.now (map number_of c.args.component.now.members.items)) (HasParts c.in_ok-measures.measures)
    (has_parts c.args.p.now (map number_of c.args.component.now.members.items) c.in_ok-measures.measures measures) c.args.component.now.calls.items c.requires.sound.calls))

pub falls_of-requires-clause-ready : goal.falls_of-requires-clause-ready
falls_of-requires-clause-ready c =
    subst (AllByRecursion IsReady) (sym c.as_slice-2.ensures.value)
    (all_map (IsSoundCall c.args.p.now (map number_of c.args.component.now.members.items)) IsReady (λ own h. h.ready) c.args.component.now.calls.items c.requires.sound.calls)

pub falls_of-requires-clause-naturals : goal.falls_of-requires-clause-naturals
falls_of-requires-clause-naturals c =
    let xs = c.as_slice.result.now in
    let first = rest_whole xs (length c.args.at.now) in
    let values : All (λ x. pos 0 ≤ℤ x) (drop (length c.args.at.now) xs) = all_dropped (length c.args.at.now) xs (subst (λ (ys : List ℤ). All (λ x. pos 0 ≤ℤ x) ys) (sym c.as_slice.ensures) c.requires.naturals) in
    let ys = take (length xs - length c.args.at.now) (drop (length c.args.at.now) xs) in
    subst (λ (zs : List ℤ). All (λ x. pos 0 ≤ℤ x) zs) (sym (rest_whole ys c.len.result)) (all_dropped c.len.result ys (subst (λ (zs : List ℤ). All (λ x. pos 0 ≤ℤ x) zs) (sym first) values))
