use Rattle.std.proofs.Common.{◌≡◌, ◌+◌, ◌-◌, ◌≤ℤ◌, ℤ, pos, true, List, All, drop, length, take, ap, sym, subst, ◌∙◌}
use Rattle.std.specs.Borrow.{Bor}
use Rattle.std.specs.List.{AllByRecursion}
use Rattle.std.proofs.lemmas.List.{length-map}
use Rattle.level_systems.specs.Falling.{HasParts}
use Rattle.level_systems.specs.Turned.{all_rows, held_of}
use Rattle.level_systems.specs.declared.measure.Measure.{Measure}
use Rattle.level_systems.specs.declared.own_call.OwnCall.{OwnCall}
use Rattle.level_systems.proofs.ValueLaws.{rest_whole}
use Rattle.level_dual.proofs.PartLaws.{all_dropped}
use Rattle.level_dual.proofs.SearchLaws.{length_drop}
use Rattle.lex_turns.specs.Testing.{AreDropsIf, EmptyFall, ShowDrops, SomeFalls, Tells}
use Rattle.lex_turns.specs.Turning.{multipliers_in}
use Rattle.lex_turns.proofs.TurnMaking.{all_among, parts_among, ready_among}
use Rattle.lex_turns.proofs.turning.made_at.Goals as goal

pub drops_of-requires-clause-parts : goal.drops_of-requires-clause-parts
drops_of-requires-clause-parts c =
    let rest = held_of c.args.round.now.rest.now in
    let measures = c.in_ok-measures.ensures.measures in
    subst (λ (ms : List Measure). AllByRecursion (HasParts ms) rest) (sym c.as_slice-2.ensures) (parts_among c.args.p.now c.args.component.now c.requires.sound rest c.requires.among c.in_ok-measures.measures measures)

pub drops_of-requires-clause-ready : goal.drops_of-requires-clause-ready
drops_of-requires-clause-ready c = ready_among c.args.p.now c.args.component.now c.requires.sound (held_of c.args.round.now.rest.now) c.requires.among

pub drops_of-requires-clause-naturals : goal.drops_of-requires-clause-naturals
drops_of-requires-clause-naturals c =
    let xs = c.as_slice.result.now in
    let a = length c.args.round.now.at.now in
    let b = c.len.result in
    let r = length c.args.round.now.rest.now in
    let ys = take (length xs - a) (drop a xs) in
    let zs = take (length ys - b) (drop b ys) in
    let h0 : All (λ z. pos 0 ≤ℤ z) xs = subst (λ (us : List ℤ). All (λ z. pos 0 ≤ℤ z) us) (sym c.as_slice.ensures) c.requires.naturals in
    let h1 : All (λ z. pos 0 ≤ℤ z) ys = subst (λ (us : List ℤ). All (λ z. pos 0 ≤ℤ z) us) (sym (rest_whole xs a)) (all_dropped a xs h0) in
    let h2 : All (λ z. pos 0 ≤ℤ z) zs = subst (λ (us : List ℤ). All (λ z. pos 0 ≤ℤ z) us) (sym (rest_whole ys b)) (all_dropped b ys h1) in
    subst (λ (us : List ℤ). All (λ z. pos 0 ≤ℤ z) us) (sym (rest_whole zs r)) (all_dropped r zs h2)

pub empty_falls-requires-clause-parts : goal.empty_falls-requires-clause-parts
empty_falls-requires-clause-parts c =
    let calls = c.args.component.now.calls.items in
    let measures = c.in_ok-measures.ensures.measures in
    subst (λ (ms : List Measure). AllByRecursion (HasParts ms) calls) (sym c.as_slice-4.ensures) (parts_among c.args.p.now c.args.component.now c.requires.sound calls (all_among calls) c.in_ok-measures.measures measures)

pub empty_falls-requires-clause-ready : goal.empty_falls-requires-clause-ready
empty_falls-requires-clause-ready c =
    let calls = c.args.component.now.calls.items in
    ready_among c.args.p.now c.args.component.now c.requires.sound calls (all_among calls)

pub returns : goal.returns
returns c =
    let x = c.args.component.now in
    let ms = c.in_ok-measures.measures in
    let falls = c.in-Some.falls in
    let values = c.args.values.now in
    let rest = held_of c.args.round.now.rest.now in
    let made = c.from_vec-values.result in
    let xs = c.as_slice.result.now in
    let a = length c.args.round.now.at.now in
    let b = c.len.result in
    let r = length c.args.round.now.rest.now in
    let ys = take (length xs - a) (drop a xs) in
    let zs = take (length ys - b) (drop b ys) in
    let vals = take (length zs - r) (drop r zs) in
    let count : length rest ≡ r = length-map c.args.round.now.rest.now (λ (y : Bor OwnCall). y.now) in
    let by = x.by_clauses in
    let len : b ≡ length x.by_clauses.items = c.len.ensures ∙ by.ok.0 in
    let whole : vals ≡ multipliers_in a (length x.by_clauses.items) (length rest) values =
    rest_whole zs r ∙ ap (drop r) (rest_whole ys b) ∙ ap (λ (us : List ℤ). drop r (drop b us)) (rest_whole xs a) ∙ ap (λ (us : List ℤ). drop r (drop b (drop a us))) c.as_slice.ensures
    ∙ (λ i. drop (sym count i) (drop (len i) (drop a values))) in
    let copied : made ≡ vals = c.from_vec-values.ensures ∙ c.in_ok-from_slice.ensures.items in
    let same : made ≡ multipliers_in a (length x.by_clauses.items) (length rest) values = copied ∙ whole in
    let found = subst (AreDropsIf c.as_slice-2.result.now rest vals) c.in-Some.is c.in_ok-falls.ensures in
    let shown : ShowDrops ms rest made falls =
    subst (λ (us : List ℤ). ShowDrops ms rest us falls) (sym copied) (subst (λ (ns : List Measure). ShowDrops ns rest vals falls) c.as_slice-2.ensures found.0) in
    let empty = subst (Tells (c.args.round.now.first ≡ true → EmptyFall c.as_slice-4.result.now x.calls.items)) c.if-not-branch.false c.in_ok-empty_falls.ensures in
    let long : length values ≡ a + (length x.by_clauses.items + (length rest + all_rows rest)) = c.requires.long ∙ (λ i. a + (length x.by_clauses.items + (sym count i + all_rows rest))) in
    let after_a = length_drop a values (length x.by_clauses.items + (length rest + all_rows rest)) long in
    let after_b = length_drop (length x.by_clauses.items) (drop a values) (length rest + all_rows rest) after_a in (
      c.in_ok-measures.ensures,
      record {
        drops = shown;
        some = subst SomeFalls c.as_slice-3.ensures (c.some_fall.ensures.0 c.if-not-some_fall.false);
        empty = λ first. subst (λ (ns : List Measure). EmptyFall ns x.calls.items) c.as_slice-4.ensures (empty first);
        naturals = subst (λ (us : List ℤ). All (λ z. pos 0 ≤ℤ z) us) (sym same)
            (all_dropped (length rest) (drop (length x.by_clauses.items) (drop a values)) (all_dropped (length x.by_clauses.items) (drop a values) (all_dropped a values c.requires.naturals)));
        long = ap length same ∙ length_drop (length rest) (drop (length x.by_clauses.items) (drop a values)) (all_rows rest) after_b;
      },
      same,
    )
