use Rattle.std.proofs.Common.{◌≡◌, length, drop, ap, ◌∙◌, arith}
use Rattle.std.proofs.lemmas.List.{length-replicate, take_at}
use Rattle.solved_program.proofs.grounds.resolve_all.Goals as goal

pub resolve_each-requires-clause-marks : goal.resolve_each-requires-clause-marks
resolve_each-requires-clause-marks g c = ap length c.in_ok-marks.ensures ∙ length-replicate c.clauses.result _ ∙ c.clauses.ensures.count

pub resolve_each-requires-clause-sets : goal.resolve_each-requires-clause-sets
resolve_each-requires-clause-sets g c = c.deref_mut.ensures.value ∙ c.in_ok-sets.ensures.items

pub resolve_each-requires-clause-stayed : goal.resolve_each-requires-clause-stayed
resolve_each-requires-clause-stayed g c = omega (arith, ap length c.deref_mut-2.ensures.value, c.in_ok-stayed.ensures.len, c.in_ok-stayed.stayed.ok.0, c.preds.ensures.count)

pub returns-clause-solved : goal.returns-clause-solved
returns-clause-solved g c =
    let new = c.resolve_each.new.sets in
    let a = c.in_ok-resolve_each.ensures in
    let same : length new ≡ c.in_ok-sets.sets.len = omega (arith, a.solved.sets_are.each, c.requires.sources.carried.sets_are.each, c.in_ok-sets.ensures.len, c.in_ok-sets.sets.ok.0) in
    rw (take_at new (drop (length new) c.in_ok-sets.sets.items) c.in_ok-sets.sets.len same) a.solved

pub returns-clause-kept : goal.returns-clause-kept
returns-clause-kept g c =
    let new = c.resolve_each.new.sets in
    let a = c.in_ok-resolve_each.ensures in
    let same : length new ≡ c.in_ok-sets.sets.len = omega (arith, a.solved.sets_are.each, c.requires.sources.carried.sets_are.each, c.in_ok-sets.ensures.len, c.in_ok-sets.sets.ok.0) in
    rw (take_at new (drop (length new) c.in_ok-sets.sets.items) c.in_ok-sets.sets.len same) a.kept
