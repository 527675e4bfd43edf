use Rattle.std.proofs.Common.{◌≡◌, ◌≤◌, ◌<◌, ◌+◌, ◌-◌, ◌++◌, ◌∷◌, [], ◌∙◌, ℕ, ap, arith, get_or, length, map, refl, slice_get, slice_set, Some, subst, sym, take}
use Rattle.std.proofs.lemmas.List.{length-set}
use Rattle.std.proofs.lemmas.List.Elements.{All-get_or}
use Rattle.termination_model.proofs.Lists.{map_push, taken_more, there}
use Rattle.solved_program.specs.Taken.{AreTaken, place_of}
use Rattle.solved_program.proofs.Tables.{none_taken, taken_here, whole_taken}
use Rattle.solved_program.proofs.taking.take_proofs.Goals as goal

pub set-requires : goal.set-requires
set-requires c =
    let lt = All-get_or (λ k. (1 ≤ k) × (k ≤ length c.args.from.now)) c.args.own.now c.loop-k.k-index 0 c.loop-k-test.true c.requires.own in
    let first = lt.0 in
    let last = lt.1 in
    let each = c.loop-k.invariant.each in
    let before = c.requires.each in
    omega arith

pub loop-k-init : goal.loop-k-init
loop-k-init c = record { each = refl; taken = none_taken c.args.from.now c.args.to.now }

pub loop-k-preserved : goal.loop-k-preserved
loop-k-preserved c =
    let n = c.loop-k.k-index in
    let own = c.args.own.now in
    let k : ℕ = get_or own n 0 in
    let at = there own n 0 c.loop-k-test.true in
    let lt = All-get_or (λ k. (1 ≤ k) × (k ≤ length c.args.from.now)) own n 0 c.loop-k-test.true c.requires.own in
    let first = lt.0 in
    let last = lt.1 in
    let each = c.loop-k.invariant.each in
    let before = c.requires.each in
    let lt' : k - 1 < length c.args.from.now = omega arith in
    let by : slice_get c.args.from.now (k - 1) ≡ Some c.in_ok-by.by = there c.args.from.now (k - 1) c.index-from-place.result lt' ∙ ap Some (sym (c.in_ok-by.ensures ∙ c.as_slice.ensures ∙ c.index-from-place.is)) in
    let places : map place_of (take (n + 1) own) ≡ map place_of (take n own) ++ (k - 1) ∷ [] = ap (map place_of) (taken_more own n k at) ∙ map_push place_of (take n own) k in
    record {
      each = ap length c.set.ensures ∙ length-set c.loop-k.to (k - 1) c.in_ok-by.by ∙ each;
      taken = subst (λ xs. AreTaken (map place_of (take (n + 1) own)) c.args.from.now c.args.to.now xs) (sym c.set.ensures)
          (subst (λ places. AreTaken places c.args.from.now c.args.to.now (slice_set c.loop-k.to (k - 1) c.in_ok-by.by)) (sym places)
          (taken_here (map place_of (take n own)) c.args.from.now c.args.to.now c.loop-k.to (k - 1) c.in_ok-by.by c.loop-k.invariant.taken by (omega arith)));
    }

pub returns-clause-taken : goal.returns-clause-taken
returns-clause-taken c = whole_taken place_of c.args.own.now c.loop-k.k-index c.args.from.now c.args.to.now c.loop-k.to (omega arith) c.loop-k.invariant.taken
