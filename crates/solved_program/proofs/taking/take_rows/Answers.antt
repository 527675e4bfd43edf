use Rattle.std.proofs.Common.{◌≡◌, ◌<◌, ◌+◌, ◌++◌, ◌∷◌, [], ◌∙◌, ap, arith, get_or, length, map, refl, slice_get, slice_set, Some, subst, sym, take}
use Rattle.std.proofs.lemmas.List.{length-set}
use Rattle.std.proofs.lemmas.List.Elements.{All-get_or}
use Rattle.call_components.specs.Numbers.{number_of}
use Rattle.cti_terms.specs.declared.predicates.PredId.{PredId}
use Rattle.termination_model.proofs.Lists.{map_push, taken_more, there}
use Rattle.solved_program.specs.Taken.{AreTaken}
use Rattle.solved_program.proofs.Tables.{none_taken, taken_here, whole_taken}
use Rattle.solved_program.proofs.taking.take_rows.Goals as goal

pub get-requires : goal.get-requires
get-requires c = All-get_or (λ q. q.0 < length c.args.from.now) c.args.members.now c.loop-q.q-index (record { 0 = 0 }) c.loop-q-test.true c.requires.members

pub set-requires : goal.set-requires
set-requires c =
    let lt = All-get_or (λ q. q.0 < length c.args.from.now) c.args.members.now c.loop-q.q-index (record { 0 = 0 }) c.loop-q-test.true c.requires.members in
    let each = c.loop-q.invariant.each in
    let before = c.requires.each in
    omega arith

pub loop-q-init : goal.loop-q-init
loop-q-init c = record { each = refl; taken = none_taken c.args.from.now c.args.to.now }

pub loop-q-preserved : goal.loop-q-preserved
loop-q-preserved c =
    let n = c.loop-q.q-index in
    let members = c.args.members.now in
    let a : PredId = get_or members n (record { 0 = 0 }) in
    let at = there members n (record { 0 = 0 }) c.loop-q-test.true in
    let lt = All-get_or (λ q. q.0 < length c.args.from.now) members n (record { 0 = 0 }) c.loop-q-test.true c.requires.members in
    let each = c.loop-q.invariant.each in
    let before = c.requires.each in
    let own : slice_get c.args.from.now a.0 ≡ Some c.in_ok-own.own = c.get.ensures ∙ ap Some (sym c.in_ok-own.ensures) in
    let places : map number_of (take (n + 1) members) ≡ map number_of (take n members) ++ a.0 ∷ [] = ap (map number_of) (taken_more members n a at) ∙ map_push number_of (take n members) a in
    record {
      each = ap length c.set.ensures ∙ length-set c.loop-q.to a.0 c.in_ok-own.own ∙ each;
      taken = subst (λ xs. AreTaken (map number_of (take (n + 1) members)) c.args.from.now c.args.to.now xs) (sym c.set.ensures)
          (subst (λ places. AreTaken places c.args.from.now c.args.to.now (slice_set c.loop-q.to a.0 c.in_ok-own.own)) (sym places)
          (taken_here (map number_of (take n members)) c.args.from.now c.args.to.now c.loop-q.to a.0 c.in_ok-own.own c.loop-q.invariant.taken own (omega arith)));
    }

pub returns-clause-taken : goal.returns-clause-taken
returns-clause-taken c = whole_taken number_of c.args.members.now c.loop-q.q-index c.args.from.now c.args.to.now c.loop-q.to (omega arith) c.loop-q.invariant.taken
