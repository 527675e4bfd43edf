use Rattle.std.proofs.Common.{◌≡◌, ◌++◌, [], ◌∷◌, sym, ◌∙◌, arith}
use Rattle.std.proofs.lemmas.Bool.{and_parts}
use Rattle.cti_terms.specs.Spell.{tree_of, trees_of}
use Rattle.cti_terms.specs.Tree.{is_below}
use Rattle.cti_terms.proofs.Spelled.{trees_of_left}
use Rattle.term_size.proofs.CountLaws.{Parts, parts, names-le, all_names-le, occurrences-le, all_occurrences-le}
use Rattle.term_size.proofs.counting.Counts.+counting.Goals as goal

pub add-add_all-requires : goal.add-add_all-requires
add-add_all-requires t c =
    let split : c.in-Fun.args.items ≡ c.in-Some.others.now ++ c.in-Some.last.now ∷ [] = sym c.deref.ensures.value ∙ c.in-Some.ensures.cases.0 in
    let p : Parts (tree_of c.loop-rest.rest.now) (tree_of c.in-Some.last.now) (trees_of c.in-Some.others.now) = parts c.loop-rest.rest.now c.in-Fun.field-0 c.in-Fun.args c.in-Some.last.now c.in-Some.others.now c.in-Fun.is split in
    let n = p.nodes in
    let i = c.loop-rest.invariant in
    (omega arith, ((p.below 48 i.below).0, record { names = omega (arith, n, i.room.names); variables = λ x lt. omega (arith, n, i.room.variables x lt) }))

pub add-loop-rest-smaller : goal.add-loop-rest-smaller
add-loop-rest-smaller t c =
    let split : c.in-Fun.args.items ≡ c.in-Some.others.now ++ c.in-Some.last.now ∷ [] = sym c.deref.ensures.value ∙ c.in-Some.ensures.cases.0 in
    let p : Parts (tree_of c.loop-rest.rest.now) (tree_of c.in-Some.last.now) (trees_of c.in-Some.others.now) = parts c.loop-rest.rest.now c.in-Fun.field-0 c.in-Fun.args c.in-Some.last.now c.in-Some.others.now c.in-Fun.is split in
    let n = p.nodes in
    omega (arith, n)

pub add-loop-rest-preserved : goal.add-loop-rest-preserved
add-loop-rest-preserved t c =
    let split : c.in-Fun.args.items ≡ c.in-Some.others.now ++ c.in-Some.last.now ∷ [] = sym c.deref.ensures.value ∙ c.in-Some.ensures.cases.0 in
    let p : Parts (tree_of c.loop-rest.rest.now) (tree_of c.in-Some.last.now) (trees_of c.in-Some.others.now) = parts c.loop-rest.rest.now c.in-Fun.field-0 c.in-Fun.args c.in-Some.last.now c.in-Some.others.now c.in-Fun.is split in
    let n = p.nodes in
    let i = c.loop-rest.invariant in
    let a = c.add_all.ensures in
    record {
      below = (p.below 48 i.below).1;
      smaller = omega (arith, n, i.smaller);
      room = record {
        names = omega (arith, n, i.room.names, a.names, all_names-le (trees_of c.in-Some.others.now));
        variables = λ x lt. omega (arith, n, i.room.variables x lt, a.variables x lt, all_occurrences-le x (trees_of c.in-Some.others.now));
      };
      names = omega (arith, p.names, i.names, a.names);
      variables = λ x lt. omega (arith, p.variables x, i.variables x lt, a.variables x lt);
    }

pub add_all-loop-term-preserved : goal.add_all-loop-term-preserved
add_all-loop-term-preserved t c =
    let left = trees_of_left c.args.terms.now c.loop-term.term-index c.term-item.result c.loop-term-test.true c.term-item.is in
    let i = c.loop-term.invariant in
    let a = c.add.ensures in
    let below = rw left at i.below in
    let room = rw left at i.room in
    let smaller = rw left at i.smaller in
    let names = rw left at i.names in
    let variables = rw left at i.variables in
    record {
      below = (and_parts (is_below 48 (tree_of c.term-item.result)) _ below).1;
      smaller = omega (arith, smaller);
      room = record {
        names = omega (arith, room.names, a.names, names-le (tree_of c.term-item.result));
        variables = λ x lt. omega (arith, room.variables x lt, a.variables x lt, occurrences-le x (tree_of c.term-item.result));
      };
      names = omega (arith, names, a.names);
      variables = λ x lt. omega (arith, variables x lt, a.variables x lt);
    }
