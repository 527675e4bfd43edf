use Rattle.std.proofs.Common.{◌==◌, map, Some, None, sym, ap, ◌∙◌}
use Rattle.prolog_terms.specs.Terms.{tree_of}
use Rattle.prolog_operators.specs.Meanings.{table_of}
use Rattle.prolog_operators.specs.Table.{Table}
use Rattle.prolog_reader.specs.Directive.{effect_of, listed}
use Rattle.prolog_reader.specs.Knowing.{words_view, done_effect}
use Rattle.prolog_reader.proofs.DirectiveLemmas.{listed_atom, listed_other, listed_cell, cell_found, cell_other, effect_in_front, nil_effect, no_items, some_items, other_length, not_true, not_false}
use Rattle.prolog_reader.proofs.directives.set_listed.Goals as goal

pub cells-preserved : goal.cells-preserved
cells-preserved c =
    let cell = cell_found (words_view c.args.words.now) (tree_of c.cells.rest.now) c.in-Some.found.0.0 (tree_of c.in-Some-two.found.0.now) (tree_of c.in-Some-two.found.1.now) (map tree_of c.in-Some.found.1.now) (Some c.in-Some-operator.operator.0)
    c.in-Some.ensures c.in-Some-two.ensures.found (not_false _ (sym c.ne.ensures ∙ c.if-ne.false)) c.in-Some-operator.ensures in
    ap (λ (t : Table). effect_of (words_view c.args.words.now) t (Some c.args.priority) (Some c.args.kind) (listed (words_view c.args.words.now) (tree_of c.in-Some-two.found.1.now))) c.in_ok-put-in-Some-operator.ensures.ok
    ∙ sym (effect_in_front (words_view c.args.words.now) (table_of c.cells.ops) c.args.priority c.args.kind c.in-Some-operator.operator.0 (listed (words_view c.args.words.now) (tree_of c.in-Some-two.found.1.now)))
    ∙ sym (ap (effect_of (words_view c.args.words.now) (table_of c.cells.ops) (Some c.args.priority) (Some c.args.kind)) cell) ∙ c.cells.invariant

pub cells-smaller : goal.cells-smaller
cells-smaller c = (listed_cell (words_view c.args.words.now) (tree_of c.cells.rest.now) c.in-Some.found.0.0 (tree_of c.in-Some-two.found.0.now) (tree_of c.in-Some-two.found.1.now) (map tree_of c.in-Some.found.1.now) c.in-Some.ensures c.in-Some-two.ensures.found).1

pub returns-then-is_empty : goal.returns-then-is_empty
returns-then-is_empty c =
    let atom = listed_atom (words_view c.args.words.now) (tree_of c.cells.rest.now) c.in-Some.found.0.0 (map tree_of c.in-Some.found.1.now) c.in-Some.ensures (no_items tree_of c.in-Some.found.1.now c.if-is_empty.ensures) in
    sym c.cells.invariant ∙ ap (effect_of (words_view c.args.words.now) (table_of c.cells.ops) (Some c.args.priority) (Some c.args.kind)) atom ∙ nil_effect (words_view c.args.words.now) (table_of c.cells.ops) c.args.priority c.args.kind (c.in-Some.found.0.0 == c.args.words.now.known.nil.0)
    ∙ ap (λ b. done_effect b (table_of c.cells.ops)) (sym c.eq.ensures)

pub returns-in-None-two : goal.returns-in-None-two
returns-in-None-two c =
    let other = listed_other (words_view c.args.words.now) (tree_of c.cells.rest.now) c.in-Some.found.0.0 (map tree_of c.in-Some.found.1.now) c.in-Some.ensures (some_items tree_of c.in-Some.found.1.now (sym c.is_empty.ensures ∙ c.if-is_empty.false)) (other_length tree_of c.in-Some.found.1.now 2 c.in-None-two.ensures.other) in
    sym c.cells.invariant ∙ ap (effect_of (words_view c.args.words.now) (table_of c.cells.ops) (Some c.args.priority) (Some c.args.kind)) other

pub returns-then-ne : goal.returns-then-ne
returns-then-ne c =
    let other = cell_other (words_view c.args.words.now) (tree_of c.cells.rest.now) c.in-Some.found.0.0 (tree_of c.in-Some-two.found.0.now) (tree_of c.in-Some-two.found.1.now) (map tree_of c.in-Some.found.1.now) c.in-Some.ensures c.in-Some-two.ensures.found
    (not_true (c.in-Some.found.0.0 == c.args.words.now.known.cell.0) (sym c.ne.ensures ∙ c.if-ne.true)) in
    sym c.cells.invariant ∙ ap (effect_of (words_view c.args.words.now) (table_of c.cells.ops) (Some c.args.priority) (Some c.args.kind)) other

pub returns-in-None-operator : goal.returns-in-None-operator
returns-in-None-operator c =
    let cell = cell_found (words_view c.args.words.now) (tree_of c.cells.rest.now) c.in-Some.found.0.0 (tree_of c.in-Some-two.found.0.now) (tree_of c.in-Some-two.found.1.now) (map tree_of c.in-Some.found.1.now) None
    c.in-Some.ensures c.in-Some-two.ensures.found (not_false _ (sym c.ne.ensures ∙ c.if-ne.false)) c.in-None-operator.ensures in
    sym c.cells.invariant ∙ ap (effect_of (words_view c.args.words.now) (table_of c.cells.ops) (Some c.args.priority) (Some c.args.kind)) cell
