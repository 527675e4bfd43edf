use Rattle.std.proofs.Common.{rules, ◌<◌, ◌-◌, ◌∷◌, ◌++◌, length, get_or, arith, refl, sym, ap, ◌∙◌}
use Rattle.std.specs.Int.{w128}
use Rattle.std.specs.Prelude.{FitsSigned}
use Rattle.std.proofs.lemmas.Int.{to_z-of_z}
use Rattle.linear_rows.specs.Solving.{zeros}
use Rattle.sparse_rows.specs.Sparse.{rest_at}
use Rattle.sparse_rows.proofs.SparseLemmas.{nothing, part_at, walk_zeros, walk_number, index_within}
use Rattle.sparse_rows.proofs.part.walk.Goals as goal

pub returns-then-over-place : goal.returns-then-over-place
returns-then-over-place c = walk_zeros c.args.parts.now c.args.tail c.args.over c.args.place (c.args.place.before - c.args.over - 1) (omega arith) refl

pub offset_bounds-parts-place : goal.offset_bounds-parts-place
offset_bounds-parts-place c =
    let h : c.args.place.index < length c.args.parts.now = index_within c.args.parts.now c.args.tail c.args.over c.args.place (omega arith) c.requires.more in
    search rules

pub bounds-parts-place : goal.bounds-parts-place
bounds-parts-place c = index_within c.args.parts.now c.args.tail c.args.over c.args.place (omega arith) c.requires.more

pub overflow_add-place : goal.overflow_add-place
overflow_add-place c =
    let h : c.args.place.index < length c.args.parts.now = index_within c.args.parts.now c.args.tail c.args.over c.args.place (omega arith) c.requires.more in
    search rules

pub returns : goal.returns
returns c =
    let h : c.args.place.index < length c.args.parts.now = index_within c.args.parts.now c.args.tail c.args.over c.args.place (omega arith) c.requires.more in
    let f : FitsSigned w128 (get_or c.args.parts.now c.args.place.index nothing).number = search rules in
    let z = c.requires.zeros in
    walk_number c.args.parts.now c.args.tail c.args.over c.args.place c.place_at.result (get_or c.args.parts.now c.args.place.index nothing) (omega arith) h (part_at c.args.parts.now c.args.place.index h) c.place_at.ensures.index c.place_at.ensures.before
    ∙ ap (λ n. zeros c.args.over ++ n ∷ rest_at c.args.parts.now c.args.tail c.place_at.result) (sym (to_z-of_z w128 (get_or c.args.parts.now c.args.place.index nothing).number f))
