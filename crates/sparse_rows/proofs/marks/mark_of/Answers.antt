use Rattle.std.proofs.Common.{rules, ◌+◌, refl}
use Rattle.std.specs.Int.{w128}
use Rattle.std.specs.Prelude.{FitsSigned}
use Rattle.std.proofs.lemmas.Int.{to_z-of_z}
use Rattle.sparse_rows.specs.Sparse.{spread}
use Rattle.sparse_rows.proofs.MarkLemmas.{marked_next}
use Rattle.sparse_rows.proofs.WalkLemmas.{stands_here, stands_next}
use Rattle.sparse_rows.proofs.marks.mark_of.Goals as goal

pub loop-j-init : goal.loop-j-init
loop-j-init c = record { mark = refl; place = c.after_first-place.ensures }

pub loop-j-preserved : goal.loop-j-preserved
loop-j-preserved c =
    let f : FitsSigned w128 c.next-number.result.0 = search rules in
    let parts = c.args.parts.now in
    let tail = c.args.tail in
    let here = stands_here parts tail (c.loop-j._j + 1) c.loop-j.place c.next-number.result.0 c.loop-j.invariant.place c.next-number.ensures.number in
    let more = simp to_z-of_z at c.mixed-mark.ensures in
    record {
      mark = marked_next (spread parts tail) c.loop-j._j c.loop-j.mark c.mixed-mark.result c.next-number.result.0 c.loop-j.invariant.mark here more;
      place = stands_next parts tail (c.loop-j._j + 1) c.loop-j.place c.next-number.result.1 c.loop-j.invariant.place c.next-number.ensures.rest;
    }
