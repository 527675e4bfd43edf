use Rattle.std.proofs.Common.{◌∙◌, map, remove, sym, ap, subst}
use Rattle.sparse_rows.specs.Marks.{AreUp, mark_of}
use Rattle.sparse_rows.proofs.MarkLemmas.{removed-map, up_without}
use Rattle.sparse_rows.proofs.lines.Lines.remove.Goals as goal

pub invariant_of-self : goal.invariant_of-self
invariant_of-self c =
    let f = mark_of c.self.inside.last in
    let marks = c.remove-2.ensures.items ∙ ap (λ ys. remove ys c.args.k) c.self.invariant.0 ∙ removed-map f c.self.inside.items.items c.args.k ∙ sym (ap (map f) c.remove.ensures.items) in
    let flags = c.self.inside.flags.items in
    let up = subst (AreUp flags) (sym c.remove-2.ensures.items) (up_without flags c.self.inside.marks.items c.args.k c.self.invariant.1) in
    (marks, up)
