use Rattle.std.proofs.Common.{◌∙◌, ◌∷◌, ◌++◌, [], map, sym, ap, subst}
use Rattle.std.proofs.lemmas.List.{map-append}
use Rattle.sparse_rows.specs.Marks.{AreUp, mark_of}
use Rattle.sparse_rows.proofs.MarkLemmas.{still_up, up_with}
use Rattle.sparse_rows.proofs.lines.Lines.push.Goals as goal

pub invariant_of-self-2 : goal.invariant_of-self-2
invariant_of-self-2 c =
    let rows = c.self.inside.items.items in
    let marks = c.self.inside.marks.items in
    let flags = c.raise.new.flags.items in
    let mark = c.mark-mark.result in
    let f = mark_of c.self.inside.last in
    let items = c.in_ok-push-2.ensures.items ∙ ap (λ ms. ms ++ mark ∷ []) c.reserve.ensures.items in
    let one = ap (λ ms. ms ++ mark ∷ []) c.self.invariant.0 ∙ ap (λ m. map f rows ++ m ∷ []) c.mark-mark.ensures ∙ sym (map-append f rows (c.args.row ∷ [])) ∙ sym (ap (map f) c.in_ok-push.ensures.items) in
    let up = up_with flags marks mark (still_up c.self.inside.flags.items flags marks c.raise.ensures.kept c.self.invariant.1) c.raise.ensures.up in
    (items ∙ one, subst (AreUp flags) (sym items) up)
