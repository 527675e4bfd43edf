use Rattle.std.proofs.Common.{◌≡◌, ℕ, ℤ, List, ◌<◌, ◌==◌, inl, inr, length, map, true, false, [], get_or, sym, ap, ◌∙◌, subst, arith}
use Rattle.std.proofs.lemmas.Bool.{cases_eq, eq-eqb}
use Rattle.std.proofs.lemmas.List.{length-map}
use Rattle.linear_rows.specs.Cleaning.{agree}
use Rattle.sparse_rows.specs.Marks.{AreUp, is_up, mark_of}
use Rattle.sparse_rows.proofs.MarkLemmas.{agrees_with_none, got-map, same_mark}
use Rattle.sparse_rows.proofs.NumberTests.{either_bool}
use Rattle.sparse_rows.proofs.lines.Lines.place_of.Goals as goal
use Rattle.sparse_rows.proofs.lines.Lines.place_of.Goals.{then-not-is_marked, else-not-is_marked, else-own-mark-via-then-own-mark+else-agrees, else-own-mark-via-else-own-mark}

pub returns-then-not-is_up-clause-before : goal.returns-then-not-is_up-clause-before
returns-then-not-is_up-clause-before c =
    let last = c.self.inside.last in
    let flags = c.self.inside.flags.items in
    let items = c.self.inside.items.items in
    let row = c.args.row.now in
    let down : is_up flags (mark_of last row) ≡ false =
    ap (is_up flags) (sym c.mark-mark.ensures) ∙ ap (λ fs. is_up fs c.mark-mark.result) (sym c.as_slice.ensures.value) ∙ sym c.is_up.ensures ∙ c.if-not-is_up.true in
    let up : AreUp flags (map (mark_of last) items) = subst (AreUp flags) c.self.invariant.0 c.self.invariant.1 in
    λ j l.
    let at = agrees_with_none flags last items row up down j (omega (arith, l, c.len.ensures, ap length c.self.view_is)) in
    ap (λ (rows : List (List ℤ)). agree c.args.last (get_or rows j []) row) (sym c.self.view_is) ∙ ap (λ (m : ℕ). agree m (get_or items j []) row) (sym c.if-is_marked.true) ∙ at

apart : (c : goal.Joined-else-own-mark) → agree c.args.last (get_or c.args.self.now c.loop-i.i []) c.args.row.now ≡ false
apart c = elim c.else-own-mark.branch [
  | else-own-mark-via-then-own-mark+else-agrees w ↦ ap (λ (r : List ℤ). agree c.args.last r c.args.row.now) (sym w.get.ensures) ∙ sym w.agrees.ensures ∙ w.if-agrees.false
  | else-own-mark-via-else-own-mark w ↦ either_bool (agree c.args.last (get_or c.args.self.now c.loop-i.i []) c.args.row.now) (λ same.
      elim c.if-not-is_marked.branch [
        | then-not-is_marked v ↦ cc (sym v.value-is ∙ w.if-own-mark.false)
        | else-not-is_marked v ↦
            let last = c.self.inside.last in
            let items = c.self.inside.items.items in
            let i = c.loop-i.i in
            let marks = c.deref-own-items.result.now in
            let within : i < length items = omega (arith, c.loop-i-test.true, ap length (c.deref-own-items.ensures.value ∙ c.self.invariant.0), length-map items (mark_of last)) in
            let own : get_or marks i 0 ≡ mark_of last (get_or items i []) =
            ap (λ ms. get_or ms i 0) (c.deref-own-items.ensures.value ∙ c.self.invariant.0) ∙ got-map (mark_of last) items i 0 [] within in
            let agrees : agree last (get_or items i []) c.args.row.now ≡ true =
            ap (λ (rows : List (List ℤ)). agree last (get_or rows i []) c.args.row.now) c.self.view_is ∙ ap (λ (m : ℕ). agree m (get_or c.args.self.now i []) c.args.row.now) v.if-not-is_marked.false ∙ same in
            let equal : get_or marks i 0 ≡ c.mark-mark.result = own ∙ same_mark last (get_or items i []) c.args.row.now agrees ∙ sym c.mark-mark.ensures in
            let yes : (get_or marks i 0 == c.mark-mark.result) ≡ true = eq-eqb (get_or marks i 0) c.mark-mark.result equal in
            let no = sym v.value-is ∙ w.if-own-mark.false in
            cc
      ])
]

pub loop-i-preserved : goal.loop-i-preserved
loop-i-preserved c = λ j l.
    elim (cases_eq j c.loop-i.i) [
      | inl same ↦ subst (λ (k : ℕ). agree c.args.last (get_or c.args.self.now k []) c.args.row.now ≡ false) (sym same) (apart c)
      | inr other ↦ c.loop-i.invariant j (omega (arith, l, other))
    ]
