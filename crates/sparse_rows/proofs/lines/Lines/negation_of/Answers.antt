use Rattle.std.proofs.Common.{◌≡◌, ℕ, ℤ, List, ◌<◌, ◌==◌, inl, inr, length, true, false, [], get_or, sym, ap, ◌∙◌, subst, arith}
use Rattle.std.proofs.lemmas.Bool.{cases_eq, eq-eqb}
use Rattle.std.proofs.lemmas.List.{length-map}
use Rattle.linear_rows.specs.Equation.{negates}
use Rattle.sparse_rows.specs.Marks.{mark_of}
use Rattle.sparse_rows.proofs.Places.{place_first, place_none}
use Rattle.sparse_rows.proofs.MarkLemmas.{got-map, negated_mark}
use Rattle.sparse_rows.proofs.NumberTests.{either_bool}
use Rattle.sparse_rows.proofs.lines.Lines.negation_of.Goals as goal
use Rattle.sparse_rows.proofs.lines.Lines.negation_of.Goals.{then-is_short, else-is_short, else-own-mark-via-then-own-mark+else-negates, else-own-mark-via-else-own-mark}

apart : (c : goal.Joined-else-own-mark) → negates c.args.many (get_or c.args.self.now c.args.i []) (get_or c.args.self.now c.loop-j.j []) ≡ false
apart c = elim c.else-own-mark.branch [
  | else-own-mark-via-then-own-mark+else-negates w ↦
      ap (λ (s : List ℤ). negates c.args.many (get_or c.args.self.now c.args.i []) s) (sym w.get.ensures) ∙ ap (λ (r : List ℤ). negates c.args.many r w.get.result.now) (sym c.get-row.ensures) ∙ sym w.negates.ensures ∙ w.if-negates.false
  | else-own-mark-via-else-own-mark w ↦ either_bool (negates c.args.many (get_or c.args.self.now c.args.i []) (get_or c.args.self.now c.loop-j.j [])) (λ opposite.
      elim c.if-is_short.branch [
        | then-is_short v ↦ cc (sym v.value-is ∙ w.if-own-mark.false)
        | else-is_short v ↦
            let last = c.self.inside.last in
            let items = c.self.inside.items.items in
            let j = c.loop-j.j in
            let within : j < length items = omega (arith, c.loop-j-test.true, ap length (c.deref-own-items.ensures.value ∙ c.self.invariant.0), length-map items (mark_of last)) in
            let here : c.args.i < length items = omega (arith, c.requires.place, ap length c.self.view_is) in
            let marks = c.deref-own-items.result.now in
            let other : get_or marks j 0 ≡ mark_of last (get_or items j []) =
            ap (λ ms. get_or ms j 0) (c.deref-own-items.ensures.value ∙ c.self.invariant.0) ∙ got-map (mark_of last) items j 0 [] within in
            let own : c.index-mark.result.now ≡ mark_of last (get_or items c.args.i []) =
            c.index-mark.ensures ∙ ap (λ ms. get_or ms c.args.i c.index-mark.result.now) c.self.invariant.0 ∙ got-map (mark_of last) items c.args.i c.index-mark.result.now [] here in
            let turned : negates c.args.many (get_or items c.args.i []) (get_or items j []) ≡ true =
            ap (λ (rows : List (List ℤ)). negates c.args.many (get_or rows c.args.i []) (get_or rows j [])) c.self.view_is ∙ opposite in
            let equal : get_or marks j 0 ≡ c.index-mark.result.now =
            other ∙ negated_mark last c.args.many (get_or items c.args.i []) (get_or items j []) (omega (arith, v.if-is_short.false)) turned ∙ sym own in
            let yes : (get_or marks j 0 == c.index-mark.result.now) ≡ true = eq-eqb (get_or marks j 0) c.index-mark.result.now equal in
            let no = sym v.value-is ∙ w.if-own-mark.false in
            cc
      ])
]

pub loop-j-preserved : goal.loop-j-preserved
loop-j-preserved c = λ j l.
    elim (cases_eq j c.loop-j.j) [
      | inl same ↦ subst (λ (k : ℕ). negates c.args.many (get_or c.args.self.now c.args.i []) (get_or c.args.self.now k []) ≡ false) (sym same) (apart c)
      | inr other ↦ c.loop-j.invariant j (omega (arith, l, other))
    ]

pub returns-then-negates : goal.returns-then-negates
returns-then-negates c =
    let items = c.self.inside.items.items in
    let lt : c.loop-j.j < length c.args.self.now = omega (arith, c.loop-j-test.true, ap length (c.deref-own-items.ensures.value ∙ c.self.invariant.0), length-map items (mark_of c.self.inside.last), ap length c.self.view_is) in
    let t : negates c.args.many (get_or c.args.self.now c.args.i []) (get_or c.args.self.now c.loop-j.j []) ≡ true =
    ap (λ (s : List ℤ). negates c.args.many (get_or c.args.self.now c.args.i []) s) (sym c.get.ensures) ∙ ap (λ (r : List ℤ). negates c.args.many r c.get.result.now) (sym c.get-row.ensures) ∙ sym c.negates.ensures ∙ c.if-negates.true in
    place_first (λ s. negates c.args.many (get_or c.args.self.now c.args.i []) s) c.args.self.now c.loop-j.j [] lt c.loop-j.invariant t

pub returns : goal.returns
returns c =
    let items = c.self.inside.items.items in
    c.len.ensures ∙ place_none (λ s. negates c.args.many (get_or c.args.self.now c.args.i []) s) c.args.self.now [] (λ i l. c.loop-j.invariant i
    (omega (arith, l, c.loop-j-test.false, ap length (c.deref-own-items.ensures.value ∙ c.self.invariant.0), length-map items (mark_of c.self.inside.last), ap length c.self.view_is)))
