use Rattle.std.proofs.Common.{◌≡◌, ◌++◌, ◌∷◌, [], length, pos, to_z, arith, sym, ap, ◌∙◌, length-append}
use Rattle.std.specs.Int.{w128}
use Rattle.std.specs.Prelude.{FitsSigned}
use Rattle.std.proofs.lemmas.Int.{to_z-of_z}
use Rattle.sparse_rows.specs.Sparse.{spread}
use Rattle.sparse_rows.proofs.SparseLemmas.{spread-zeros, spread-part, tail_within}
use Rattle.sparse_rows.proofs.line.Line.push.Goals as goal
use Rattle.sparse_rows.proofs.line.Line.push.Goals.{then-number-eq0, else-number-eq0+in_ok-push}

pub overflow_add-self : goal.overflow_add-self
overflow_add-self c =
    let l = c.in-Some.ensures in
    omega (arith, tail_within c.self.inside.parts.items c.self.inside.tail, c.self.invariant, l)

shown : (c : goal.After-self-2-1) → spread c.if-number-eq0.self-inside.parts.items c.if-number-eq0.self-inside.tail ≡ spread c.self.inside.parts.items c.self.inside.tail ++ c.args.number ∷ []
shown c =
    let f : FitsSigned w128 c.args.number = c.ranges.number in
    let xs = c.self.inside.parts.items in
    let tail = c.self.inside.tail in
    elim c.if-number-eq0.branch [
      | then-number-eq0 w ↦
          let z : c.args.number ≡ pos 0 = sym (to_z-of_z w128 c.args.number f) ∙ ap (to_z w128) w.if-number-eq0.true in
          ap (λ i. spread i.parts.items i.tail) w.self-inside-is ∙ spread-zeros xs tail 1 ∙ ap (λ n. spread xs tail ++ n ∷ []) (sym z)
      | else-number-eq0+in_ok-push w ↦
          ap (λ i. spread i.parts.items i.tail) w.self-inside-is ∙ ap (λ l. spread l 0) w.in_ok-push.ensures.items
          ∙ ap (λ n. spread (xs ++ (record { zeros = tail; number = n }) ∷ []) 0) (to_z-of_z w128 c.args.number f) ∙ spread-part xs tail c.args.number
    ]

pub invariant_of-self-2 : goal.invariant_of-self-2
invariant_of-self-2 c =
    let l = c.in-Some.ensures in
    omega (arith, l, c.self.invariant, ap length (shown c), length-append (spread c.self.inside.parts.items c.self.inside.tail) (c.args.number ∷ []))

pub returns : goal.returns
returns c = shown c ∙ ap (λ l. l ++ c.args.number ∷ []) c.self.view_is
