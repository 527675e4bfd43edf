use Rattle.std.proofs.Common.{rules, ◌≡◌, ◌∙◌, ℕ, suc, ℤ, pos, true, List, map, ap, sym, subst, arith}
use Rattle.std.specs.Prelude.{All, ◌≤ℤ◌}
use Rattle.exact384.specs.declared.integer.Integer.{Integer}
use Rattle.exact384.specs.Value.{value_of}
use Rattle.linear_rows.specs.Plain.{plain_row, plain_rows}
use Rattle.linear_rows.specs.Proves.{Proves}
use Rattle.linear_rows.specs.Rows.{HoldsOn}
use Rattle.simplex.proofs.Holding.{scaled_holds}
use Rattle.simplex.proofs.WideMultipliers.{naturals, not_below}
use Rattle.simplex.proofs.wide_multipliers.WideMultipliers.show.Goals as goal

pub returns : goal.returns
returns c = λ _.
    let rows = plain_rows c.args.rows.now.list in
    let row = plain_row c.args.row.now in
    let scale : ℤ = value_of c.args.self.now.scale in
    let list = c.args.self.now.list.items in
    let yes : c.are_natural.result ≡ true = search rules in
    let natural : All (λ (x : Integer). pos 0 ≤ℤ value_of x) list = subst (λ (xs : List Integer). All (λ (x : Integer). pos 0 ≤ℤ value_of x) xs) c.as_slice-list.ensures.value (c.are_natural.ensures yes) in
    let at_least : pos 0 ≤ℤ scale = not_below scale (sym c.is_negative.ensures ∙ c.if-is_negative.false) in
    let proves : Proves rows (map value_of list) row scale = λ k l. c.loop-place.invariant k (omega (arith, l, c.requires.row, c.loop-place-test.false)) in
    subst (λ (n : ℕ). HoldsOn n rows row) (ap suc c.requires.row) (scaled_holds rows (map value_of list) row scale at_least (naturals list natural) proves)
