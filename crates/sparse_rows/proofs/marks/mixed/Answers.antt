use Rattle.std.proofs.Common.{◌*◌, ◌+◌, ◌%◌, ap, ◌∙◌}
use Rattle.std.specs.Int.{w128}
use Rattle.std.specs.Prelude.{FitsSigned, unsigned_abs}
use Rattle.std.proofs.Math.Nat.{add-mod-mod}
use Rattle.std.proofs.lemmas.Int.{to_z-of_z}
use Rattle.sparse_rows.proofs.marks.mixed.Goals as goal

pub returns : goal.returns
returns c =
    let f : FitsSigned w128 c.args.number = c.ranges.number in
    let left = simp to_z-of_z at c.remainder.ensures.value in
    ap (λ n. (c.args.mark * 1000003 + n) % 2147483647) left ∙ add-mod-mod (c.args.mark * 1000003) (unsigned_abs c.args.number) 2147483647
