use Rattle.std.proofs.Common.{◌≡◌, ◌++◌, drop, map, pos}
use Rattle.std.specs.Prelude.{int_div}
use Rattle.sparse_rows.specs.Sparse.{spread}
use Rattle.sparse_rows.proofs.line.divide.Given as goal

abbrev pub invariant-loop-i : goal.invariant-loop-i
invariant-loop-i l = l.out ++ map (λ x. int_div x (pos l.part)) (spread (drop l.i l.parts) l.tail) ≡ map (λ x. int_div x (pos l.part)) (spread l.parts l.tail)
