use Rattle.std.proofs.Common.{◌≡◌, ◌<◌, ℕ, slice_get, Some}
use Rattle.cti_terms.specs.declared.clauses.Clause.{Clause}
use Rattle.number_tests.specs.Shape.{list_at}
use Rattle.lex_checker.specs.Proved.{CallsDrop}
use Rattle.lex_checker.proofs.dropping.drops_hold.Given as goal

abbrev pub invariant-loop-k : goal.invariant-loop-k
invariant-loop-k g l = (k : ℕ) → k < l.k → (c : Clause) → slice_get l.p.clauses k ≡ Some c → CallsDrop (g.N.Norm.expression l.norm) l.comps l.parts c (list_at l.parts.drops k)
