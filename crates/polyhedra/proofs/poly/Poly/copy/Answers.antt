use Rattle.std.proofs.Common.{subst, sym}
use Rattle.linear_rows.specs.Plain.{HaveWidth}
use Rattle.linear_rows.specs.declared.row.Rows.{Rows}
use Rattle.polyhedra.specs.PolyLaws.{HaveFit}
use Rattle.polyhedra.proofs.poly.Poly.copy.Goals as goal

pub invariant_of-result : goal.invariant_of-result
invariant_of-result c = record {
  widths = subst (λ (r : Rows). HaveWidth r.width r.list) (sym c.in_ok-rows.ensures) c.args.self.now.widths;
  fit = subst (λ (r : Rows). HaveFit r.list) (sym c.in_ok-rows.ensures) c.args.self.now.fit;
}
