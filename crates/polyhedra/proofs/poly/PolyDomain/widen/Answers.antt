use Rattle.linear_rows.specs.Plain.{plain_rows}
use Rattle.polyhedra.specs.Making.{IsLost}
use Rattle.polyhedra.proofs.Keeps.{sieved_of}
use Rattle.polyhedra.proofs.Fitting.{fits_all, fits_kept, have_fit}
use Rattle.polyhedra.proofs.poly.PolyDomain.widen.Goals as goal

pub invariant_of-result-clause-fit : goal.invariant_of-result-clause-fit
invariant_of-result-clause-fit c =
    let list = c.args.self.now.rows.list in
    let k = c.in_ok-kept.kept in
    let says = c.in_ok-kept.ensures.says in
    let lost = IsLost c.args.system.now k.failed k.weak in
    have_fit k.rows.list (fits_kept lost (plain_rows list) (plain_rows k.rows.list) (sieved_of lost (plain_rows list) (plain_rows k.rows.list) says.lost says.split says.why) (fits_all list c.args.self.now.fit))
