use Rattle.lex_certificate.proofs.FlatLemmas.{from_none, from_split}
use Rattle.lex_certificate.proofs.flat.united_coefficients.Goals as goal

pub loop-last-init : goal.loop-last-init
loop-last-init c = rw c.new-coeffs.ensures (from_none c.args.measures.now)

pub loop-last-preserved : goal.loop-last-preserved
loop-last-preserved c =
    let own = rw (c.as_slice.ensures, c.as_slice-in-Some.ensures) at c.in_ok-coeffs.ensures in
    rw own (from_split _ _ _ _ _ c.in-Some.ensures.cases.0 c.loop-last.invariant)
