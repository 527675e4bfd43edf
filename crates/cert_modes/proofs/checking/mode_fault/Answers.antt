use Rattle.cert_modes.proofs.FirstLaws.{all_hold, first_fails}
use Rattle.cert_modes.proofs.checking.mode_fault.Goals as goal

pub returns-clause-hold : goal.returns-clause-hold
returns-clause-hold g c =
    let all = all_hold (g.N.Norm.truth c.args.norm.now) c.args.p.now c.args.comps.now c.args.parts.now c.in_ok-marks.marks c.in_ok-marks.ensures.told in
    (λ none. all.0 (c.first.ensures.none.0 none), λ hold. c.first.ensures.none.1 (all.1 hold))

pub returns-clause-first : goal.returns-clause-first
returns-clause-first g c =
    first_fails (g.N.Norm.truth c.args.norm.now) c.args.p.now c.args.comps.now c.args.parts.now c.in_ok-marks.marks c.in_ok-marks.ensures.told c.args.line c.in_ok-marks.ensures.each
    c.first.result c.first.ensures.first
