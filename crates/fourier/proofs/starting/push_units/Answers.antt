use Rattle.fourier.proofs.StartRows.{units_pushed}
use Rattle.fourier.proofs.starting.push_units.Goals as goal

pub returns : goal.returns
returns c =
    units_pushed c.args.long c.args.place c.args.line.now c.push_zeros.new.self c.push.new.self c.push_zeros-2.new.self c.requires
    c.in_ok-push_zeros.ensures c.in_ok-push.ensures c.in_ok-push_zeros-2.ensures
