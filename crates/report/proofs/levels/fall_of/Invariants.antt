use Rattle.std.proofs.Common.{◌≡◌, drop}
use Rattle.report.specs.Levels.{fall_in}
use Rattle.report.proofs.levels.fall_of.Given as goal

-- none of the falls so far is that of the call
abbrev pub invariant-loop-fall : goal.invariant-loop-fall
invariant-loop-fall l = fall_in (drop l.fall-index l.fall-items) l.clause l.call ≡ fall_in l.fall-items l.clause l.call
