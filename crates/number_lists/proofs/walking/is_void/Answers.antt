use Rattle.std.proofs.Common.{map, subst}
use Rattle.number_turns.specs.Recalled.{recalled}
use Rattle.number_lists.specs.Found.{IsWithin}
use Rattle.number_lists.proofs.walking.is_void.Goals as goal

pub returns-in-Nothing : goal.returns-in-Nothing
returns-in-Nothing c = λ yes width are.
    let x = c.args.system.now in
    let nothing = subst (IsWithin x.members.now x.positions.now (map recalled x.transitions.now) width c.args.set.now) c.in-Nothing.is (c.in_ok-find_at.ensures.within width are) in
    nothing.1
