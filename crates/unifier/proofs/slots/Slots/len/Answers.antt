use Rattle.std.proofs.Common.{length, ap, sym, ◌∙◌}
use Rattle.unifier.specs.Slots.{Trees, bound}
use Rattle.unifier.proofs.SlotLaws.{length-linked}
use Rattle.unifier.proofs.slots.Slots.len.Goals as goal

pub returns : goal.returns
returns c =
    sym (length-linked c.self.inside.items.items c.self.inside.count c.self.inside.last)
    ∙ ap (λ (s : Trees). length (bound s)) c.self.view_is
