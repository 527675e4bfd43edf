use Rattle.std.proofs.Common.{length, ap, sym, ◌∙◌}
use Rattle.ld_resolver.proofs.TailLaws.{length-rests_of}
use Rattle.ld_resolver.proofs.tails.Tails.len.Goals as goal

pub returns : goal.returns
returns c =
    let items = c.self.inside.items in
    c.len.ensures ∙ items.ok.0 ∙ sym (length-rests_of items.items) ∙ ap length c.self.view_is
