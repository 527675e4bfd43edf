use Rattle.std.proofs.Common.{nat_eq, List, ◌∷◌, [], ◌++◌, ap, ◌∙◌}
use Rattle.cti_terms.specs.Spell.{tree_of}
use Rattle.cti_terms.specs.Unify.{Binding}
use Rattle.indexmap.proofs.CallerLemmas.{insert_entry-new}
use Rattle.loop_finder.specs.declared.matching.Match.{Match}
use Rattle.loop_finder.specs.Matches.{pairs_of}
use Rattle.loop_finder.proofs.MatchesLaws.{none_in, pairs_more}
use Rattle.loop_finder.proofs.matching.Matches.add.Goals as goal

pub returns : goal.returns
returns c =
    let es = c.self.inside.items.entries in
    let m : Match = record { term = c.args.term } in
    let new = insert_entry-new nat_eq c.self.inside.items c.args.variable m (none_in c.args.self.now es c.args.variable c.self.view_is c.requires) in
    ap pairs_of (c.in_ok-insert.ensures.entries ∙ new)
    ∙ pairs_more es (c.args.variable, m)
    ∙ ap (λ (l : List Binding). l ++ (c.args.variable, tree_of c.args.term.now) ∷ []) c.self.view_is
