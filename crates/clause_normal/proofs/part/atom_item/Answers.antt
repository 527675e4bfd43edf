use Rattle.std.proofs.Common.{◌∙◌, ℕ, List, map, ap, sym}
use Rattle.prolog_terms.specs.declared.term.ReadTerm.{ReadTerm}
use Rattle.clause_normal.specs.Bodies.{named_goal}
use Rattle.clause_variables.specs.TermViews.{plain_of}
use Rattle.clause_normal.proofs.PartLemmas.{atom_goal_fun, name_known}
use Rattle.clause_normal.proofs.part.atom_item.Goals as goal

pub returns-in-Fun-clause-goal : goal.returns-in-Fun-clause-goal
returns-in-Fun-clause-goal c =
    c.named_item.ensures.goal
    ∙ ap (λ (ts : List ReadTerm). named_goal c.text_of.result.now c.in-Fun.name.0 (map plain_of ts) c.args.term.now.at) c.deref.ensures.value
    ∙ ap (λ (t : List ℕ). named_goal t c.in-Fun.name.0 (map plain_of c.in-Fun.args.items) c.args.term.now.at) (c.text_of.ensures)
    ∙ sym (atom_goal_fun c.args.names.now c.args.term.now c.in-Fun.name c.in-Fun.args c.in-Fun.is)

pub returns-in-Fun-clause-fit : goal.returns-in-Fun-clause-fit
returns-in-Fun-clause-fit c = c.named_item.ensures.fit _ (name_known _ c.args.term.now c.in-Fun.name c.in-Fun.args c.in-Fun.is c.requires)
