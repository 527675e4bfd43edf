use Rattle.std.proofs.Common.{◌≡◌, Some, ◌++◌, map, refl, ap, subst, rules}
use Rattle.cti_terms.specs.declared.derivation.Goal.{Goal}
use Rattle.cti_terms.specs.Resolve.{over, raised}
use Rattle.cti_terms.specs.Below.{AtomsBelow}
use Rattle.ld_resolver.specs.declared.search.Search.{Search}
use Rattle.unifier.specs.Store.{full}
use Rattle.ld_resolver.specs.Tails.{tail_at}
use Rattle.ld_resolver.specs.Choices.{goal_from, IsStart}
use Rattle.ld_resolver.specs.Searches.{goal_with}
use Rattle.ld_resolver.proofs.Results.{if_ok}
use Rattle.ld_resolver.proofs.SearchLaws.{search_grown, left_grown}
use Rattle.ld_resolver.proofs.ItselfLaws.{start_is, entered_grown}
use Rattle.ld_resolver.proofs.search.Search.enter.Goals.{In-Some}
use Rattle.ld_resolver.proofs.search.Search.enter.Goals as goal

-- the first atom and the rest of the goal
module _ (c : In-Some) where
  started : IsStart (map (raised c.args.base) c.args.atoms.now ++ tail_at c.args.self.now.tails c.args.rest) c.goal_start.new.tails (Some c.in-Some.start)
  started = rw c.in-Some.is at c.in_ok-start.ensures.start

  same_goal : goal_with c.args.self.now.bindings (map (raised c.args.base) c.args.atoms.now) (tail_at c.args.self.now.tails c.args.rest) c.args.fresh
      ≡ goal_from c.args.self.now.bindings c.args.fresh (raised c.in-Some.start.base c.in-Some.start.atom.now) (tail_at c.goal_start.new.tails c.in-Some.start.rest)
  same_goal =
      let start = c.in-Some.start in
      start_is c.args.self.now.bindings (map (raised c.args.base) c.args.atoms.now) (tail_at c.args.self.now.tails c.args.rest) c.args.fresh (raised start.base start.atom.now) (tail_at c.goal_start.new.tails start.rest) started.0

pub add-requires : goal.add-requires
add-requires c =
    let at = (goal.at.add-requires c).In-Some in
    record {
      search = search_grown c.args.self.now c.goal_start.new.tails c.in_ok-start.ensures.grown c.requires.search;
      chain = search rules;
      newest = record {
        mark = refl;
        rest = (started at).1;
        rests = refl;
        free = c.requires.free;
        below = subst (λ (h : Goal). AtomsBelow c.args.fresh h.atoms) (same_goal at) c.requires.below;
      };
    }

pub returns-in-Some-clause-entered : goal.returns-in-Some-clause-entered
returns-in-Some-clause-entered c =
    let x = c.args.self.now in
    let grown : Search = record x { tails = c.goal_start.new.tails } in
    let lefts = left_grown x c.goal_start.new.tails c.in_ok-start.ensures.grown c.requires.search in
    if_ok c.add.result (entered_grown x grown c.add.new.self c.args.depth _ _ lefts refl refl (same_goal (goal.at.returns-in-Some-clause-entered c).In-Some)) c.add.ensures.entered

pub returns-in-None : goal.returns-in-None
returns-in-None c =
    let x = c.args.self.now in
    record {
      search = search_grown x c.goal_start.new.tails c.in_ok-start.ensures.grown c.requires.search;
      program = search rules;
      bindings = search rules;
      entered = (ap (map (over (full x.bindings))) (rw c.in-None.is at c.in_ok-start.ensures.start), left_grown x c.goal_start.new.tails c.in_ok-start.ensures.grown c.requires.search);
      attempts = search rules;
      depths = search rules;
    }
