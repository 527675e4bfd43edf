use Rattle.std.proofs.Common.{reverse, rules}
use Rattle.ld_resolver.specs.declared.search.Taken.TheVariants.{ByItself}
use Rattle.ld_resolver.specs.Searches.{IsTaken, IsTakenAt, choices_of}
use Rattle.ld_resolver.proofs.ItselfLaws.{IsTriedByItself, itself_args, itself_goes, itself_choices, itself_fewer, itself_within, itself_depth, itself_failed, itself_met, itself_rest, itself_free, itself_below}
use Rattle.ld_resolver.proofs.SearchLaws.{are_numbered, are_marked}
use Rattle.ld_resolver.proofs.AttemptLaws.{IsTried, head_free, atom_below, taken_choices, taken_fewer, taken_failed, taken_met, taken_within, taken_depth, taken_rest, taken_free, taken_below}
use Rattle.ld_resolver.proofs.search.Search.attempt.Goals.{In-Clause, In_ok-unify_head-in-Clause, In-ByItself, In_ok-unify_value-in-ByItself}
use Rattle.ld_resolver.proofs.search.Search.attempt.Goals as goal

-- the clause that is taken at the last choice
clause_taken : (c : In-Clause) → IsTakenAt c.args.self.now.program.now c.args.self.now.bindings (choices_of c.args.self.now) c.in-Clause.choice c.in-Clause.clause.now c.take_clause.new.bindings (reverse c.take_clause.new.choices.items)
clause_taken c = rw c.in-Clause.is at c.in_ok-take_clause.ensures

-- it is tried
clause_tried : (c : In_ok-unify_head-in-Clause) → IsTried c.args.self.now.program.now c.args.self.now.bindings c.take_clause.new.bindings c.unify_head.new.bindings c.args.self.now.tails c.keep.new.self
    (choices_of c.args.self.now) (reverse c.take_clause.new.choices.items) c.in-Clause.choice c.in-Clause.clause.now
clause_tried c = record {
  all = c.requires.search;
  clause = rw c.in-Clause.is at c.in_ok-take_clause.ensures;
  extended = c.in_ok-unify_head-in-Clause.ensures.extended;
  agree = c.keep.ensures.kept;
  enough = c.keep.ensures.enough;
}

-- the last choice is taken by itself
choice_taken : (c : In-ByItself) → IsTaken c.args.self.now.program.now c.args.self.now.bindings (choices_of c.args.self.now) (ByItself c.in-ByItself.choice) c.take_clause.new.bindings (reverse c.take_clause.new.choices.items)
choice_taken c = rw c.in-ByItself.is at c.in_ok-take_clause.ensures

-- it is tried
choice_tried : (c : In_ok-unify_value-in-ByItself) → IsTriedByItself c.args.self.now.program.now c.args.self.now.bindings c.take_clause.new.bindings c.unify_value.new.bindings c.args.self.now.tails c.keep-in-ByItself.new.self
    (choices_of c.args.self.now) (reverse c.take_clause.new.choices.items) c.in-ByItself.choice
choice_tried c = record {
  all = c.requires.search;
  itself = rw c.in-ByItself.is at c.in_ok-take_clause.ensures;
  extended = c.in_ok-unify_value-in-ByItself.ensures.extended;
  agree = c.keep-in-ByItself.ensures.kept;
  enough = c.keep-in-ByItself.ensures.enough;
}

pub take_clause-requires-clause-numbered : goal.take_clause-requires-clause-numbered
take_clause-requires-clause-numbered c = let x = c.args.self.now in are_numbered x.program.now x.bindings x.tails (choices_of x) c.requires.search

pub take_clause-requires-clause-marked : goal.take_clause-requires-clause-marked
take_clause-requires-clause-marked c = let x = c.args.self.now in are_marked x.program.now x.bindings x.tails (choices_of x) c.requires.search

pub unify_head-requires-clause-free : goal.unify_head-requires-clause-free
unify_head-requires-clause-free c =
    let taken = clause_taken (goal.at.unify_head-requires-clause-free c).In-Clause in
    let x = c.args.self.now in
    head_free x.program.now x.bindings c.take_clause.new.bindings x.tails (choices_of x) (reverse c.take_clause.new.choices.items) c.in-Clause.choice c.in-Clause.clause.now c.requires.search taken

pub unify_head-requires-clause-below : goal.unify_head-requires-clause-below
unify_head-requires-clause-below c =
    let taken = clause_taken (goal.at.unify_head-requires-clause-below c).In-Clause in
    let x = c.args.self.now in
    atom_below x.program.now x.bindings c.take_clause.new.bindings x.tails (choices_of x) (reverse c.take_clause.new.choices.items) c.in-Clause.choice c.in-Clause.clause.now c.requires.search taken

pub returns-then-branch : goal.returns-then-branch
returns-then-branch c =
    let tried = clause_tried (goal.at.returns-then-branch c).In_ok-unify_head-in-Clause in
    let unified = rw c.if-branch.true at c.in_ok-unify_head-in-Clause.ensures.unifier in
    record {
      search = taken_choices tried;
      program = search rules;
      attempt = rw c.as_slice.ensures
          (record {
            met = taken_met tried unified;
            fewer = taken_fewer tried;
            within = taken_depth tried;
            rest = taken_rest tried unified;
            free = taken_free tried unified c.in_ok-unify_head-in-Clause.ensures.free;
            below = taken_below tried unified;
          });
      depths = taken_within tried;
    }

pub returns-else-branch : goal.returns-else-branch
returns-else-branch c =
    let tried = clause_tried (goal.at.returns-else-branch c).In_ok-unify_head-in-Clause in
    record {
      search = taken_choices tried;
      program = search rules;
      attempt = (taken_failed tried (rw c.if-branch.false at c.in_ok-unify_head-in-Clause.ensures.unifier), taken_fewer tried);
      depths = taken_within tried;
    }

pub unify_value-requires-clause-below : goal.unify_value-requires-clause-below
unify_value-requires-clause-below c =
    let taken = choice_taken (goal.at.unify_value-requires-clause-below c).In-ByItself in
    let x = c.args.self.now in
    itself_args x.program.now x.bindings c.take_clause.new.bindings x.tails (choices_of x) (reverse c.take_clause.new.choices.items) c.in-ByItself.choice c.requires.search taken

pub unify_value-requires-clause-integer : goal.unify_value-requires-clause-integer
unify_value-requires-clause-integer c =
    let taken = choice_taken (goal.at.unify_value-requires-clause-integer c).In-ByItself in
    let x = c.args.self.now in
    (itself_goes x.program.now x.bindings c.take_clause.new.bindings x.tails (choices_of x) (reverse c.take_clause.new.choices.items) c.in-ByItself.choice c.requires.search taken).integer

pub returns-then-branch-2 : goal.returns-then-branch-2
returns-then-branch-2 c =
    let tried = choice_tried (goal.at.returns-then-branch-2 c).In_ok-unify_value-in-ByItself in
    let unified = rw c.if-branch-2.true at c.in_ok-unify_value-in-ByItself.ensures.unifier in
    record {
      search = itself_choices tried;
      program = search rules;
      attempt = record {
        met = itself_met tried unified;
        fewer = itself_fewer tried;
        within = itself_depth tried;
        rest = itself_rest tried unified;
        free = itself_free tried unified c.in_ok-unify_value-in-ByItself.ensures.free;
        below = itself_below tried unified;
      };
      depths = itself_within tried;
    }

pub returns-else-branch-2 : goal.returns-else-branch-2
returns-else-branch-2 c =
    let tried = choice_tried (goal.at.returns-else-branch-2 c).In_ok-unify_value-in-ByItself in
    record {
      search = itself_choices tried;
      program = search rules;
      attempt = (itself_failed tried (rw c.if-branch-2.false at c.in_ok-unify_value-in-ByItself.ensures.unifier), itself_fewer tried);
      depths = itself_within tried;
    }
