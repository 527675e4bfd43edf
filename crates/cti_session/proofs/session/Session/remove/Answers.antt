use Rattle.std.proofs.Common.{◌-◌, ◌<◌, List, length, ap, subst, arith}
use Rattle.prolog_terms.specs.Clauses.{Clause}
use Rattle.prolog_terms.specs.Terms.{clause_of}
use Rattle.kept_program.specs.ProgramParts.{ProgramParts}
use Rattle.edit_texts.specs.Snapshot.{KeepUntouched, Snapshot, nodes_in}
use Rattle.edit_texts.proofs.Clauses.{nodes_taken}
use Rattle.edit_texts.proofs.Lists.{map_length}
use Rattle.cti_session.proofs.session.Session.remove.Goals as goal

pub term_nodes-requires : goal.term_nodes-requires
term_nodes-requires c =
    let xs = c.self.inside.clauses.items in
    let seen = ap (λ (s : Snapshot). s.clauses) c.self.view_is in
    let lt : c.args.k - 1 < length xs = omega (arith, c.requires.first, c.requires.last, ap (λ (cs : List Clause). length cs) seen, map_length clause_of xs) in
    omega (arith, nodes_taken xs (c.args.k - 1) c.index.result.now lt c.index.ensures, ap nodes_in seen, c.requires.known.fit.small)

pub overflow_sub-self : goal.overflow_sub-self
overflow_sub-self c =
    let xs = c.self.inside.clauses.items in
    let seen = ap (λ (s : Snapshot). s.clauses) c.self.view_is in
    let lt : c.args.k - 1 < length xs = omega (arith, c.requires.first, c.requires.last, ap (λ (cs : List Clause). length cs) seen, map_length clause_of xs) in
    omega (arith, nodes_taken xs (c.args.k - 1) c.index.result.now lt c.index.ensures, c.self.invariant.counted, c.in_ok-fewer.ensures)

pub invariant_of-self-2 : goal.invariant_of-self-2
invariant_of-self-2 c =
    let xs = c.self.inside.clauses.items in
    let seen = ap (λ (s : Snapshot). s.clauses) c.self.view_is in
    let lt : c.args.k - 1 < length xs = omega (arith, c.requires.first, c.requires.last, ap (λ (cs : List Clause). length cs) seen, map_length clause_of xs) in
    record {
      names = c.follow_without.new.names;
      program = c.in_ok-follow_without.ensures.program;
      counted =
          omega (arith, nodes_taken xs (c.args.k - 1) c.index.result.now lt c.index.ensures, c.self.invariant.counted, c.in_ok-fewer.ensures, ap nodes_in c.in_ok-follow_without.ensures.clauses);
    }

pub returns-clause-untouched : goal.returns-clause-untouched
returns-clause-untouched c =
    subst (λ (k : ProgramParts). KeepUntouched k c.follow_without.new.kept) (ap (λ (s : Snapshot). s.kept) c.self.view_is) c.in_ok-follow_without.ensures.untouched
