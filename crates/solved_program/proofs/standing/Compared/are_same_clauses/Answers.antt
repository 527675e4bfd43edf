use Rattle.std.proofs.Common.{◌≡◌, arith, get_or, length, refl, subst}
use Rattle.termination_model.proofs.Lists.{there}
use Rattle.solved_program.specs.Comparing.{HaveSameClause}
use Rattle.solved_program.proofs.Comparisons.{SameTo, clause_pair, clauses_length, clauses_of_places, none_same, same_more}
use Rattle.solved_program.proofs.standing.Compared.are_same_clauses.Goals as goal

pub loop-i-init : goal.loop-i-init
loop-i-init c = none_same (HaveSameClause c.args.self.now) c.args.own_before.now c.args.own.now

pub loop-i-preserved : goal.loop-i-preserved
loop-i-preserved c =
    let xs = c.args.own_before.now in
    let ys = c.args.own.now in
    let n = c.loop-i.i in
    let at = there xs n 0 (omega arith) in
    let other = there ys n 0 (omega arith) in
    same_more (HaveSameClause c.args.self.now) n xs ys (get_or xs n 0) (get_or ys n 0) c.loop-i.invariant at other (c.is_same_clause.ensures.0 c.if-not-is_same_clause.false)

pub returns-then-own_before-own : goal.returns-then-own_before-own
returns-then-own_before-own c = (
  λ is. cc,
  λ same. let l = clauses_length c.args.self.now c.args.own_before.now c.args.own.now c.requires.before c.requires.after same in absurd (omega arith),
)

pub returns-then-not-is_same_clause : goal.returns-then-not-is_same_clause
returns-then-not-is_same_clause c =
    let xs = c.args.own_before.now in
    let ys = c.args.own.now in
    let n = c.loop-i.i in
    let at = there xs n 0 (omega arith) in
    let other = there ys n 0 (omega arith) in (
      λ is. cc,
      λ same.
          let right = c.is_same_clause.ensures.1 (clause_pair c.args.self.now xs ys c.requires.before c.requires.after same n (get_or xs n 0) (get_or ys n 0) at other) in
          let wrong = c.if-not-is_same_clause.true in
          cc,
    )

pub returns : goal.returns
returns c =
    let xs = c.args.own_before.now in
    let ys = c.args.own.now in
    let l : length xs ≡ length ys = omega arith in
    let n : c.loop-i.i ≡ length xs = omega arith in
    (λ is. clauses_of_places c.args.self.now xs ys l c.requires.before c.requires.after (subst (λ k. SameTo (HaveSameClause c.args.self.now) k xs ys) n c.loop-i.invariant), λ same. refl)
