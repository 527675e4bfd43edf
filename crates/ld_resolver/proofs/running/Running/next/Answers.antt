use Rattle.std.proofs.Common.{true, refl, arith}
use Rattle.ld_resolver.specs.declared.running.Running.{Running}
use Rattle.ld_resolver.proofs.RunningLaws.{HasGoneOn, HasNowBegun, is_running, goes_on_from, began_with, began_with_nothing, began_ahead}
use Rattle.ld_resolver.proofs.Results.{if_ok}
use Rattle.ld_resolver.proofs.running.Running.next.Goals.{In_ok-found}
use Rattle.ld_resolver.proofs.running.Running.next.Goals as goal

-- the run that has entered the query
module _ (c : In_ok-found) where
  abbrev new : Running
  new = record c.args.self.now { search = c.begin.new.search; has_begun = true }

  gone_on : HasGoneOn c.args.self.now new
  gone_on = record { program = c.begin.ensures.program; chain = refl; goal = refl; budget = refl; begun = refl }

  now_begun : HasNowBegun c.args.self.now new
  now_begun = record { before = c.if-self.false; same = refl; attempts = c.in_ok-found.ensures.attempts }

pub go_on-requires-in-None-clause-running : goal.go_on-requires-in-None-clause-running
go_on-requires-in-None-clause-running c =
    let at = (goal.at.go_on-requires-in-None-clause-running c).In_ok-found in
    let r = c.requires in
    is_running _ _ _ (new at) r.0 (began_with_nothing (gone_on at) (now_begun at) _ _ _ r.0 r.1 (rw c.in-None.is at (c.in_ok-found.ensures.begun c.args.self.now.budget)))

pub returns-in-Some : goal.returns-in-Some
returns-in-Some c = λ p g n given h.
    let at = (goal.at.returns-in-Some c).In_ok-found in
    began_with (gone_on at) (now_begun at) p g n given h c.in-Some.found (rw c.in-Some.is at (c.in_ok-found.ensures.begun c.args.self.now.budget))

pub returns-in-None : goal.returns-in-None
returns-in-None c =
    let at = (goal.at.returns-in-None c).In_ok-found in
    let nothing = rw c.in-None.is at (c.in_ok-found.ensures.begun c.args.self.now.budget) in
    if_ok c.go_on-in-None.result
    (λ found on p g n given h.
    let less = began_ahead (gone_on at) (now_begun at) p g n given h in
    goes_on_from p g n c.args.self.now (new at) c.go_on-in-None.new.self given found (omega (arith, less))
    (on p g n given (began_with_nothing (gone_on at) (now_begun at) p g n given h nothing)))
    c.go_on-in-None.ensures
