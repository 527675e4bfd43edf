use Rattle.std.proofs.Common.{◌≡◌, ℕ, ◌<◌, List, ◌∷◌, [], ◌++◌, ap, ◌∙◌, sym, subst, refl, arith}
use Rattle.cti_terms.specs.declared.atom_list.Atom.{Atom}
use Rattle.cti_terms.specs.declared.derivation.Goal.{Goal}
use Rattle.cti_terms.specs.Listing.{Listing}
use Rattle.ld_resolver.specs.declared.answer.Answer.{Answer}
use Rattle.ld_resolver.specs.declared.running.Found.TheVariants.{Answer as TheAnswer}
use Rattle.ld_resolver.specs.declared.running.Progress.TheVariants.{UnderWay}
use Rattle.ld_resolver.specs.declared.running.Running.{Running}
use Rattle.ld_resolver.specs.Told.{told}
use Rattle.ld_resolver.specs.Measured.{answered_atoms}
use Rattle.ld_resolver.specs.Progress.{HasAdvanced, HasGiven, IsUnderWay, answers_ahead}
use Rattle.ld_resolver.proofs.ProgressLaws.{SameSearch, same_under_way, same_attempts}
use Rattle.ld_resolver.proofs.RunningLaws.{HasGoneOn, under_way, now_given, fewer_ahead, goes_on_from, ended_for}
use Rattle.ld_resolver.proofs.running.Running.go_on.Goals.{In_ok-progress}
use Rattle.ld_resolver.proofs.running.Running.go_on.Goals as goal

-- the run after an attempt
module _ (c : In_ok-progress) where
  abbrev new : Running
  new = record c.loop-progress.self { search = c.advance.new.search; totals = c.advance.new.totals }

  gone_on : HasGoneOn c.loop-progress.self new
  gone_on = record { program = c.advance.ensures.program; chain = refl; goal = refl; budget = refl; begun = c.loop-progress.invariant.begun }

  advanced : (p : Listing) (g : Goal) (n : ℕ) (given : List Answer) → HasGiven p g n c.args.self.now given
      → HasAdvanced c.loop-progress.self.search.program.now c.loop-progress.self.goal.now c.loop-progress.self.budget c.loop-progress.self.search c.loop-progress.self.totals.steps new.search new.totals given c.in_ok-progress.progress
  advanced p g n given h = c.in_ok-progress.ensures.advanced given (under_way p g n c.loop-progress.self given (c.loop-progress.invariant.stays p g n given h) c.loop-progress.invariant.begun)

  less_ahead : c.in_ok-progress.progress ≡ UnderWay → answers_ahead new < answers_ahead c.loop-progress.self
  less_ahead on =
      let r = c.requires.running in
      fewer_ahead gone_on c.loop-progress.invariant.begun (rw on at (advanced _ _ _ r.0 r.1)).1

pub loop-progress-init : goal.loop-progress-init
loop-progress-init c = record {
  begun = c.requires.begun;
  stays = λ p g n given h. h;
  fewer = omega arith;
}

pub advance-requires-clause-chain : goal.advance-requires-clause-chain
advance-requires-clause-chain c =
    let r = c.requires.running in
    (c.loop-progress.invariant.stays _ _ _ r.0 r.1).chain

pub advance-requires-clause-under_way : goal.advance-requires-clause-under_way
advance-requires-clause-under_way c =
    let l = c.loop-progress in
    let r = c.requires.running in
    (r.0, under_way _ _ _ l.self r.0 (l.invariant.stays _ _ _ r.0 r.1) l.invariant.begun)

pub returns-in-Ended : goal.returns-in-Ended
returns-in-Ended c = λ p g n given h.
    let at = (goal.at.returns-in-Ended c).In_ok-progress in
    let l = c.loop-progress in
    ended_for p g n l.self given c.advance.new.totals (l.invariant.stays p g n given h) (rw c.in-Ended.is at (advanced at p g n given h))

pub returns-in-Answered : goal.returns-in-Answered
returns-in-Answered c = λ p g n given h.
    let at = (goal.at.returns-in-Answered c).In_ok-progress in
    let l = c.loop-progress in
    let before = c.advance.new.search in
    let after = c.answer.new.self in
    let a = c.in_ok-answer-in-Answered.answer in
    let last : Running = record (new at) { search = after } in
    let same : SameSearch before after = record { program = c.answer.ensures.program; bindings = c.answer.ensures.bindings; tails = c.answer.ensures.tails; choices = c.answer.ensures.choices } in
    let on : HasGoneOn l.self last = record { program = c.answer.ensures.program ∙ c.advance.ensures.program; chain = refl; goal = refl; budget = refl; begun = l.invariant.begun } in
    let is_told = c.in_ok-answer-in-Answered.ensures.answer ∙ ap (λ (q : List Atom). told (answered_atoms before.bindings q)) c.as_slice.ensures in
    let answered = rw c.in-Answered.is at (advanced at p g n given h) in
    let more = subst (λ (b : Answer). IsUnderWay l.self.search.program.now l.self.goal.now l.self.budget before c.advance.new.totals.steps c.advance.new.totals.longest (given ++ b ∷ [])) (sym is_told) answered.0 in
    let shown = same_under_way before after same l.self.search.program.now l.self.goal.now l.self.budget c.advance.new.totals.steps c.advance.new.totals.longest (given ++ a ∷ []) more in
    let attempts = same_attempts before after same in
    let less = answered.1 in
    goes_on_from p g n c.args.self.now l.self last given (TheAnswer a) l.invariant.fewer
    (now_given on p g n given (given ++ a ∷ []) (l.invariant.stays p g n given h) shown, fewer_ahead on l.invariant.begun (omega (arith, less, attempts)))

pub loop-progress-smaller : goal.loop-progress-smaller
loop-progress-smaller c =
    let r = c.requires.running in
    less_ahead (goal.at.loop-progress-smaller c).In_ok-progress c.in-UnderWay.is

pub loop-progress-preserved : goal.loop-progress-preserved
loop-progress-preserved c =
    let at = (goal.at.loop-progress-preserved c).In_ok-progress in
    let l = c.loop-progress in
    record {
      begun = l.invariant.begun;
      stays = λ p g n given h. now_given (gone_on at) p g n given given (l.invariant.stays p g n given h) (rw c.in-UnderWay.is at (advanced at p g n given h)).0;
      fewer = omega (arith, l.invariant.fewer, less_ahead at c.in-UnderWay.is);
    }
