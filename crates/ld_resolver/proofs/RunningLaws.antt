-- How a run goes on between two of its answers.
use Rattle.std.proofs.Common.{◌≡◌, ℕ, suc, Bool, true, false, ◌+◌, ◌-◌, ◌<◌, ◌≤◌, List, [], ◌∷◌, ◌++◌, length, None, Some, refl, ap, sym, ◌∙◌, subst, arith}
use Rattle.std.specs.Prelude.{if◌then◌else◌}
use Rattle.cti_terms.specs.declared.derivation.Goal.{Goal}
use Rattle.cti_terms.specs.Listing.{Listing}
use Rattle.ld_resolver.specs.declared.answer.Answer.{Answer}
use Rattle.ld_resolver.specs.Searches.{attempts_left}
use Rattle.ld_resolver.specs.declared.clause_chain.ClauseChain.{ClauseChain}
use Rattle.ld_resolver.specs.declared.running.Found.{Found}
use Rattle.ld_resolver.specs.declared.running.Found.TheVariants.{Answer as TheAnswer, End}
use Rattle.ld_resolver.specs.declared.running.Running.{Running}
use Rattle.ld_resolver.specs.declared.running.Totals.{Totals}
use Rattle.ld_resolver.specs.Chain.{IsChain}
use Rattle.ld_resolver.specs.Progress.{scaled, IsUnderWay, HasEnded, to_do, HasBegun, IsFresh, IsAt, HasGiven, IsRunning, answers_ahead, GoesOn}

pub is_running : (p : Listing) (g : Goal) (n : ℕ) (run : Running) (given : List Answer) → HasGiven p g n run given → IsRunning run
is_running p g n run given h = (given, record { program = refl; goal = refl; budget = refl; chain = h.chain; at = h.at })

-- the query was entered
pub under_way : (p : Listing) (g : Goal) (n : ℕ) (run : Running) (given : List Answer) → HasGiven p g n run given → run.has_begun ≡ true
    → IsUnderWay run.search.program.now run.goal.now run.budget run.search run.totals.steps run.totals.longest given
under_way p g n run given h e = subst (IsAt run.search.program.now run.goal.now run.budget run.search run.totals given) e h.at

-- it was not
pub fresh : (p : Listing) (g : Goal) (n : ℕ) (run : Running) (given : List Answer) → HasGiven p g n run given → run.has_begun ≡ false → IsFresh run.search.program.now run.goal.now run.search run.totals × (given ≡ [])
fresh p g n run given h e = subst (IsAt run.search.program.now run.goal.now run.budget run.search run.totals given) e h.at

-- a run that went on before is farther from its end than the one that goes on
pub goes_on_from : (p : Listing) (g : Goal) (n : ℕ) (first old new : Running) (given : List Answer) (found : Found) → answers_ahead old ≤ answers_ahead first → GoesOn p g n old given found new → GoesOn p g n first given found new
goes_on_from p g n first old new given (TheAnswer a) less h = let fewer = h.1 in (h.0, omega (arith, less, fewer))
goes_on_from p g n first old new given (End m) less h = h

-- what has ended is the run that was asked for
pub ended_for : (p : Listing) (g : Goal) (n : ℕ) (run : Running) (given : List Answer) (m : Totals) → HasGiven p g n run given
    → HasEnded run.search.program.now run.goal.now run.budget m.ending m.steps m.longest given → HasEnded p g n m.ending m.steps m.longest given
ended_for p g n run given m h = subst (λ (w : Listing × Goal × ℕ). HasEnded w.0 w.1 w.2 m.ending m.steps m.longest given) (λ i. (h.program i, h.goal i, h.budget i))

-- a run that goes on, with its search and its totals alone changed
pub record HasGoneOn (old new : Running) : Type 0 where
  pub program : new.search.program.now ≡ old.search.program.now
  pub chain : new.chain ≡ old.chain
  pub goal : new.goal.now ≡ old.goal.now
  pub budget : new.budget ≡ old.budget
  pub begun : new.has_begun ≡ true

-- a run that had not begun has entered the query, with nothing counted yet
pub record HasNowBegun (old new : Running) : Type 0 where
  pub before : old.has_begun ≡ false
  pub same : new.totals ≡ old.totals
  pub attempts : attempts_left new.search ≤ length old.search.program.now.clauses + 2

module _ {old new : Running} (on : HasGoneOn old new) where
  pub now_given : (p : Listing) (g : Goal) (n : ℕ) (given now : List Answer) → HasGiven p g n old given → IsUnderWay old.search.program.now old.goal.now old.budget new.search new.totals.steps new.totals.longest now → HasGiven p g n new now
  now_given p g n given now h u = record {
    program = on.program ∙ h.program;
    goal = on.goal ∙ h.goal;
    budget = on.budget ∙ h.budget;
    chain = subst (λ (w : Listing × ClauseChain). IsChain w.0 w.1) (λ i. (sym on.program i, sym on.chain i)) h.chain;
    at =
        subst (IsAt new.search.program.now new.goal.now new.budget new.search new.totals now) (sym on.begun)
        (subst (λ (w : Listing × Goal × ℕ). IsUnderWay w.0 w.1 w.2 new.search new.totals.steps new.totals.longest now) (λ i. (sym on.program i, sym on.goal i, sym on.budget i)) u);
  }

  ahead_new : answers_ahead new ≡ to_do old.search.program.now old.budget new.search new.totals.steps
  ahead_new = λ i. if on.begun i
      then to_do (on.program i) (on.budget i) new.search new.totals.steps
      else suc (scaled (suc (on.budget i)) (suc (suc (length (on.program i).clauses))))

  pub fewer_ahead : old.has_begun ≡ true → to_do old.search.program.now old.budget new.search new.totals.steps < to_do old.search.program.now old.budget old.search old.totals.steps → answers_ahead new < answers_ahead old
  fewer_ahead e less =
      let before : answers_ahead old ≡ to_do old.search.program.now old.budget old.search old.totals.steps = ap (λ (b : Bool). if b
      then to_do old.search.program.now old.budget old.search old.totals.steps
      else suc (scaled (suc old.budget) (suc (suc (length old.search.program.now.clauses))))) e in
      omega (arith, before, ahead_new, less)

  pub first_ahead : old.has_begun ≡ false → new.totals.steps ≡ 0 → attempts_left new.search ≤ length old.search.program.now.clauses + 2 → answers_ahead new < answers_ahead old
  first_ahead e none attempts =
      let before : answers_ahead old ≡ suc (scaled (suc old.budget) (suc (suc (length old.search.program.now.clauses)))) = ap (λ (b : Bool). if b
      then to_do old.search.program.now old.budget old.search old.totals.steps
      else suc (scaled (suc old.budget) (suc (suc (length old.search.program.now.clauses))))) e in
      let all : to_do old.search.program.now old.budget new.search new.totals.steps ≡ scaled old.budget (suc (suc (length old.search.program.now.clauses))) + attempts_left new.search =
      ap (λ k. scaled k (suc (suc (length old.search.program.now.clauses))) + attempts_left new.search) (let z : old.budget - new.totals.steps ≡ old.budget = omega (arith, none) in z) in
      omega (arith, before, ahead_new, all, attempts)

  -- after the query is entered
  module _ (first : HasNowBegun old new) (p : Listing) (g : Goal) (n : ℕ) (given : List Answer) (h : HasGiven p g n old given) where
    none_before : given ≡ []
    none_before = (fresh p g n old given h first.before).1

    none_counted : new.totals.steps ≡ 0
    none_counted = ap (λ (t : Totals). t.steps) first.same ∙ (fresh p g n old given h first.before).0.steps

    none_longest : new.totals.longest ≡ 0
    none_longest = ap (λ (t : Totals). t.longest) first.same ∙ (fresh p g n old given h first.before).0.longest

    first_given : (now : List Answer) → IsUnderWay old.search.program.now old.goal.now old.budget new.search 0 0 now → HasGiven p g n new now
    first_given now u = now_given p g n given now h (subst (λ (w : ℕ × ℕ). IsUnderWay old.search.program.now old.goal.now old.budget new.search w.0 w.1 now) (λ i. (sym none_counted i, sym none_longest i)) u)

    pub began_ahead : answers_ahead new < answers_ahead old
    began_ahead = first_ahead first.before none_counted first.attempts

    pub began_with_nothing : HasBegun old.search.program.now old.goal.now old.budget new.search None → HasGiven p g n new given
    began_with_nothing u = subst (HasGiven p g n new) (sym none_before) (first_given [] u)

    pub began_with : (found : Found) → HasBegun old.search.program.now old.goal.now old.budget new.search (Some found) → GoesOn p g n old given found new
    began_with (TheAnswer a) u = (subst (λ (l : List Answer). HasGiven p g n new (l ++ a ∷ [])) (sym none_before) (first_given (a ∷ []) u), began_ahead)
    began_with (End m) ended = ended_for p g n old given m h (subst (HasEnded old.search.program.now old.goal.now old.budget m.ending m.steps m.longest) (sym none_before) ended)
