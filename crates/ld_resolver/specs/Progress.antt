-- Private.
-- How far a run has come. Nothing here has to be believed.
use Rattle.std.specs.Prelude.{◌≡◌, ℕ, zero, suc, ◌<◌, Bool, true, false, if◌then◌else◌, ◌+◌, ◌-◌, ◌≤◌, List, [], ◌∷◌, ◌++◌, map, length, Option, None, Some}
use Rattle.std.specs.List.{cons_option, list_any}
use Rattle.cti_terms.specs.declared.derivation.Goal.{Goal}
use Rattle.cti_terms.specs.Arithmetic.{begins_wide}
use Rattle.cti_terms.specs.Listing.{Listing}
use Rattle.cti_terms.specs.Nodes.{HasMoreNodes, longest}
use Rattle.cti_terms.specs.Answers.{answer_by, answers, visited_nodes, HasWide}
use Rattle.cti_terms.specs.Lifts.{IsGoalOf}
use Rattle.ld_resolver.specs.declared.answer.Answer.{Answer}
use Rattle.ld_resolver.specs.declared.running.Ending.{Ending}
use Rattle.ld_resolver.specs.declared.running.Ending.TheVariants.{Finished, Stopped, Overflow}
use Rattle.ld_resolver.specs.declared.running.Totals.{Totals}
use Rattle.ld_resolver.specs.declared.running.Found.{Found}
use Rattle.ld_resolver.specs.declared.running.Found.TheVariants.{Answer as TheAnswer, End}
use Rattle.ld_resolver.specs.declared.running.Progress.{Progress}
use Rattle.ld_resolver.specs.declared.running.Progress.TheVariants.{UnderWay, Answered, Ended}
use Rattle.ld_resolver.specs.declared.running.Running.{Running}
use Rattle.ld_resolver.specs.declared.search.Search.{Search}
use Rattle.ld_resolver.specs.Chain.{IsChain}
use Rattle.ld_resolver.specs.Told.{told}
use Rattle.ld_resolver.specs.Measured.{answered_atoms}
use Rattle.ld_resolver.specs.Walk.{Visit, walk, most_steps, met_answers}
use Rattle.ld_resolver.specs.Searches.{AreWithin, IsSearch, left_of, choices_of, attempts_left}

-- k times w
abbrev pub scaled : ℕ → ℕ → ℕ
scaled zero w = 0
scaled (suc k) w = w + scaled k w

-- the answers that are reported after these visits
abbrev pub told_after : Goal → List Visit → List Answer
told_after g done = map told (cons_option (answer_by g.atoms [] g.atoms) (met_answers done))

-- these visits are done of a run within n nodes, and the rest is left
pub record IsDone (p : Listing) (g : Goal) (n : ℕ) (done left : List Visit) (steps deepest : ℕ) (told_now : List Answer) : Type 0 where
  pub walked : walk p g.atoms (suc n) [] 0 g ≡ done ++ left
  pub counted : length done ≡ steps
  pub most : most_steps done ≡ deepest
  pub told_so_far : told_now ≡ told_after g done
  pub fit : list_any (λ (v : Visit). v.wide) done ≡ false

-- the state of a run between two attempts
pub record IsUnderWay (p : Listing) (g : Goal) (n : ℕ) (x : Search) (steps most : ℕ) (told_now : List Answer) : Type 0 where
  pub search : IsSearch x
  pub program : x.program.now ≡ p
  pub done : (done : List Visit) × IsDone p g n done (left_of g.atoms n x) steps most told_now
  pub within : steps ≤ n
  pub begins : begins_wide p.arithmetic g.atoms ≡ false
  pub depth : AreWithin steps (choices_of x)

-- a number that falls at each attempt
abbrev pub to_do : Listing → ℕ → Search → ℕ → ℕ
to_do p n x steps = scaled (n - steps) (suc (suc (length p.clauses))) + attempts_left x

-- the ways in which a run ends
abbrev pub EndsAs : Listing → Goal → ℕ → Ending → Type 0
EndsAs p g n Finished = (¬ HasWide p g n) × (¬ HasMoreNodes p g n)
EndsAs p g n Stopped = (¬ HasWide p g n) × HasMoreNodes p g n
EndsAs p g n Overflow = HasWide p g n

-- what a run has found at its end
pub record HasEnded (p : Listing) (g : Goal) (n : ℕ) (ending : Ending) (steps most : ℕ) (told_now : List Answer) : Type 0 where
  pub told_all : told_now ≡ map told (answers p g n)
  pub counted : steps ≡ length (visited_nodes p g n)
  pub most_of_all : most ≡ longest (visited_nodes p g n)
  pub ended : EndsAs p g n ending

-- entering the query finds nothing, the first answer, or the end
abbrev pub HasBegun : Listing → Goal → ℕ → Search → Option Found → Type 0
HasBegun p g n new None = IsUnderWay p g n new 0 0 []
HasBegun p g n new (Some (TheAnswer a)) = IsUnderWay p g n new 0 0 (a ∷ [])
HasBegun p g n new (Some (End m)) = HasEnded p g n m.ending m.steps m.longest []

-- after an attempt a run goes on, with less to be done and perhaps one more answer, or has ended
abbrev pub HasAdvanced : Listing → Goal → ℕ → Search → ℕ → Search → Totals → List Answer → Progress → Type 0
HasAdvanced p g n old steps new totals given UnderWay = IsUnderWay p g n new totals.steps totals.longest given × (to_do p n new totals.steps < to_do p n old steps)
HasAdvanced p g n old steps new totals given Answered = IsUnderWay p g n new totals.steps totals.longest (given ++ told (answered_atoms new.bindings g.atoms) ∷ []) × (to_do p n new totals.steps < to_do p n old steps)
HasAdvanced p g n old steps new totals given Ended = HasEnded p g n totals.ending totals.steps totals.longest given

-- before the query is entered nothing is bound or counted, and there is nothing to be tried
pub record IsFresh (p : Listing) (g : Goal) (x : Search) (totals : Totals) : Type 0 where
  pub goal : IsGoalOf p g
  pub bindings : x.bindings ≡ []
  pub tails : x.tails ≡ []
  pub choices : x.choices.items ≡ []
  pub steps : totals.steps ≡ 0
  pub longest : totals.longest ≡ 0

-- the state of a run that has given these answers, before and after the query is entered
abbrev pub IsAt : Listing → Goal → ℕ → Search → Totals → List Answer → Bool → Type 0
IsAt p g n x totals given false = IsFresh p g x totals × (given ≡ [])
IsAt p g n x totals given true = IsUnderWay p g n x totals.steps totals.longest given

-- a run of this goal within n nodes has given these answers
pub record HasGiven (p : Listing) (g : Goal) (n : ℕ) (run : Running) (given : List Answer) : Type 0 where
  pub program : run.search.program.now ≡ p
  pub goal : run.goal.now ≡ g
  pub budget : run.budget ≡ n
  pub chain : IsChain run.search.program.now run.chain
  pub at : IsAt run.search.program.now run.goal.now run.budget run.search run.totals given run.has_begun

-- a run that has given some answers, and can give more
abbrev pub IsRunning : Running → Type 0
IsRunning run = (given : List Answer) × HasGiven run.search.program.now run.goal.now run.budget run given

-- a number that falls at each answer
abbrev pub answers_ahead : Running → ℕ
answers_ahead run = if run.has_begun
    then to_do run.search.program.now run.budget run.search run.totals.steps
    else suc (scaled (suc run.budget) (suc (suc (length run.search.program.now.clauses))))

-- a run that has given some answers gives one more, or has given all
abbrev pub GoesOn : Listing → Goal → ℕ → Running → List Answer → Found → Running → Type 0
GoesOn p g n old given (TheAnswer a) new = HasGiven p g n new (given ++ a ∷ []) × (answers_ahead new < answers_ahead old)
GoesOn p g n old given (End m) new = HasEnded p g n m.ending m.steps m.longest given
