-- Lemmas on a run whose answers are written one at a time.
use Rattle.std.proofs.Common.{◌≡◌, ℕ, ◌<◌, List, [], ◌∷◌, ◌++◌, flat_map, ap, subst, ◌∙◌}
use Rattle.std.proofs.lemmas.List.{flat_map_more}
use Rattle.cti_terms.specs.declared.derivation.Goal.{Goal}
use Rattle.cti_terms.specs.Listing.{Listing}
use Rattle.ld_resolver.specs.declared.answer.Answer.{Answer}
use Rattle.ld_resolver.specs.declared.running.Found.{Found}
use Rattle.ld_resolver.specs.declared.running.Found.TheVariants.{Answer as TheAnswer, End}
use Rattle.ld_resolver.specs.declared.running.Running.{Running}
use Rattle.ld_resolver.specs.declared.running.Totals.{Totals}
use Rattle.ld_resolver.specs.Progress.{HasGiven, GoesOn, answers_ahead}
use Rattle.ld_resolver.proofs.ProgressLaws.{stopped_is, finished_is, overflow_is}
use Rattle.term_text.specs.RunLines.{answer_line, ran_line, run_lines}
use Rattle.term_text.specs.WholeRun.{IsRunText}

module _ (names : List (List ℕ)) (p : Listing) (g : Goal) (n : ℕ) where
  -- the text is the lines of the answers that a run has given
  abbrev pub HasWritten : Running → List ℕ → Type 0
  HasWritten run text = (given : List Answer) × HasGiven p g n run given × (text ≡ flat_map (answer_line names p.preds) given)

  module _ (old new : Running) (found : Found) (goes_on : (given : List Answer) → HasGiven p g n old given → GoesOn p g n old given found new)
      (text longer : List ℕ) (written : HasWritten old text) where
    -- with the line of the next answer
    pub one_more : (a : Answer) → found ≡ TheAnswer a → longer ≡ text ++ answer_line names p.preds a
        → HasWritten new longer × (answers_ahead new < answers_ahead old)
    one_more a is more =
        let given = written.0 in
        let line = answer_line names p.preds in
        let on = subst (λ (f : Found). GoesOn p g n old given f new) is (goes_on given written.1) in
        ((given ++ a ∷ [], on.0, more ∙ ap (λ t. t ++ line a) written.2 ∙ flat_map_more line [] given a), on.1)

    -- with the last line
    pub whole : (m : Totals) → found ≡ End m → longer ≡ text ++ ran_line m.steps m.longest m.ending → IsRunText names p g n longer m.ending
    whole m is more =
        let given = written.0 in
        let ended = subst (λ (f : Found). GoesOn p g n old given f new) is (goes_on given written.1) in
        record {
          lines = more ∙ ap (λ t. t ++ ran_line m.steps m.longest m.ending) written.2
              ∙ (λ i. run_lines names p (ended.told_all i) (ended.counted i) (ended.most_of_all i) m.ending);
          stopped = stopped_is p g n m.ending ended.ended;
          finished = finished_is p g n m.ending ended.ended;
          overflow = overflow_is p g n m.ending ended.ended;
        }
