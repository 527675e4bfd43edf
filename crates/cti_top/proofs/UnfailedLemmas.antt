-- What a call in which no load and no write failed answers.
use Rattle.std.proofs.Common.{◌≡◌, ◌≢◌, ℕ, List, Option, Some, None, ◌⊎◌, refl, inl, inr}
use Rattle.outside.specs.Told.{Map}
use Rattle.term_size.specs.declared.any_norm.NormName.{NormName}
use Rattle.certificate.specs.Reading.{IsTextOf}
use Rattle.certificate.specs.declared.certificate.Certificate.{Certificate}
use Rattle.edit_texts.specs.Edits.{Told}
use Rattle.cti_terms.specs.Listing.{Listing}
use Rattle.cti_terms.specs.declared.derivation.Goal.{Goal}
use Rattle.report.specs.Generated.{generated}
use Rattle.command_words.specs.Words.{Ask, infer, check, run, gen, lex, loop, session, origin, query_of, asks}
use Rattle.cti_top.specs.Queries.{Known, IsQueryOf}
use Rattle.cti_top.specs.Runs.{IsKnown, IsRefusedQuery}
use Rattle.cti_top.specs.Sessions.{IsRefusedFor, IsToldBy}
use Rattle.cti_top.specs.Outcome.{IsAnswer, Outcome, IsUnfailed, HasFile, HasText, IsDoneOrMemory, IsRanOrMemory, IsLoopedOrMemory, IsCheckedOrMemory, IsUsageOrMemory, IsRefusedOrMemory}
use Rattle.cti_top.specs.declared.status.Status.{Status}
use Rattle.cti_top.specs.declared.status.Status.TheVariants.{Done, No, Usage, Refused, FileFault, OutFault, Memory, Stopped, Overflow}
use Rattle.cti_top.proofs.OneAnswer.{is_short, none_refused, no_query_refused}
use Rattle.cti_top.proofs.OneSession.{told_or_refused, told_short}
use Rattle.cti_top.proofs.GeneratedLemmas.{asked_known}
use Rattle.cti_top.proofs.RefusedLemmas.{refused_answer, query_refused_answer}
use Rattle.cti_top.proofs.OutcomeLemmas.{done_or_memory, lexed_or_memory, played_or_memory, summed_or_memory, ran_or_memory, looped_or_memory, checked_or_memory, not_certified, not_asked}

module _ (told : Map) (words : List (List ℕ)) where
  -- a text was written whole, or memory ran out
  abbrev pub HasAnswered : Status → Type 0
  HasAnswered status = (status ≡ Memory) ⊎ ((text : List ℕ) × IsAnswer told words status text)

  answered_by : (before after : Option (List ℕ)) (status : Status) → Outcome told words before after status → status ≢ FileFault → status ≢ OutFault → HasAnswered status
  answered_by before after Done o l w = inr (o.0, o.1)
  answered_by before after No o l w = inr (o.0, o.1)
  answered_by before after Usage o l w = inr (o.0, o.1)
  answered_by before after Refused o l w = inr (o.0, o.1)
  answered_by before after Stopped o l w = inr (o.0, o.1)
  answered_by before after Overflow o l w = inr (o.0, o.1)
  answered_by before after FileFault o l w = absurd (l refl)
  answered_by before after OutFault o l w = absurd (w refl)
  answered_by before after Memory o l w = inl refl

  pub answered : (status : Status) → IsUnfailed told words status → HasAnswered status
  answered status u = answered_by u.before u.after status u.outcome u.loaded u.written

  module _ (status : Status) (name bytes : List ℕ) where
    pub inferred_answered : (norm : NormName) (known : Known) → asks words ≡ Some (infer name norm) → HasFile told name bytes → IsKnown bytes known → HasAnswered status
        → IsDoneOrMemory status
    inferred_answered norm known asked has is (inl m) = inr m
    inferred_answered norm known asked has is (inr a) =
        done_or_memory told words status a.0 name bytes norm a.1 asked has (is_short bytes known is) (none_refused bytes known is)

    pub lexed_answered : (known : Known) → asks words ≡ Some (lex name) → HasFile told name bytes → IsKnown bytes known → HasAnswered status → IsDoneOrMemory status
    lexed_answered known asked has is (inl m) = inr m
    lexed_answered known asked has is (inr a) = lexed_or_memory told words status a.0 name bytes a.1 asked has (is_short bytes known is) (none_refused bytes known is)

    pub checked_answered : (certificate certified : List ℕ) (known : Known) (c : Certificate) → asks words ≡ Some (check name certificate) → HasFile told name bytes → IsKnown bytes known
        → HasFile told certificate certified → IsTextOf c certified → HasAnswered status → IsCheckedOrMemory status
    checked_answered certificate certified known c asked has is held written (inl m) = inr (inr m)
    checked_answered certificate certified known c asked has is held written (inr a) =
        checked_or_memory told words status a.0 name certificate bytes certified c a.1 asked has (is_short bytes known is) (none_refused bytes known is) held written

    pub played_answered : (names : List (List ℕ)) (edits : List Told) → asks words ≡ Some (session name) → HasFile told name bytes → IsToldBy bytes names edits → HasAnswered status
        → IsDoneOrMemory status
    played_answered names edits asked has is (inl m) = inr m
    played_answered names edits asked has is (inr a) =
        played_or_memory told words status a.0 name bytes a.1 asked has (told_short bytes names edits is) (λ kind at. told_or_refused bytes names edits kind at is)

    pub ran_answered : (query : List ℕ) (steps : ℕ) (known : Known) (names : List (List ℕ)) (p : Listing) (g : Goal) → asks words ≡ Some (run name query steps) → HasFile told name bytes
        → IsKnown bytes known → IsQueryOf known query names p g → HasAnswered status → IsRanOrMemory status
    ran_answered query steps known names p g asked has is goal (inl m) = inr (inr (inr m))
    ran_answered query steps known names p g asked has is goal (inr a) =
        ran_or_memory told words status a.0 name query bytes steps a.1 asked has (is_short bytes known is) (none_refused bytes known is) (no_query_refused bytes query known names p g is goal)

    pub looped_answered : (query : List ℕ) (depth : ℕ) (known : Known) (names : List (List ℕ)) (p : Listing) (g : Goal) → asks words ≡ Some (loop name query depth) → HasFile told name bytes
        → IsKnown bytes known → IsQueryOf known query names p g → HasAnswered status → IsLoopedOrMemory status
    looped_answered query depth known names p g asked has is goal (inl m) = inr (inr (inr m))
    looped_answered query depth known names p g asked has is goal (inr a) =
        looped_or_memory told words status a.0 name query bytes depth a.1 asked has (is_short bytes known is) (none_refused bytes known is) (no_query_refused bytes query known names p g is goal)

  pub summed_answered : (status : Status) (n : ℕ) → asks words ≡ Some (gen n) → HasAnswered status → IsDoneOrMemory status
  summed_answered status n asked (inl m) = inr m
  summed_answered status n asked (inr a) =
      let it = asked_known words n asked in
      summed_or_memory told words status a.0 n a.1 asked (is_short (generated n) it.0 it.1) (none_refused (generated n) it.0 it.1)

  module _ (status : Status) (ask : Ask) (bytes : List ℕ) (kind at : ℕ) where
    pub refusal_answered : asks words ≡ Some ask → HasText told (origin ask) bytes → IsRefusedFor ask bytes kind at → HasAnswered status → IsRefusedOrMemory status
    refusal_answered asked has r (inl m) = inr m
    refusal_answered asked has r (inr a) = inl (refused_answer told words status a.0 ask bytes kind at a.1 asked has r)

    pub query_refusal_answered : (query : List ℕ) → asks words ≡ Some ask → query_of ask ≡ Some query → HasText told (origin ask) bytes → IsRefusedQuery bytes query kind at
        → HasAnswered status → IsRefusedOrMemory status
    query_refusal_answered query asked with_query has r (inl m) = inr m
    query_refusal_answered query asked with_query has r (inr a) = inl (query_refused_answer told words status a.0 ask query bytes kind at a.1 asked with_query has r)

  module _ (status : Status) where
    pub certificate_refusal_answered : (name certificate certified : List ℕ) → asks words ≡ Some (check name certificate) → HasFile told certificate certified
        → ((c : Certificate) → IsTextOf c certified → ⊥) → HasAnswered status → IsRefusedOrMemory status
    certificate_refusal_answered name certificate certified asked held none (inl m) = inr m
    certificate_refusal_answered name certificate certified asked held none (inr a) = inl (not_certified told words status a.0 name certificate certified a.1 asked held none)

    pub usage_answered : asks words ≡ None → HasAnswered status → IsUsageOrMemory status
    usage_answered none (inl m) = inr m
    usage_answered none (inr a) = inl (not_asked told words status a.0 a.1 none)
