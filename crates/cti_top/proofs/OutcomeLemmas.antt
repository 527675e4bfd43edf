-- What the status of the top call says.
use Rattle.std.proofs.Common.{◌≡◌, ℕ, ◌≤◌, ◌<◌, List, [], length, subst, Option, Some, None, ◌⊎◌, refl, ap, sym, ◌∙◌, inl, inr, arith, nat_eq, false}
use Rattle.std.proofs.lemmas.Option.{none-some, same_Some}
use Rattle.outside.specs.Told.{Map, TellsAt, TellsMore, Takes}
use Rattle.command_words.specs.Words.{Ask, infer, check, run, gen, lex, loop, session, Origin, file, generated, origin, query_of, asks}
use Rattle.term_size.specs.declared.any_norm.NormName.{NormName}
use Rattle.cti_top.specs.Programs.{IsRefused}
use Rattle.cti_top.specs.Sessions.{IsRefusedFor, IsRefusedSession}
use Rattle.report.specs.Generated.{generated as generated_text}
use Rattle.certificate.specs.Reading.{IsTextOf}
use Rattle.certificate.specs.Reading.{most_bytes as most_certificate_bytes}
use Rattle.certificate.specs.declared.certificate.Certificate.{Certificate}
use Rattle.cti_top.specs.Checks.{IsVerdictOn}
use Rattle.cti_top.specs.Summary.{IsSummary}
use Rattle.cti_top.specs.Checks as checks
use Rattle.cti_top.specs.Queries.{Known}
use Rattle.certificate.specs.declared.fact.Fact.{Fact}
use Rattle.cti_top.specs.Runs.{Ends, IsKnown, IsTextOfQuery, IsRefusedQuery}
use Rattle.cti_top.specs.Runs as runs
use Rattle.cti_top.specs.Loops.{IsTextOfLoop, IsLoopSearchOf}
use Rattle.cti_top.specs.Loops as loops
use Rattle.cti_terms.specs.Listing.{Listing}
use Rattle.cti_terms.specs.declared.derivation.Goal.{Goal}
use Rattle.ld_resolver.specs.declared.running.Ending.{Ending}
use Rattle.cti_top.specs.Answers.{AnswersCertificate, AnswersProgram, AnswersRequest}
use Rattle.cti_top.specs.Answers as answers
use Rattle.cti_top.specs.Outcome.{most_bytes, TellsText, TellsLong, IsAnswer, usage, inferred, lexed, summed, ran, looped, played, checked, program_too_long, program_refused, query_refused, certificate_too_long, certificate_refused, Outcome, HasFile, HasText, IsDoneOrMemory, IsRanOrMemory, IsLoopedOrMemory, IsCheckedOrMemory}
use Rattle.cti_top.specs.declared.status.Status.{Status}
use Rattle.cti_top.specs.declared.status.Status.TheVariants.{Done, No, Usage, Refused, FileFault, OutFault, Memory, Stopped, Overflow}

-- a verdict is written with its status
done_or_no : {p : Listing} {names : List (List ℕ)} {facts : List Fact} {status : Status} {text : List ℕ} → IsVerdictOn p names facts status text → (status ≡ Done) ⊎ (status ≡ No)
done_or_no (checks.valid v bounded excluded s e) = inl s
done_or_no (checks.not_valid line reason v fault s e) = inr s

file_unlike : (FileFault ≡ Done) ⊎ (FileFault ≡ No) → ⊥
file_unlike (inl e) = cc
file_unlike (inr e) = cc

out_unlike : (OutFault ≡ Done) ⊎ (OutFault ≡ No) → ⊥
out_unlike (inl e) = cc
out_unlike (inr e) = cc

memory_unlike : (Memory ≡ Done) ⊎ (Memory ≡ No) → ⊥
memory_unlike (inl e) = cc
memory_unlike (inr e) = cc

-- and so is what was found of a loop
looked_as : {p : Listing} {g : Goal} {d : ℕ} {status : Status} {text : List ℕ} → IsTextOfLoop p g d status text → (status ≡ Done) ⊎ (status ≡ No) ⊎ (status ≡ Stopped)
looked_as (loops.found before cycle l on unbounded s e) = inl s
looked_as (loops.none n w s e) = inr (inl s)
looked_as (loops.more m s e) = inr (inr s)

file_unlike_looked : (FileFault ≡ Done) ⊎ (FileFault ≡ No) ⊎ (FileFault ≡ Stopped) → ⊥
file_unlike_looked (inl e) = cc
file_unlike_looked (inr (inl e)) = cc
file_unlike_looked (inr (inr e)) = cc

out_unlike_looked : (OutFault ≡ Done) ⊎ (OutFault ≡ No) ⊎ (OutFault ≡ Stopped) → ⊥
out_unlike_looked (inl e) = cc
out_unlike_looked (inr (inl e)) = cc
out_unlike_looked (inr (inr e)) = cc

memory_unlike_looked : (Memory ≡ Done) ⊎ (Memory ≡ No) ⊎ (Memory ≡ Stopped) → ⊥
memory_unlike_looked (inl e) = cc
memory_unlike_looked (inr (inl e)) = cc
memory_unlike_looked (inr (inr e)) = cc

pub not_file : (told : Map) (words : List (List ℕ)) (text : List ℕ) → IsAnswer told words FileFault text → ⊥
not_file told words text (usage n s e) = cc
not_file told words text (inferred f b r a t m s) = cc
not_file told words text (lexed f b a t m s) = cc
not_file told words text (played f b a t m s) = cc
not_file told words text (summed n a m s) = cc
not_file told words text (ran f q n b a t r) = elim r.ran.ends [ ]
not_file told words text (looped f q d b a t r) = file_unlike_looked (looked_as r.looked)
not_file told words text (program_too_long k a m s e) = cc
not_file told words text (program_refused k b kind at a t r s e) = cc
not_file told words text (query_refused k q b kind at a w t r s e) = cc
not_file told words text (checked f c b d k a t i u h) = file_unlike (done_or_no h.verdict)
not_file told words text (certificate_too_long f c b k a t i m s e) = cc
not_file told words text (certificate_refused f c b d k l a t i u r s e) = cc

not_out : (told : Map) (words : List (List ℕ)) (text : List ℕ) → IsAnswer told words OutFault text → ⊥
not_out told words text (usage n s e) = cc
not_out told words text (inferred f b r a t m s) = cc
not_out told words text (lexed f b a t m s) = cc
not_out told words text (played f b a t m s) = cc
not_out told words text (summed n a m s) = cc
not_out told words text (ran f q n b a t r) = elim r.ran.ends [ ]
not_out told words text (looped f q d b a t r) = out_unlike_looked (looked_as r.looked)
not_out told words text (program_too_long k a m s e) = cc
not_out told words text (program_refused k b kind at a t r s e) = cc
not_out told words text (query_refused k q b kind at a w t r s e) = cc
not_out told words text (checked f c b d k a t i u h) = out_unlike (done_or_no h.verdict)
not_out told words text (certificate_too_long f c b k a t i m s e) = cc
not_out told words text (certificate_refused f c b d k l a t i u r s e) = cc

not_memory : (told : Map) (words : List (List ℕ)) (text : List ℕ) → IsAnswer told words Memory text → ⊥
not_memory told words text (usage n s e) = cc
not_memory told words text (inferred f b r a t m s) = cc
not_memory told words text (lexed f b a t m s) = cc
not_memory told words text (played f b a t m s) = cc
not_memory told words text (summed n a m s) = cc
not_memory told words text (ran f q n b a t r) = elim r.ran.ends [ ]
not_memory told words text (looped f q d b a t r) = memory_unlike_looked (looked_as r.looked)
not_memory told words text (program_too_long k a m s e) = cc
not_memory told words text (program_refused k b kind at a t r s e) = cc
not_memory told words text (query_refused k q b kind at a w t r s e) = cc
not_memory told words text (checked f c b d k a t i u h) = memory_unlike (done_or_no h.verdict)
not_memory told words text (certificate_too_long f c b k a t i m s e) = cc
not_memory told words text (certificate_refused f c b d k l a t i u r s e) = cc

-- a whole answer that the sink took
pub outcome_of : (told : Map) (words : List (List ℕ)) (before after : Option (List ℕ)) (status : Status) (text : List ℕ)
    → IsAnswer told words status text → Takes before text after → Outcome told words before after status
outcome_of told words before after Done text a t = (text, a, t)
outcome_of told words before after No text a t = (text, a, t)
outcome_of told words before after Usage text a t = (text, a, t)
outcome_of told words before after Refused text a t = (text, a, t)
outcome_of told words before after Stopped text a t = (text, a, t)
outcome_of told words before after Overflow text a t = (text, a, t)
outcome_of told words before after FileFault text a t = absurd (not_file told words text a)
outcome_of told words before after OutFault text a t = absurd (not_out told words text a)
outcome_of told words before after Memory text a t = absurd (not_memory told words text a)

-- a file is too long or short enough
long_or_short : (told : Map) (most : ℕ) (f name bytes : List ℕ) → f ≡ name → HasFile told name bytes → length bytes ≤ most → TellsMore told f most → ⊥
long_or_short None most f name bytes e h short more = h
long_or_short (Some files) most f name bytes e h short more =
    let same = same_Some _ _ (sym more.1 ∙ ap files e ∙ h) in
    let long : most < length bytes = rw same at more.2 in
    omega (arith, short, long)

pub same_bytes : (told : Map) (f name b bytes : List ℕ) → f ≡ name → HasFile told name bytes → TellsAt told f b → b ≡ bytes
same_bytes None f name b bytes e h t = absurd h
same_bytes (Some files) f name b bytes e h t = same_Some _ _ (sym t ∙ ap files e ∙ h)

-- the same of the texts of one origin
pub same_text : (told : Map) (o k : Origin) (b bytes : List ℕ) → o ≡ k → HasText told k bytes → TellsText told o b → b ≡ bytes
same_text told (file f) (file name) b bytes e h t = let same : f ≡ name = cc in same_bytes told f name b bytes same h t
same_text told (file f) (generated n) b bytes e h t = cc
same_text told (generated m) (file name) b bytes e h t = cc
same_text told (generated m) (generated n) b bytes e h t = let same : m ≡ n = cc in t ∙ ap generated_text same ∙ sym h

long_text : (told : Map) (o k : Origin) (bytes : List ℕ) → o ≡ k → HasText told k bytes → length bytes ≤ most_bytes → TellsLong told o → ⊥
long_text told (file f) (file name) bytes e h short m = let same : f ≡ name = cc in long_or_short told most_bytes f name bytes same h short m
long_text told (file f) (generated n) bytes e h short m = cc
long_text told (generated n) k bytes e h short m = m

-- which command it is
abbrev command_of : Ask → ℕ
command_of (infer f norm) = 0
command_of (check f c) = 1
command_of (run f q n) = 2
command_of (gen n) = 3
command_of (loop f q d) = 4
command_of (lex f) = 5
command_of (session f) = 6

no_other : (x : Ask) → nat_eq (command_of x) (command_of x) ≡ false → ⊥
no_other (infer f norm) e = cc
no_other (check f c) e = cc
no_other (run f q n) e = cc
no_other (gen n) e = cc
no_other (loop f q d) e = cc
no_other (lex f) e = cc
no_other (session f) e = cc

-- what is asked for is asked for once
pub one_ask : (words : List (List ℕ)) (x y : Ask) → asks words ≡ Some x → asks words ≡ Some y → x ≡ y
one_ask words x y a b = same_Some _ _ (sym a ∙ b)

-- and not by two commands
pub unlike : (words : List (List ℕ)) (x y : Ask) → asks words ≡ Some x → asks words ≡ Some y → nat_eq (command_of x) (command_of y) ≡ false → ⊥
unlike words x y a b e = no_other x (subst (λ (z : Ask). nat_eq (command_of x) (command_of z) ≡ false) (sym (one_ask words x y a b)) e)

-- nor is there a query where there is none
pub no_query : (words : List (List ℕ)) (x y : Ask) (q : List ℕ) → asks words ≡ Some x → asks words ≡ Some y → query_of y ≡ Some q → query_of x ≡ None → ⊥
no_query words x y q a b w n = none-some _ (sym n ∙ ap query_of (one_ask words x y a b) ∙ w)

-- the program's text has no fault
module _ (told : Map) (words : List (List ℕ)) (ask : Ask) (bytes : List ℕ) (asked : asks words ≡ Some ask) (has : HasText told (origin ask) bytes) where
  no_long : (k : Ask) → asks words ≡ Some k → TellsLong told (origin k) → length bytes ≤ most_bytes → ⊥
  no_long k a m short = long_text told (origin k) (origin ask) bytes (ap origin (one_ask words k ask a asked)) has short m

  no_refusal : (k : Ask) (b : List ℕ) (kind at : ℕ) → asks words ≡ Some k → TellsText told (origin k) b → IsRefusedFor k b kind at
      → ((kind at : ℕ) → IsRefusedFor ask bytes kind at → ⊥) → ⊥
  no_refusal k b kind at a t r none =
      let same_ask = one_ask words k ask a asked in
      let same = same_text told (origin k) (origin ask) b bytes (ap origin same_ask) has t in
      none kind at (subst (λ (x : Ask). IsRefusedFor x bytes kind at) same_ask (subst (λ (x : List ℕ). IsRefusedFor k x kind at) same r))

-- a file without a fault is answered
pub done_or_memory : (told : Map) (words : List (List ℕ)) (status : Status) (text name bytes : List ℕ) (norm : NormName) → IsAnswer told words status text → asks words ≡ Some (infer name norm)
    → HasFile told name bytes → length bytes ≤ most_bytes → ((kind at : ℕ) → IsRefused bytes kind at → ⊥) → IsDoneOrMemory status
done_or_memory told words status text name bytes norm (usage n s e) asked has short none = absurd (none-some _ (sym n ∙ asked))
done_or_memory told words status text name bytes norm (inferred f b r a t m s) asked has short none = inl s
done_or_memory told words status text name bytes norm (lexed f b a t m s) asked has short none = inl s
done_or_memory told words status text name bytes norm (played f b a t m s) asked has short none = inl s
done_or_memory told words status text name bytes norm (summed n a m s) asked has short none = inl s
done_or_memory told words status text name bytes norm (ran f q n b a t r) asked has short none = absurd (unlike words _ _ asked a refl)
done_or_memory told words status text name bytes norm (checked f c b d k a t i u h) asked has short none = absurd (unlike words _ _ asked a refl)
done_or_memory told words status text name bytes norm (program_too_long k a m s e) asked has short none = absurd (no_long told words (infer name norm) bytes asked has k a m short)
done_or_memory told words status text name bytes norm (program_refused k b kind at a t r s e) asked has short none =
    absurd (no_refusal told words (infer name norm) bytes asked has k b kind at a t r none)
done_or_memory told words status text name bytes norm (looped f q d b a t r) asked has short none = absurd (unlike words _ _ asked a refl)
done_or_memory told words status text name bytes norm (query_refused k q b kind at a w t r s e) asked has short none = absurd (no_query words _ k q asked a w refl)
done_or_memory told words status text name bytes norm (certificate_too_long f c b k a t i m s e) asked has short none = absurd (unlike words _ _ asked a refl)
done_or_memory told words status text name bytes norm (certificate_refused f c b d k l a t i u r s e) asked has short none =
    absurd (unlike words _ _ asked a refl)

-- and so is one for which lists of mappings are searched
pub lexed_or_memory : (told : Map) (words : List (List ℕ)) (status : Status) (text name bytes : List ℕ) → IsAnswer told words status text → asks words ≡ Some (lex name)
    → HasFile told name bytes → length bytes ≤ most_bytes → ((kind at : ℕ) → IsRefused bytes kind at → ⊥) → IsDoneOrMemory status
lexed_or_memory told words status text name bytes (usage n s e) asked has short none = absurd (none-some _ (sym n ∙ asked))
lexed_or_memory told words status text name bytes (inferred f b r a t m s) asked has short none = inl s
lexed_or_memory told words status text name bytes (lexed f b a t m s) asked has short none = inl s
lexed_or_memory told words status text name bytes (played f b a t m s) asked has short none = inl s
lexed_or_memory told words status text name bytes (summed n a m s) asked has short none = inl s
lexed_or_memory told words status text name bytes (ran f q n b a t r) asked has short none = absurd (unlike words _ _ asked a refl)
lexed_or_memory told words status text name bytes (checked f c b d k a t i u h) asked has short none = absurd (unlike words _ _ asked a refl)
lexed_or_memory told words status text name bytes (program_too_long k a m s e) asked has short none = absurd (no_long told words (lex name) bytes asked has k a m short)
lexed_or_memory told words status text name bytes (program_refused k b kind at a t r s e) asked has short none =
    absurd (no_refusal told words (lex name) bytes asked has k b kind at a t r none)
lexed_or_memory told words status text name bytes (looped f q d b a t r) asked has short none = absurd (unlike words _ _ asked a refl)
lexed_or_memory told words status text name bytes (query_refused k q b kind at a w t r s e) asked has short none = absurd (no_query words _ k q asked a w refl)
lexed_or_memory told words status text name bytes (certificate_too_long f c b k a t i m s e) asked has short none = absurd (unlike words _ _ asked a refl)
lexed_or_memory told words status text name bytes (certificate_refused f c b d k l a t i u r s e) asked has short none =
    absurd (unlike words _ _ asked a refl)

-- and so is a text whose edits can be done
pub played_or_memory : (told : Map) (words : List (List ℕ)) (status : Status) (text name bytes : List ℕ) → IsAnswer told words status text → asks words ≡ Some (session name)
    → HasFile told name bytes → length bytes ≤ most_bytes → ((kind at : ℕ) → IsRefusedSession bytes kind at → ⊥) → IsDoneOrMemory status
played_or_memory told words status text name bytes (usage n s e) asked has short none = absurd (none-some _ (sym n ∙ asked))
played_or_memory told words status text name bytes (inferred f b r a t m s) asked has short none = inl s
played_or_memory told words status text name bytes (lexed f b a t m s) asked has short none = inl s
played_or_memory told words status text name bytes (played f b a t m s) asked has short none = inl s
played_or_memory told words status text name bytes (summed n a m s) asked has short none = inl s
played_or_memory told words status text name bytes (ran f q n b a t r) asked has short none = absurd (unlike words _ _ asked a refl)
played_or_memory told words status text name bytes (checked f c b d k a t i u h) asked has short none = absurd (unlike words _ _ asked a refl)
played_or_memory told words status text name bytes (program_too_long k a m s e) asked has short none = absurd (no_long told words (session name) bytes asked has k a m short)
played_or_memory told words status text name bytes (program_refused k b kind at a t r s e) asked has short none =
    absurd (no_refusal told words (session name) bytes asked has k b kind at a t r none)
played_or_memory told words status text name bytes (looped f q d b a t r) asked has short none = absurd (unlike words _ _ asked a refl)
played_or_memory told words status text name bytes (query_refused k q b kind at a w t r s e) asked has short none = absurd (no_query words _ k q asked a w refl)
played_or_memory told words status text name bytes (certificate_too_long f c b k a t i m s e) asked has short none = absurd (unlike words _ _ asked a refl)
played_or_memory told words status text name bytes (certificate_refused f c b d k l a t i u r s e) asked has short none =
    absurd (unlike words _ _ asked a refl)

-- a generated program without a fault is answered
pub summed_or_memory : (told : Map) (words : List (List ℕ)) (status : Status) (text : List ℕ) (n : ℕ) → IsAnswer told words status text → asks words ≡ Some (gen n)
    → length (generated_text n) ≤ most_bytes → ((kind at : ℕ) → IsRefused (generated_text n) kind at → ⊥) → IsDoneOrMemory status
summed_or_memory told words status text n (usage none s e) asked short no_fault = absurd (none-some _ (sym none ∙ asked))
summed_or_memory told words status text n (inferred f b r a t m s) asked short no_fault = inl s
summed_or_memory told words status text n (lexed f b a t m s) asked short no_fault = inl s
summed_or_memory told words status text n (played f b a t m s) asked short no_fault = inl s
summed_or_memory told words status text n (summed m a h s) asked short no_fault = inl s
summed_or_memory told words status text n (ran f q k b a t r) asked short no_fault = absurd (unlike words _ _ asked a refl)
summed_or_memory told words status text n (checked f c b d k a t i u h) asked short no_fault = absurd (unlike words _ _ asked a refl)
summed_or_memory told words status text n (program_too_long k a m s e) asked short no_fault = absurd (no_long told words (gen n) (generated_text n) asked refl k a m short)
summed_or_memory told words status text n (program_refused k b kind at a t r s e) asked short no_fault =
    absurd (no_refusal told words (gen n) (generated_text n) asked refl k b kind at a t r no_fault)
summed_or_memory told words status text n (looped f q d b a t r) asked short no_fault = absurd (unlike words _ _ asked a refl)
summed_or_memory told words status text n (query_refused k q b kind at a w t r s e) asked short no_fault = absurd (no_query words _ k q asked a w refl)
summed_or_memory told words status text n (certificate_too_long f c b k a t i m s e) asked short no_fault = absurd (unlike words _ _ asked a refl)
summed_or_memory told words status text n (certificate_refused f c b d k l a t i u r s e) asked short no_fault = absurd (unlike words _ _ asked a refl)

-- a run ends as it was asked, is stopped, or meets a value that is too large
ended : {p : Listing} {g : Goal} {n : ℕ} {e : Ending} (status : Status) → Ends p g n status e → IsRanOrMemory status
ended status h = elim h as (λ s e _. IsRanOrMemory s) [
  | runs.wide w ↦ inr (inr (inl refl))
  | runs.more w m ↦ inr (inl refl)
  | runs.no_more w m ↦ inl refl
]

-- the name of the certificate's file
abbrev certificate_of : Ask → List ℕ
certificate_of (check f c) = c
certificate_of ask = []

-- one query of one program
module _ (told : Map) (words : List (List ℕ)) (ask k : Ask) (asked : asks words ≡ Some ask) (a : asks words ≡ Some k) where
  pub one_text : (bytes b : List ℕ) → HasText told (origin ask) bytes → TellsText told (origin k) b → b ≡ bytes
  one_text bytes b has t = same_text told (origin k) (origin ask) b bytes (ap origin (one_ask words k ask a asked)) has t

  pub one_query : (query q : List ℕ) → query_of ask ≡ Some query → query_of k ≡ Some q → q ≡ query
  one_query query q v w = same_Some _ _ (sym w ∙ ap query_of (one_ask words k ask a asked) ∙ v)

  -- the query has no fault
  no_query_fault : (query q bytes b : List ℕ) (kind at : ℕ) → query_of ask ≡ Some query → query_of k ≡ Some q → HasText told (origin ask) bytes
      → TellsText told (origin k) b → IsRefusedQuery b q kind at → ((kind at : ℕ) → IsRefusedQuery bytes query kind at → ⊥) → ⊥
  no_query_fault query q bytes b kind at v w has t r none =
      let same = one_text bytes b has t in
      let same_query = one_query query q v w in
      none kind at (rw (same, same_query) at r)

or_memory : (status : Status) → (status ≡ Done) ⊎ (status ≡ No) ⊎ (status ≡ Stopped) → IsLoopedOrMemory status
or_memory status (inl h) = inl h
or_memory status (inr (inl h)) = inr (inl h)
or_memory status (inr (inr h)) = inr (inr (inl h))

-- a query without a fault is answered, where its file has none
pub ran_or_memory : (told : Map) (words : List (List ℕ)) (status : Status) (text name query bytes : List ℕ) (steps : ℕ) → IsAnswer told words status text
    → asks words ≡ Some (run name query steps) → HasFile told name bytes → length bytes ≤ most_bytes → ((kind at : ℕ) → IsRefused bytes kind at → ⊥)
    → ((kind at : ℕ) → IsRefusedQuery bytes query kind at → ⊥) → IsRanOrMemory status
ran_or_memory told words status text name query bytes steps (usage n s e) asked has short none no_fault = absurd (none-some _ (sym n ∙ asked))
ran_or_memory told words status text name query bytes steps (inferred f b r a t m s) asked has short none no_fault = inl s
ran_or_memory told words status text name query bytes steps (lexed f b a t m s) asked has short none no_fault = inl s
ran_or_memory told words status text name query bytes steps (played f b a t m s) asked has short none no_fault = inl s
ran_or_memory told words status text name query bytes steps (summed n a m s) asked has short none no_fault = inl s
ran_or_memory told words status text name query bytes steps (ran f q n b a t r) asked has short none no_fault = ended status r.ran.ends
ran_or_memory told words status text name query bytes steps (checked f c b d k a t i u h) asked has short none no_fault = absurd (unlike words _ _ a asked refl)
ran_or_memory told words status text name query bytes steps (program_too_long k a m s e) asked has short none no_fault =
    absurd (no_long told words (run name query steps) bytes asked has k a m short)
ran_or_memory told words status text name query bytes steps (program_refused k b kind at a t r s e) asked has short none no_fault =
    absurd (no_refusal told words (run name query steps) bytes asked has k b kind at a t r none)
ran_or_memory told words status text name query bytes steps (looped f q d b a t r) asked has short none no_fault = absurd (unlike words _ _ asked a refl)
ran_or_memory told words status text name query bytes steps (query_refused k q b kind at a w t r s e) asked has short none no_fault =
    absurd (no_query_fault told words (run name query steps) k asked a query q bytes b kind at refl w has t r no_fault)
ran_or_memory told words status text name query bytes steps (certificate_too_long f c b k a t i m s e) asked has short none no_fault =
    absurd (unlike words _ _ a asked refl)
ran_or_memory told words status text name query bytes steps (certificate_refused f c b d k l a t i u r s e) asked has short none no_fault =
    absurd (unlike words _ _ a asked refl)

-- and so is one whose loops are looked for
pub looped_or_memory : (told : Map) (words : List (List ℕ)) (status : Status) (text name query bytes : List ℕ) (depth : ℕ) → IsAnswer told words status text
    → asks words ≡ Some (loop name query depth) → HasFile told name bytes → length bytes ≤ most_bytes → ((kind at : ℕ) → IsRefused bytes kind at → ⊥)
    → ((kind at : ℕ) → IsRefusedQuery bytes query kind at → ⊥) → IsLoopedOrMemory status
looped_or_memory told words status text name query bytes depth (usage n s e) asked has short none no_fault = absurd (none-some _ (sym n ∙ asked))
looped_or_memory told words status text name query bytes depth (inferred f b r a t m s) asked has short none no_fault = inl s
looped_or_memory told words status text name query bytes depth (lexed f b a t m s) asked has short none no_fault = inl s
looped_or_memory told words status text name query bytes depth (played f b a t m s) asked has short none no_fault = inl s
looped_or_memory told words status text name query bytes depth (summed n a m s) asked has short none no_fault = inl s
looped_or_memory told words status text name query bytes depth (ran f q n b a t r) asked has short none no_fault = absurd (unlike words _ _ asked a refl)
looped_or_memory told words status text name query bytes depth (looped f q d b a t r) asked has short none no_fault = or_memory status (looked_as r.looked)
looped_or_memory told words status text name query bytes depth (checked f c b d k a t i u h) asked has short none no_fault = absurd (unlike words _ _ asked a refl)
looped_or_memory told words status text name query bytes depth (program_too_long k a m s e) asked has short none no_fault =
    absurd (no_long told words (loop name query depth) bytes asked has k a m short)
looped_or_memory told words status text name query bytes depth (program_refused k b kind at a t r s e) asked has short none no_fault =
    absurd (no_refusal told words (loop name query depth) bytes asked has k b kind at a t r none)
looped_or_memory told words status text name query bytes depth (query_refused k q b kind at a w t r s e) asked has short none no_fault =
    absurd (no_query_fault told words (loop name query depth) k asked a query q bytes b kind at refl w has t r no_fault)
looped_or_memory told words status text name query bytes depth (certificate_too_long f c b k a t i m s e) asked has short none no_fault =
    absurd (unlike words _ _ asked a refl)
looped_or_memory told words status text name query bytes depth (certificate_refused f c b d k l a t i u r s e) asked has short none no_fault =
    absurd (unlike words _ _ asked a refl)

yes_or_no : (status : Status) → (status ≡ Done) ⊎ (status ≡ No) → IsCheckedOrMemory status
yes_or_no status (inl h) = inl h
yes_or_no status (inr h) = inr (inl h)

-- a certificate's text is checked, where its program has no fault
pub checked_or_memory : (told : Map) (words : List (List ℕ)) (status : Status) (text name certificate bytes certified : List ℕ) (c : Certificate) → IsAnswer told words status text
    → asks words ≡ Some (check name certificate) → HasFile told name bytes → length bytes ≤ most_bytes → ((kind at : ℕ) → IsRefused bytes kind at → ⊥)
    → HasFile told certificate certified → IsTextOf c certified → IsCheckedOrMemory status
checked_or_memory told words status text name certificate bytes certified c (usage n s e) asked has short none held is = absurd (none-some _ (sym n ∙ asked))
checked_or_memory told words status text name certificate bytes certified c (inferred f b r a t m s) asked has short none held is = inl s
checked_or_memory told words status text name certificate bytes certified c (lexed f b a t m s) asked has short none held is = inl s
checked_or_memory told words status text name certificate bytes certified c (played f b a t m s) asked has short none held is = inl s
checked_or_memory told words status text name certificate bytes certified c (summed n a m s) asked has short none held is = inl s
checked_or_memory told words status text name certificate bytes certified c (ran f q n b a t r) asked has short none held is =
    absurd (unlike words _ _ asked a refl)
checked_or_memory told words status text name certificate bytes certified c (checked f d b e k a t i u h) asked has short none held is = yes_or_no status (done_or_no h.verdict)
checked_or_memory told words status text name certificate bytes certified c (program_too_long k a m s e) asked has short none held is =
    absurd (no_long told words (check name certificate) bytes asked has k a m short)
checked_or_memory told words status text name certificate bytes certified c (program_refused k b kind at a t r s e) asked has short none held is =
    absurd (no_refusal told words (check name certificate) bytes asked has k b kind at a t r none)
checked_or_memory told words status text name certificate bytes certified c (looped f q d b a t r) asked has short none held is = absurd (unlike words _ _ asked a refl)
checked_or_memory told words status text name certificate bytes certified c (query_refused k q b kind at a w t r s e) asked has short none held is =
    absurd (no_query words _ k q asked a w refl)
checked_or_memory told words status text name certificate bytes certified c (certificate_too_long f d b k a t i m s e) asked has short none held is =
    absurd (long_or_short told most_certificate_bytes d certificate certified (ap certificate_of (one_ask words _ _ a asked)) held is.short m)
checked_or_memory told words status text name certificate bytes certified c (certificate_refused f d b e k l a t i u r s o) asked has short none held is =
    let same = same_bytes told d certificate e certified (ap certificate_of (one_ask words _ _ a asked)) held u in
    absurd (r.none c (rw same is))

-- a certificate's text that is none is refused, and so are all texts there
pub not_certified : (told : Map) (words : List (List ℕ)) (status : Status) (text name certificate certified : List ℕ) → IsAnswer told words status text
    → asks words ≡ Some (check name certificate) → HasFile told certificate certified → ((c : Certificate) → IsTextOf c certified → ⊥) → status ≡ Refused
not_certified told words status text name certificate certified (usage n s e) asked held none = absurd (none-some _ (sym n ∙ asked))
not_certified told words status text name certificate certified (inferred f b r a t m s) asked held none = absurd (unlike words _ _ asked a refl)
not_certified told words status text name certificate certified (lexed f b a t m s) asked held none = absurd (unlike words _ _ asked a refl)
not_certified told words status text name certificate certified (played f b a t m s) asked held none = absurd (unlike words _ _ asked a refl)
not_certified told words status text name certificate certified (summed n a m s) asked held none = absurd (unlike words _ _ asked a refl)
not_certified told words status text name certificate certified (ran f q n b a t r) asked held none = absurd (unlike words _ _ asked a refl)
not_certified told words status text name certificate certified (looped f q d b a t r) asked held none = absurd (unlike words _ _ asked a refl)
not_certified told words status text name certificate certified (checked f d b e k a t i u h) asked held none =
    let same = same_bytes told d certificate e certified (ap certificate_of (one_ask words _ _ a asked)) held u in
    absurd (none h.certificate (subst (λ (x : List ℕ). IsTextOf h.certificate x) same h.is))
not_certified told words status text name certificate certified (program_too_long k a m s e) asked held none = s
not_certified told words status text name certificate certified (program_refused k b kind at a t r s e) asked held none = s
not_certified told words status text name certificate certified (query_refused k q b kind at a w t r s e) asked held none = s
not_certified told words status text name certificate certified (certificate_too_long f d b k a t i m s e) asked held none = s
not_certified told words status text name certificate certified (certificate_refused f d b e k l a t i u r s o) asked held none = s

-- words that ask for nothing are answered by the usage
pub not_asked : (told : Map) (words : List (List ℕ)) (status : Status) (text : List ℕ) → IsAnswer told words status text → asks words ≡ None → status ≡ Usage
not_asked told words status text (usage n s e) none = s
not_asked told words status text (inferred f b r a t m s) none = absurd (none-some _ (sym none ∙ a))
not_asked told words status text (lexed f b a t m s) none = absurd (none-some _ (sym none ∙ a))
not_asked told words status text (played f b a t m s) none = absurd (none-some _ (sym none ∙ a))
not_asked told words status text (summed n a m s) none = absurd (none-some _ (sym none ∙ a))
not_asked told words status text (ran f q n b a t r) none = absurd (none-some _ (sym none ∙ a))
not_asked told words status text (looped f q d b a t r) none = absurd (none-some _ (sym none ∙ a))
not_asked told words status text (checked f c b d k a t i u h) none = absurd (none-some _ (sym none ∙ a))
not_asked told words status text (program_too_long k a m s e) none = absurd (none-some _ (sym none ∙ a))
not_asked told words status text (program_refused k b kind at a t r s e) none = absurd (none-some _ (sym none ∙ a))
not_asked told words status text (query_refused k q b kind at a w t r s e) none = absurd (none-some _ (sym none ∙ a))
not_asked told words status text (certificate_too_long f c b k a t i m s e) none = absurd (none-some _ (sym none ∙ a))
not_asked told words status text (certificate_refused f c b d k l a t i u r s e) none = absurd (none-some _ (sym none ∙ a))

-- the answer to a certificate, whose program was read
certified : (told : Map) (words : List (List ℕ)) (f name bytes : List ℕ) (known : Known) (status : Status) (text : List ℕ) → asks words ≡ Some (check f name)
    → TellsAt told f bytes → IsKnown bytes known → AnswersCertificate told known name status text → IsAnswer told words status text
certified told words f name bytes known status text a t i (answers.read d u (inl h)) = checked f name bytes d known a t i u h
certified told words f name bytes known status text a t i (answers.read d u (inr (line, r, h))) =
    certificate_refused f name bytes d known line a t i u r h.status h.printed
certified told words f name bytes known status text a t i (answers.long m h) = certificate_too_long f name bytes known a t i m h.status h.printed

-- the answer to the bytes of the program
answered : (told : Map) (words : List (List ℕ)) (ask : Ask) (bytes : List ℕ) (status : Status) (text : List ℕ) → asks words ≡ Some ask → TellsText told (origin ask) bytes
    → AnswersProgram told bytes ask status text → IsAnswer told words status text
answered told words (infer f norm) bytes status text a t (inl (s, m)) = inferred f bytes norm a t m s
answered told words (check f name) bytes status text a t (inl (known, i, h)) = certified told words f name bytes known status text a t i h
answered told words (run f query n) bytes status text a t (inl (inl r)) = ran f query n bytes a t r
answered told words (run f query n) bytes status text a t (inl (inr (kind, at, r, h))) = query_refused (run f query n) query bytes kind at a refl t r h.status h.line
answered told words (loop f query d) bytes status text a t (inl (inl r)) = looped f query d bytes a t r
answered told words (loop f query d) bytes status text a t (inl (inr (kind, at, r, h))) = query_refused (loop f query d) query bytes kind at a refl t r h.status h.line
answered told words (lex f) bytes status text a t (inl (s, m)) = lexed f bytes a t m s
answered told words (session f) bytes status text a t (inl (s, m)) = played f bytes a t m s
answered told words (gen n) bytes status text a t (inl (s, m)) = summed n a (subst (λ (b : List ℕ). IsSummary b n text) t m) s
answered told words ask bytes status text a t (inr (kind, at, r, h)) = program_refused ask bytes kind at a t r h.status h.line

-- the answer to what is asked
pub request_answered : (told : Map) (words : List (List ℕ)) (ask : Ask) (status : Status) (text : List ℕ) → asks words ≡ Some ask → AnswersRequest told ask status text
    → IsAnswer told words status text
request_answered told words ask status text a (answers.read bytes t h) = answered told words ask bytes status text a t h
request_answered told words ask status text a (answers.long m h) = program_too_long ask a m h.status h.printed
