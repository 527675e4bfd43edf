-- Private.
-- What the answer to a program's bytes is, step by step. Nothing here has to be believed.
use Rattle.std.specs.Prelude.{ℕ, ◌≡◌, ◌⊎◌, List}
use Rattle.cert_checker.specs.declared.verdict.Verdict.{Verdict}
use Rattle.cert_checker.specs.declared.verdict.Verdict.TheVariants as verdict
use Rattle.certificate.specs.Reading.{most_bytes}
use Rattle.command_words.specs.Words.{Ask, infer, check, run, gen, lex, loop, session, origin}
use Rattle.outside.specs.Told.{Map, TellsAt, TellsMore}
use Rattle.cti_top.specs.Checks.{IsCheckOf, IsRefusedCertificate}
use Rattle.cti_top.specs.Queries.{Known}
use Rattle.cti_top.specs.Outcome.{TellsText, TellsLong}
use Rattle.cti_top.specs.Places.{line_of, column_of}
use Rattle.cti_top.specs.Refusal.{refusal_line}
use Rattle.cti_top.specs.Sessions.{IsRefusedFor, IsRefusedSession, IsSessionOf}
use Rattle.cti_top.specs.Inferred.{IsInferred}
use Rattle.cti_top.specs.Lexed.{IsLexed}
use Rattle.cti_top.specs.Summary.{IsSummary}
use Rattle.cti_top.specs.Runs.{IsKnown, IsTextOfQuery, IsRefusedQuery}
use Rattle.cti_top.specs.Loops.{IsLoopSearchOf, loop_line, no_loop_line, stopped_line}
use Rattle.loop_finder.specs.declared.finding.Looked.{Looked}
use Rattle.loop_finder.specs.declared.finding.Looked.TheVariants as looked
use Rattle.cti_top.specs.declared.refusal.Subject.{Subject}
use Rattle.cti_top.specs.declared.refusal.Subject.TheVariants.{Program, Certificate, Query}
use Rattle.cti_top.specs.declared.status.Status.{Status}
use Rattle.cti_top.specs.declared.status.Status.TheVariants.{Done, No, Refused, Stopped, Overflow}
use Rattle.ld_resolver.specs.declared.running.Ending.{Ending}
use Rattle.ld_resolver.specs.declared.running.Ending.TheVariants as ending

-- the status of a run that ended so
abbrev pub status_of : Ending → Status
status_of ending.Finished = Done
status_of ending.Stopped = Stopped
status_of ending.Overflow = Overflow

-- the status that goes with a verdict
abbrev pub verdict_status : Verdict → Status
verdict_status verdict.Yes = Done
verdict_status (verdict.No line reason) = No

-- the status and the line of what was found where a loop was looked for
abbrev pub looked_status : Looked → Status
looked_status (looked.Loop before cycle) = Done
looked_status (looked.NoLoop steps) = No
looked_status looked.Stopped = Stopped

abbrev pub looked_line : Looked → List ℕ
looked_line (looked.Loop before cycle) = loop_line before.items cycle.items
looked_line (looked.NoLoop steps) = no_loop_line steps
looked_line looked.Stopped = stopped_line

-- the answer that refuses a text for a fault of this kind at this byte
pub record RefusesAt (subject : Subject) (text : List ℕ) (kind at : ℕ) (s : Status) (written : List ℕ) : Type 0 where
  pub status : s ≡ Refused
  pub line : written ≡ refusal_line subject (line_of text at) (column_of text at) kind

-- the answer that refuses a query of the program that these bytes are
abbrev pub RefusesQuery : List ℕ → List ℕ → Status → List ℕ → Type 0
RefusesQuery bytes query status text = (kind : ℕ) × (at : ℕ) × IsRefusedQuery bytes query kind at × RefusesAt Query query kind at status text

-- the answer to a query of the program that these bytes are: what is printed for it, or why it is refused
abbrev pub AnswersQuery : List ℕ → List ℕ → ℕ → Status → List ℕ → Type 0
AnswersQuery bytes query n status text = IsTextOfQuery bytes query n status text ⊎ RefusesQuery bytes query status text

-- the same where a loop of it is looked for
abbrev pub AnswersLoop : List ℕ → List ℕ → ℕ → Status → List ℕ → Type 0
AnswersLoop bytes query d status text = IsLoopSearchOf bytes query d status text ⊎ RefusesQuery bytes query status text

-- the text is this line, which refuses what was read
pub record Refuses (subject : Subject) (line column kind : ℕ) (s : Status) (written : List ℕ) : Type 0 where
  pub status : s ≡ Refused
  pub printed : written ≡ refusal_line subject line column kind

-- the answer to a certificate's text: its check, or why it is refused
abbrev pub AnswersText : Known → List ℕ → Status → List ℕ → Type 0
AnswersText known certified status text = IsCheckOf known certified status text ⊎ ((line : ℕ) × IsRefusedCertificate certified line × Refuses Certificate line 1 16 status text)

-- the answer to the certificate in a file
pub data AnswersCertificate (told : Map) (known : Known) (name : List ℕ) (status : Status) (text : List ℕ) : Type 0 where
  read : (certified : List ℕ) → TellsAt told name certified → AnswersText known certified status text → AnswersCertificate told known name status text
  long : TellsMore told name most_bytes → Refuses Certificate 1 1 8 status text → AnswersCertificate told known name status text

-- the answer to the bytes of a text of edits
abbrev pub AnswersSession : List ℕ → Status → List ℕ → Type 0
AnswersSession bytes status text =
    ((status ≡ Done) × IsSessionOf bytes text) ⊎ ((kind : ℕ) × (at : ℕ) × IsRefusedSession bytes kind at × RefusesAt Program bytes kind at status text)

-- what is asked for of the program, or the edits, that these bytes are
abbrev pub AnswersAsk : Map → List ℕ → Ask → Status → List ℕ → Type 0
AnswersAsk told bytes (infer file norm) status text = (status ≡ Done) × IsInferred norm bytes text
AnswersAsk told bytes (check file certificate) status text = (known : Known) × IsKnown bytes known × AnswersCertificate told known certificate status text
AnswersAsk told bytes (run file query steps) status text = AnswersQuery bytes query steps status text
AnswersAsk told bytes (gen n) status text = (status ≡ Done) × IsSummary bytes n text
AnswersAsk told bytes (lex file) status text = (status ≡ Done) × IsLexed bytes text
AnswersAsk told bytes (loop file query depth) status text = AnswersLoop bytes query depth status text
AnswersAsk told bytes (session file) status text = (status ≡ Done) × IsSessionOf bytes text

-- the same, or why the text is refused
abbrev pub AnswersProgram : Map → List ℕ → Ask → Status → List ℕ → Type 0
AnswersProgram told bytes ask status text =
    AnswersAsk told bytes ask status text ⊎ ((kind : ℕ) × (at : ℕ) × IsRefusedFor ask bytes kind at × RefusesAt Program bytes kind at status text)

-- the same of a program of its origin
pub data AnswersRequest (told : Map) (ask : Ask) (status : Status) (text : List ℕ) : Type 0 where
  read : (bytes : List ℕ) → TellsText told (origin ask) bytes → AnswersProgram told bytes ask status text → AnswersRequest told ask status text
  long : TellsLong told (origin ask) → Refuses Program 1 1 8 status text → AnswersRequest told ask status text
