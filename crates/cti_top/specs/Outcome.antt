-- To believe, for the command.
-- What each status of the top call says.
--
-- To believe: all of this file.
use Rattle.std.specs.Prelude.{ℕ, ◌≡◌, ◌≢◌, ◌⊎◌, List, Option, Some, None}
use Rattle.outside.specs.Told.{Map, TellsAt, TellsMore, Takes, TakesPart}
use Rattle.command_words.specs.Words.{Ask, infer, check, run, gen, lex, loop, session, Origin, file, generated, origin, query_of, asks, usage_lines}
use Rattle.cti_top.specs.Places.{line_of, column_of}
use Rattle.cti_top.specs.Refusal.{refusal_line}
use Rattle.cti_top.specs.Sessions.{IsRefusedFor, IsSessionOf}
use Rattle.term_size.specs.declared.any_norm.NormName.{NormName}
use Rattle.cti_top.specs.Inferred.{IsInferred}
use Rattle.cti_top.specs.Lexed.{IsLexed}
use Rattle.cti_top.specs.Summary.{IsSummary}
use Rattle.report.specs.Generated.{generated as generated_text}
use Rattle.cti_top.specs.Checks.{IsCheckOf, IsRefusedCertificate}
use Rattle.cti_top.specs.Queries.{Known}
use Rattle.cti_top.specs.Runs.{IsKnown, IsTextOfQuery, IsRefusedQuery}
use Rattle.cti_top.specs.Loops.{IsLoopSearchOf}
use Rattle.certificate.specs.Reading.{most_bytes as most_certificate_bytes}
use Rattle.outside.specs.Causes.{Rose}
use Rattle.cti_top.specs.declared.refusal.Subject.TheVariants.{Program, Certificate, Query}
use Rattle.cti_top.specs.declared.status.Status.{Status}
use Rattle.cti_top.specs.declared.status.Status.TheVariants.{Done, No, Usage, Refused, FileFault, OutFault, Memory, Stopped, Overflow}

-- the most bytes that a program has
abbrev pub most_bytes : ℕ
most_bytes = 1048576

-- the bytes are the text of a program of this origin, as far as the store shows
abbrev pub TellsText : Map → Origin → List ℕ → Type 0
TellsText told (file name) bytes = TellsAt told name bytes
TellsText told (generated n) bytes = bytes ≡ generated_text n

-- the text is that of a file, and is too long
abbrev pub TellsLong : Map → Origin → Type 0
TellsLong told (file name) = TellsMore told name most_bytes
TellsLong told (generated n) = ⊥

-- The answer to the words: the usage exactly where they ask for nothing; the modes of the program that they name, or
-- its modes by lists of mappings; the check of their certificate; the run of their query, or a loop of it; how many
-- modes their generated program has; what their edits tell; or why the text of the program or of the edits, the
-- certificate's or the query is refused. Where the store shows its map, the bytes are those at the file's name.
pub data IsAnswer (told : Map) (words : List (List ℕ)) (status : Status) (text : List ℕ) : Type 0 where
  usage : asks words ≡ None → status ≡ Usage → text ≡ usage_lines → IsAnswer told words status text
  inferred : (name bytes : List ℕ) (norm : NormName) → asks words ≡ Some (infer name norm) → TellsAt told name bytes → IsInferred norm bytes text → status ≡ Done
      → IsAnswer told words status text
  summed : (n : ℕ) → asks words ≡ Some (gen n) → IsSummary (generated_text n) n text → status ≡ Done → IsAnswer told words status text
  lexed : (name bytes : List ℕ) → asks words ≡ Some (lex name) → TellsAt told name bytes → IsLexed bytes text → status ≡ Done → IsAnswer told words status text
  ran : (name query : List ℕ) (steps : ℕ) (bytes : List ℕ) → asks words ≡ Some (run name query steps) → TellsAt told name bytes → IsTextOfQuery bytes query steps status text
      → IsAnswer told words status text
  looped : (name query : List ℕ) (depth : ℕ) (bytes : List ℕ) → asks words ≡ Some (loop name query depth) → TellsAt told name bytes
      → IsLoopSearchOf bytes query depth status text → IsAnswer told words status text
  played : (name bytes : List ℕ) → asks words ≡ Some (session name) → TellsAt told name bytes → IsSessionOf bytes text → status ≡ Done
      → IsAnswer told words status text
  checked : (name certificate bytes certified : List ℕ) (known : Known) → asks words ≡ Some (check name certificate) → TellsAt told name bytes → IsKnown bytes known
      → TellsAt told certificate certified → IsCheckOf known certified status text → IsAnswer told words status text
  program_too_long : (ask : Ask) → asks words ≡ Some ask → TellsLong told (origin ask) → status ≡ Refused
      → text ≡ refusal_line Program 1 1 8 → IsAnswer told words status text
  program_refused : (ask : Ask) (bytes : List ℕ) (kind at : ℕ) → asks words ≡ Some ask → TellsText told (origin ask) bytes → IsRefusedFor ask bytes kind at → status ≡ Refused
      → text ≡ refusal_line Program (line_of bytes at) (column_of bytes at) kind → IsAnswer told words status text
  query_refused : (ask : Ask) (query bytes : List ℕ) (kind at : ℕ) → asks words ≡ Some ask → query_of ask ≡ Some query → TellsText told (origin ask) bytes
      → IsRefusedQuery bytes query kind at → status ≡ Refused → text ≡ refusal_line Query (line_of query at) (column_of query at) kind
      → IsAnswer told words status text
  certificate_too_long : (name certificate bytes : List ℕ) (known : Known) → asks words ≡ Some (check name certificate) → TellsAt told name bytes → IsKnown bytes known
      → TellsMore told certificate most_certificate_bytes → status ≡ Refused → text ≡ refusal_line Certificate 1 1 8 → IsAnswer told words status text
  certificate_refused : (name certificate bytes certified : List ℕ) (known : Known) (line : ℕ) → asks words ≡ Some (check name certificate) → TellsAt told name bytes
      → IsKnown bytes known → TellsAt told certificate certified → IsRefusedCertificate certified line → status ≡ Refused
      → text ≡ refusal_line Certificate line 1 16 → IsAnswer told words status text

-- What the sink took, for each status: the whole answer; a proper prefix of an answer; or nothing.
abbrev pub Outcome : Map → List (List ℕ) → Option (List ℕ) → Option (List ℕ) → Status → Type 0
Outcome told words before after OutFault = (status : Status) × (text : List ℕ) × IsAnswer told words status text × TakesPart before text after
Outcome told words before after FileFault = after ≡ before
Outcome told words before after Memory = after ≡ before
Outcome told words before after status = (text : List ℕ) × IsAnswer told words status text × Takes before text after

-- a call in which no load and no write failed
pub record IsUnfailed (told : Map) (words : List (List ℕ)) (status : Status) : Type 0 where
  pub before : Option (List ℕ)
  pub after : Option (List ℕ)
  pub outcome : Outcome told words before after status
  pub loaded : status ≢ FileFault
  pub written : status ≢ OutFault

-- the map is visible, and has these bytes at the name
abbrev pub HasFile : Map → List ℕ → List ℕ → Type 0
HasFile None name bytes = ⊥
HasFile (Some files) name bytes = files name ≡ Some bytes

-- the same of the text of a program
abbrev pub HasText : Map → Origin → List ℕ → Type 0
HasText told (file name) bytes = HasFile told name bytes
HasText told (generated n) bytes = bytes ≡ generated_text n

-- the answer was written, or there was no memory for it
abbrev pub IsDoneOrMemory : Status → Type 0
IsDoneOrMemory status = (status ≡ Done) ⊎ (status ≡ Memory)

-- the same of a query, whose search may have been stopped or have met a value that is too large
abbrev pub IsRanOrMemory : Status → Type 0
IsRanOrMemory status = (status ≡ Done) ⊎ (status ≡ Stopped) ⊎ (status ≡ Overflow) ⊎ (status ≡ Memory)

-- the same of a loop that is looked for: there may be none, or more derivations than are looked at
abbrev pub IsLoopedOrMemory : Status → Type 0
IsLoopedOrMemory status = (status ≡ Done) ⊎ (status ≡ No) ⊎ (status ≡ Stopped) ⊎ (status ≡ Memory)

-- the same of a certificate, which may not be valid
abbrev pub IsCheckedOrMemory : Status → Type 0
IsCheckedOrMemory status = (status ≡ Done) ⊎ (status ≡ No) ⊎ (status ≡ Memory)

-- the usage was written, or there was no memory for it
abbrev pub IsUsageOrMemory : Status → Type 0
IsUsageOrMemory status = (status ≡ Usage) ⊎ (status ≡ Memory)

-- the refusal was written, or there was no memory for it
abbrev pub IsRefusedOrMemory : Status → Type 0
IsRefusedOrMemory status = (status ≡ Refused) ⊎ (status ≡ Memory)

-- the count of the program's file rose; a generated text has none
abbrev pub OriginRose : Origin → (List ℕ → ℕ) → (List ℕ → ℕ) → Type 0
OriginRose (file name) before after = Rose (before name) (after name)
OriginRose (generated n) before after = ⊥

-- the count of the certificate's file rose, where one is asked for
abbrev pub CertificateRose : Ask → (List ℕ → ℕ) → (List ℕ → ℕ) → Type 0
CertificateRose (infer name norm) before after = ⊥
CertificateRose (check name certificate) before after = Rose (before certificate) (after certificate)
CertificateRose (run name query steps) before after = ⊥
CertificateRose (gen n) before after = ⊥
CertificateRose (lex name) before after = ⊥
CertificateRose (loop name query depth) before after = ⊥
CertificateRose (session name) before after = ⊥

-- the count of the program's file rose, or that of the certificate's, which is loaded only where the program is read
abbrev pub FileRose : Map → Ask → (List ℕ → ℕ) → (List ℕ → ℕ) → Type 0
FileRose told ask before after =
    OriginRose (origin ask) before after
    ⊎ ((bytes : List ℕ) × (known : Known) × TellsText told (origin ask) bytes × IsKnown bytes known × CertificateRose ask before after)
