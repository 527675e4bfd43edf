-- Private.
-- Requests of the code as what is asked for. Nothing here has to be believed.
use Rattle.std.specs.Prelude.{◌≤◌}
use Rattle.command_words.specs.Words.{Ask, infer, check, run, gen, lex, loop, session, Origin}
use Rattle.command_words.specs.Words as words
use Rattle.command_words.specs.declared.request.Request.{Request}
use Rattle.command_words.specs.declared.request.Request.TheVariants as request
use Rattle.command_words.specs.declared.request.Origin.{Origin as ItsOrigin}
use Rattle.command_words.specs.declared.request.Origin.TheVariants as its

-- a request, by its texts
abbrev pub ask_of : Request → Ask
ask_of (request.Infer file norm) = infer file.now norm
ask_of (request.Check file certificate) = check file.now certificate.now
ask_of (request.Run file query steps) = run file.now query.now steps
ask_of (request.Generate count) = gen count
ask_of (request.Lex file) = lex file.now
ask_of (request.Loop file query depth) = loop file.now query.now depth
ask_of (request.Session file) = session file.now

-- an origin, by its text
abbrev pub origin_of : ItsOrigin → Origin
origin_of (its.File name) = words.file name.now
origin_of (its.Generated count) = words.generated count

-- a program of this many predicates can be generated
abbrev pub IsInRange : Origin → Type 0
IsInRange (words.file name) = Unit {0}
IsInRange (words.generated n) = (1 ≤ n) × (n ≤ 300)

-- the numbers of what is asked for are in range
abbrev pub IsAskInRange : Ask → Type 0
IsAskInRange (infer name norm) = Unit {0}
IsAskInRange (check name certificate) = Unit {0}
IsAskInRange (run name query steps) = Unit {0}
IsAskInRange (gen n) = (1 ≤ n) × (n ≤ 300)
IsAskInRange (lex name) = Unit {0}
IsAskInRange (loop name query depth) = (1 ≤ depth) × (depth ≤ 12)
IsAskInRange (session name) = Unit {0}
