-- What is so of each answer, and of what is asked for.
use Rattle.std.specs.Prelude.{Result, Ok, Err, IfErr, IfOk, ◌≡◌}
use Rattle.std.specs.Result.{IsErrAnd}
use Rattle.std.proofs.Common.{ℕ, List, refl, subst, sym}
use Rattle.std.specs.Prelude.{◌≢◌}
use Rattle.command_words.specs.Words.{Ask, infer, check, run, gen, lex, loop, session, Origin, origin}
use Rattle.command_words.specs.Requests.{IsAskInRange, IsInRange}
use Rattle.cti_top.specs.Programs.{IsRefused}
use Rattle.cti_top.specs.Sessions.{IsRefusedFor}

-- what is so of each answer
pub if_ok : {A E : Type 0} {P Q : A → Type 0} (r : Result A E) → ((a : A) → P a → Q a) → IfOk r P → IfOk r Q
if_ok (Ok a) f h = f a h
if_ok (Err e) f h = tt

-- what is so of each fault
pub if_err : {A E : Type 0} {P Q : E → Type 0} (r : Result A E) → ((e : E) → P e → Q e) → IsErrAnd r P → IfErr r Q
if_err (Ok a) f h = tt
if_err (Err e) f h = f e h

-- where the numbers that are asked for are in range, so is that of the program's origin
origin_ranged : (ask : Ask) → IsAskInRange ask → IsInRange (origin ask)
origin_ranged (infer name norm) h = h
origin_ranged (check name certificate) h = h
origin_ranged (run name query steps) h = h
origin_ranged (gen n) h = h
origin_ranged (lex name) h = h
origin_ranged (loop name query depth) h = tt
origin_ranged (session name) h = h

pub in_range : (ask : Ask) (o : Origin) → o ≡ origin ask → IsAskInRange ask → IsInRange o
in_range ask o is h = subst IsInRange (sym is) (origin_ranged ask h)

-- what refuses a program refuses the text of what is asked, if that is no session
pub refused_for : (ask : Ask) (bytes : List ℕ) (kind at : ℕ) → ((name : List ℕ) → ask ≢ session name) → IsRefused bytes kind at → IsRefusedFor ask bytes kind at
refused_for (infer name norm) bytes kind at apart r = r
refused_for (check name certificate) bytes kind at apart r = r
refused_for (run name query steps) bytes kind at apart r = r
refused_for (gen n) bytes kind at apart r = r
refused_for (lex name) bytes kind at apart r = r
refused_for (loop name query depth) bytes kind at apart r = r
refused_for (session name) bytes kind at apart r = absurd (apart name refl)
