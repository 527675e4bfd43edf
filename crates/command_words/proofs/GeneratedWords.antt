-- Words that ask for generated predicates ask for few.
use Rattle.std.proofs.Common.{◌≡◌, ℕ, ◌≤◌, ◌&&◌, nat_le, nat_lt, Bool, true, false, cond, codes, List, [], ◌∷◌, Option, Some, None, option_map, refl, arith}
use Rattle.std.proofs.lemmas.Bool.{leb-true}
use Rattle.std.specs.Str.{bytes_eq}
use Rattle.std.specs.Str.Parse.{digits_value}
use Rattle.clap.specs.Words.{Kinds, Row, Text, fault_of, subcommand_of, first_of}
use Rattle.term_size.specs.declared.any_norm.NormName.{NormName}
use Rattle.command_words.specs.Words.{infer, check, run, gen, lex, loop, session, is_short_number, given, norm_of, depth_of, steps_of, ask_by, ask_if, asks, command_line}

-- the number that is asked for is not above the greatest
number_small : (n value : ℕ) (short low high : Bool) → nat_le value 300 ≡ high → option_map gen (cond (short && (low && high)) (Some value) None) ≡ Some (gen n) → n ≤ 300
number_small n value true true true e h = let same : value ≡ n = cc in omega (arith, same, leb-true value 300 e)
number_small n value true true false e h = cc
number_small n value true false high e h = cc
number_small n value false low high e h = cc

not_inferred : (n : ℕ) (name : Text) (norm : Option NormName) → option_map (infer name) norm ≡ Some (gen n) → n ≤ 300
not_inferred n name None h = cc
not_inferred n name (Some norm) h = cc

not_looped : (n : ℕ) (name query : Text) (depth : Option ℕ) → option_map (loop name query) depth ≡ Some (gen n) → n ≤ 300
not_looped n name query None h = cc
not_looped n name query (Some depth) h = cc

not_run : (n : ℕ) (name query : Text) (steps : Option ℕ) → option_map (run name query) steps ≡ Some (gen n) → n ≤ 300
not_run n name query None h = cc
not_run n name query (Some steps) h = cc

by_name : (n value : ℕ) (short low high : Bool) (name certificate query : Text) (norm : Option NormName) (depth steps : Option ℕ) (a b c d e f : Bool) → nat_le value 300 ≡ high
    → cond a (option_map gen (cond (short && (low && high)) (Some value) None)) (cond b (option_map (infer name) norm) (cond c (Some (check name certificate))
    (cond d (Some (lex name)) (cond e (Some (session name)) (cond f (option_map (loop name query) depth) (option_map (run name query) steps)))))) ≡ Some (gen n) → n ≤ 300
by_name n value short low high name certificate query norm depth steps true b c d e f is h = number_small n value short low high is h
by_name n value short low high name certificate query norm depth steps false true c d e f is h = not_inferred n name norm h
by_name n value short low high name certificate query norm depth steps false false true d e f is h = cc
by_name n value short low high name certificate query norm depth steps false false false true e f is h = cc
by_name n value short low high name certificate query norm depth steps false false false false true f is h = cc
by_name n value short low high name certificate query norm depth steps false false false false false true is h = not_looped n name query depth h
by_name n value short low high name certificate query norm depth steps false false false false false false is h = not_run n name query steps h

asked_small_by : (n : ℕ) (name : Text) (rows : List Row) → ask_by name rows ≡ Some (gen n) → n ≤ 300
asked_small_by n name rows h =
    let count = given (codes "count") rows in
    let value = digits_value 10 count in
    by_name n value (is_short_number 7 count) (nat_lt 0 value) (nat_le value 300) (given (codes "file") rows) (given (codes "certificate") rows) (given (codes "query") rows)
    (norm_of (first_of (codes "norm") rows)) (depth_of (first_of (codes "depth") rows)) (steps_of (first_of (codes "steps") rows))
    (bytes_eq name (codes "gen")) (bytes_eq name (codes "infer")) (bytes_eq name (codes "check")) (bytes_eq name (codes "lex")) (bytes_eq name (codes "session")) (bytes_eq name (codes "loop"))
    refl h

asked_small_if : (n : ℕ) (kinds : Kinds) (subcommand : Option (Text × List Row)) → ask_if kinds subcommand ≡ Some (gen n) → n ≤ 300
asked_small_if n [] None h = cc
asked_small_if n [] (Some p) h = asked_small_by n p.0 p.1 h
asked_small_if n (k ∷ ks) subcommand h = cc

-- the number of predicates that words ask for is not above the greatest
pub few_asked : (words : List Text) (n : ℕ) → asks words ≡ Some (gen n) → n ≤ 300
few_asked words n h = asked_small_if n (fault_of command_line words) (subcommand_of command_line words) h
