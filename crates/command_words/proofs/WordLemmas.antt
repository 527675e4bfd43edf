-- Words that the command line takes.
use Rattle.std.proofs.Common.{ℕ, nat_eq, codes, option_map, ◌≡◌, Bool, true, false, List, [], ◌∷◌, Option, Some, None, refl, is_some}
use Rattle.term_size.specs.declared.any_norm.NormName.TheVariants as norm
use Rattle.clap.specs.Words.{Kinds, Row, Text, fault_of, subcommand_of}
use Rattle.clap.specs.Kinds.{check_kinds, or_else}
use Rattle.clap.specs.Faults.{defaults_fault, level_fault, settle_fault, walk_fault}
use Rattle.clap.specs.Simple.{Shape, built}
use Rattle.clap.specs.Walk.{Held, Names, settled, walk, walk_from}
use Rattle.clap.proofs.OnLiterals.{clap_on_literals}
use Rattle.command_words.specs.Words.{command_line, ask_if, asks, infer, check, run, gen, lex, loop, session, norm_in, predicates_in}

or_else_nil : (a b : Kinds) → or_else a b ≡ [] → (a ≡ []) × (b ≡ [])
or_else_nil [] b h = (refl, h)
or_else_nil (k ∷ ks) b h = cc

wants_one : (x y : Bool) → check_kinds x true y ≡ [] → ⊥
wants_one true y h = cc
wants_one false y h = cc

-- a level that needs a subcommand and has no fault has one
level_needs : (s : Shape) (names : Names) (h : Held) (words : List Text) (has : Bool) (below : Kinds) → s.subcommand_required ≡ true → level_fault s names h words has below ≡ [] → has ≡ true
level_needs s names h words true below needs none = refl
level_needs s names h words false below needs none =
    let end = (walk s.rules names h words).held in
    let a = or_else_nil (walk_fault s names (walk_from h) words) _ none in
    let b = or_else_nil below _ a.1 in
    let c = or_else_nil (settle_fault s.rules s.args_override_self end) _ b.1 in
    let d = or_else_nil (defaults_fault (settled s.rules end).rows s.rules) _ c.1 in
    let last = rw needs at d.1 in
    absurd (search (wants_one, last))

-- words that are taken enter a subcommand
pub is_entered : (words : List Text) → fault_of command_line words ≡ [] → is_some (subcommand_of command_line words) ≡ true
is_entered words h = level_needs (built command_line).top _ _ _ _ _ refl h

-- words with a fault ask for nothing
pub none_asked : (kinds : Kinds) (subcommand : Option (Text × List Row)) → (kinds ≡ [] → ⊥) → ask_if kinds subcommand ≡ None
none_asked [] subcommand h = absurd (h refl)
none_asked (k ∷ ks) subcommand h = refl

-- what these words ask for
pub infer_asks : (c : ℕ) (cs : List ℕ) → nat_eq c 45 ≡ false → asks (codes "infer" ∷ (c ∷ cs) ∷ []) ≡ Some (infer (c ∷ cs) norm.Term)
unfolding clap_on_literals
infer_asks c cs h = simp h

-- the same with a norm
pub norm_asks : (c d : ℕ) (cs ds : List ℕ) → nat_eq c 45 ≡ false → nat_eq d 45 ≡ false
    → asks (codes "infer" ∷ (c ∷ cs) ∷ codes "--norm" ∷ (d ∷ ds) ∷ []) ≡ option_map (infer (c ∷ cs)) (norm_in (d ∷ ds))
unfolding clap_on_literals
norm_asks c d cs ds h k = simp (h, k)

pub check_asks : (c d : ℕ) (cs ds : List ℕ) → nat_eq c 45 ≡ false → nat_eq d 45 ≡ false → asks (codes "check" ∷ (c ∷ cs) ∷ (d ∷ ds) ∷ []) ≡ Some (check (c ∷ cs) (d ∷ ds))
unfolding clap_on_literals
check_asks c d cs ds h k = simp (h, k)

pub run_asks : (c d : ℕ) (cs ds : List ℕ) → nat_eq c 45 ≡ false → nat_eq d 45 ≡ false → asks (codes "run" ∷ (c ∷ cs) ∷ (d ∷ ds) ∷ []) ≡ Some (run (c ∷ cs) (d ∷ ds) 100000)
unfolding clap_on_literals
run_asks c d cs ds h k = simp (h, k)

pub loop_asks : (c d : ℕ) (cs ds : List ℕ) → nat_eq c 45 ≡ false → nat_eq d 45 ≡ false → asks (codes "loop" ∷ (c ∷ cs) ∷ (d ∷ ds) ∷ []) ≡ Some (loop (c ∷ cs) (d ∷ ds) 8)
unfolding clap_on_literals
loop_asks c d cs ds h k = simp (h, k)

pub lex_asks : (c : ℕ) (cs : List ℕ) → nat_eq c 45 ≡ false → asks (codes "lex" ∷ (c ∷ cs) ∷ []) ≡ Some (lex (c ∷ cs))
unfolding clap_on_literals
lex_asks c cs h = simp h

pub session_asks : (c : ℕ) (cs : List ℕ) → nat_eq c 45 ≡ false → asks (codes "session" ∷ (c ∷ cs) ∷ []) ≡ Some (session (c ∷ cs))
unfolding clap_on_literals
session_asks c cs h = simp h

-- a word after gen that does not begin with a dash
pub gen_asks : (c : ℕ) (cs : List ℕ) → nat_eq c 45 ≡ false → asks (codes "gen" ∷ (c ∷ cs) ∷ []) ≡ option_map gen (predicates_in (c ∷ cs))
unfolding clap_on_literals
gen_asks c cs h = simp h
