-- Words that ask for a query with a number, word by word: a run with its nodes, or a search for a loop with its steps.
use Rattle.std.proofs.Common.{◌≡◌, ℕ, nat_eq, false, List, [], ◌∷◌, Option, Some, codes, option_map, unwrap_or, refl, ap, ◌∙◌}
use Rattle.std.specs.Prelude.{slice_get}
use Rattle.clap.specs.Words.{Kinds, Text, fault_of, subcommand_of}
use Rattle.clap.specs.Kinds.{or_else}
use Rattle.clap.specs.Faults.{check_fault, defaults_fault, level_fault, settle_fault, turn_fault, walk_fault}
use Rattle.clap.specs.Simple.{Shape, built, new_shape}
use Rattle.clap.specs.Walk.{Held, Names, Walk, finished, idle, nothing_held, option, pushed, rows_after, settled, walk, walk_from, walked}
use Rattle.clap.proofs.OnLiterals.{clap_on_literals}
use Rattle.command_words.specs.Words.{Ask, command_line, ask_by, ask_if, asks, run, loop, steps_in, depth_in}

-- the two commands
data Asker : Type 0 where
  runs : Asker
  looks : Asker

-- the word of a command
abbrev name : Asker → Text
name runs = codes "run"
name looks = codes "loop"

-- its option, and the word for that
abbrev number : Asker → Text
number runs = codes "steps"
number looks = codes "depth"

abbrev dashed : Asker → Text
dashed runs = codes "--steps"
dashed looks = codes "--depth"

-- the subcommand, as it is built
abbrev shape : Asker → Shape
shape runs = unwrap_or (slice_get (built command_line).subs 2) (new_shape [])
shape looks = unwrap_or (slice_get (built command_line).subs 5) (new_shape [])

-- what is asked for
abbrev asked : Asker → Text → Text → Text → Option Ask
asked runs f q n = option_map (run f q) (steps_in n)
asked looks f q n = option_map (loop f q) (depth_in n)

-- where the walk stands after the file, the query, the option and its value
abbrev after_file : Text → Walk
after_file f = record (walk_from nothing_held) { held = pushed (codes "file") f nothing_held; position = 2 }

abbrev after_query : Asker → Text → Text → Walk
after_query it f q = record (after_file f) { held = pushed (codes "query") q (settled (shape it).rules (after_file f).held); position = 3 }

abbrev after_option : Asker → Text → Text → Walk
after_option it f q = record (after_query it f q) {
  held = record (settled (shape it).rules (after_query it f q).held) { pending = Some (number it, []) };
  waiting = option (number it);
}

abbrev after_value : Asker → Text → Text → Text → Walk
after_value it f q n = record (after_option it f q) { held = pushed (number it) n (after_option it f q).held; waiting = idle }

-- what the top level makes of the words: it enters the subcommand with those after the first
top_fault : (it : Asker) (f q s n : Text) → fault_of command_line (name it ∷ f ∷ q ∷ s ∷ n ∷ []) ≡ or_else (level_fault (shape it) [] nothing_held (f ∷ q ∷ s ∷ n ∷ []) false []) []
unfolding clap_on_literals
top_fault runs f q s n = refl
top_fault looks f q s n = refl

top_rows : (it : Asker) (f q s n : Text) → subcommand_of command_line (name it ∷ f ∷ q ∷ s ∷ n ∷ []) ≡ Some (name it, rows_after (shape it).rules [] (f ∷ q ∷ s ∷ n ∷ []))
unfolding clap_on_literals
top_rows runs f q s n = refl
top_rows looks f q s n = refl

-- one more word of a walk, and it has no fault
module _ (s : Shape) (names : Names) where
  walk_on : (w v : Walk) (word : Text) (rest : List Text) → walked s.rules names w word ≡ v → turn_fault s names w word ≡ [] → walk_fault s names v rest ≡ []
      → walk_fault s names w (word ∷ rest) ≡ []
  unfolding walk_fault
  walk_on w v word rest met taken on = (λ i. or_else (taken i) (walk_fault s names (met i) rest)) ∙ on

  walk_end : (w : Walk) → walk_fault s names w [] ≡ []
  unfolding walk_fault
  walk_end w = refl

-- the steps of the walk
module _ (c d e : ℕ) (cs ds es : List ℕ) (file : nat_eq c 45 ≡ false) (query : nat_eq d 45 ≡ false) (value : nat_eq e 45 ≡ false) where
  file_met : (it : Asker) → walked (shape it).rules [] (walk_from nothing_held) (c ∷ cs) ≡ after_file (c ∷ cs)
  unfolding clap_on_literals
  file_met runs = simp file
  file_met looks = simp file

  query_met : (it : Asker) → walked (shape it).rules [] (after_file (c ∷ cs)) (d ∷ ds) ≡ after_query it (c ∷ cs) (d ∷ ds)
  unfolding clap_on_literals
  query_met runs = simp query
  query_met looks = simp query

  option_met : (it : Asker) → walked (shape it).rules [] (after_query it (c ∷ cs) (d ∷ ds)) (dashed it) ≡ after_option it (c ∷ cs) (d ∷ ds)
  unfolding clap_on_literals
  option_met runs = refl
  option_met looks = refl

  value_met : (it : Asker) → walked (shape it).rules [] (after_option it (c ∷ cs) (d ∷ ds)) (e ∷ es) ≡ after_value it (c ∷ cs) (d ∷ ds) (e ∷ es)
  unfolding clap_on_literals
  value_met runs = simp value
  value_met looks = simp value

  file_taken : (it : Asker) → turn_fault (shape it) [] (walk_from nothing_held) (c ∷ cs) ≡ []
  unfolding clap_on_literals
  file_taken runs = simp file
  file_taken looks = simp file

  query_taken : (it : Asker) → turn_fault (shape it) [] (after_file (c ∷ cs)) (d ∷ ds) ≡ []
  unfolding clap_on_literals
  query_taken runs = simp query
  query_taken looks = simp query

  option_taken : (it : Asker) → turn_fault (shape it) [] (after_query it (c ∷ cs) (d ∷ ds)) (dashed it) ≡ []
  unfolding clap_on_literals
  option_taken runs = refl
  option_taken looks = refl

  value_taken : (it : Asker) → turn_fault (shape it) [] (after_option it (c ∷ cs) (d ∷ ds)) (e ∷ es) ≡ []
  unfolding clap_on_literals
  value_taken runs = simp value
  value_taken looks = simp value

  module _ (it : Asker) where
    all_met : walk (shape it).rules [] nothing_held ((c ∷ cs) ∷ (d ∷ ds) ∷ dashed it ∷ (e ∷ es) ∷ []) ≡ after_value it (c ∷ cs) (d ∷ ds) (e ∷ es)
    all_met =
        let step = walked (shape it).rules [] in
        ap (λ (w : Walk). step w (e ∷ es)) (ap (λ (w : Walk). step w (dashed it)) (ap (λ (w : Walk). step w (d ∷ ds)) (file_met it) ∙ query_met it) ∙ option_met it) ∙ value_met it

    all_taken : walk_fault (shape it) [] (walk_from nothing_held) ((c ∷ cs) ∷ (d ∷ ds) ∷ dashed it ∷ (e ∷ es) ∷ []) ≡ []
    all_taken =
        walk_on (shape it) [] _ _ _ _ (file_met it) (file_taken it)
        (walk_on (shape it) [] _ _ _ _ (query_met it) (query_taken it)
        (walk_on (shape it) [] _ _ _ _ (option_met it) (option_taken it)
        (walk_on (shape it) [] _ _ _ _ (value_met it) (value_taken it) (walk_end (shape it) [] (after_value it (c ∷ cs) (d ∷ ds) (e ∷ es))))))

-- what is looked at after the walk
abbrev end_fault : Asker → Held → Kinds
end_fault it h =
    or_else (settle_fault (shape it).rules (shape it).args_override_self h)
    (or_else (defaults_fault (settled (shape it).rules h).rows (shape it).rules) (check_fault (shape it) (finished (shape it).rules h) false))

end_taken : (it : Asker) (f q n : Text) → end_fault it (after_value it f q n).held ≡ []
unfolding clap_on_literals
end_taken runs f q n = refl
end_taken looks f q n = refl

-- what the rows at the end ask for
rows_ask : (it : Asker) (f q n : Text) → ask_by (name it) (finished (shape it).rules (after_value it f q n).held) ≡ asked it f q n
unfolding clap_on_literals
rows_ask runs f q n = refl
rows_ask looks f q n = refl

-- a file, a query and a number, none of which begins with a dash
number_asks : (it : Asker) (c d e : ℕ) (cs ds es : List ℕ) → nat_eq c 45 ≡ false → nat_eq d 45 ≡ false → nat_eq e 45 ≡ false
    → asks (name it ∷ (c ∷ cs) ∷ (d ∷ ds) ∷ dashed it ∷ (e ∷ es) ∷ []) ≡ asked it (c ∷ cs) (d ∷ ds) (e ∷ es)
number_asks it c d e cs ds es file query value =
    let words = (c ∷ cs) ∷ (d ∷ ds) ∷ dashed it ∷ (e ∷ es) ∷ [] in
    let met = all_met c d e cs ds es file query value it in
    let level : level_fault (shape it) [] nothing_held words false [] ≡ [] =
    (λ i. or_else (all_taken c d e cs ds es file query value it i) (end_fault it (met i).held)) ∙ end_taken it (c ∷ cs) (d ∷ ds) (e ∷ es)
    in
    let fault = top_fault it (c ∷ cs) (d ∷ ds) (dashed it) (e ∷ es) ∙ ap (λ (kinds : Kinds). or_else kinds []) level in
    let rows = top_rows it (c ∷ cs) (d ∷ ds) (dashed it) (e ∷ es) ∙ ap (λ (w : Walk). Some (name it, finished (shape it).rules w.held)) met in
    (λ i. ask_if (fault i) (rows i)) ∙ rows_ask it (c ∷ cs) (d ∷ ds) (e ∷ es)

pub steps_asks : (c d e : ℕ) (cs ds es : List ℕ) → nat_eq c 45 ≡ false → nat_eq d 45 ≡ false → nat_eq e 45 ≡ false
    → asks (codes "run" ∷ (c ∷ cs) ∷ (d ∷ ds) ∷ codes "--steps" ∷ (e ∷ es) ∷ []) ≡ option_map (run (c ∷ cs) (d ∷ ds)) (steps_in (e ∷ es))
steps_asks = number_asks runs

pub depth_asks : (c d e : ℕ) (cs ds es : List ℕ) → nat_eq c 45 ≡ false → nat_eq d 45 ≡ false → nat_eq e 45 ≡ false
    → asks (codes "loop" ∷ (c ∷ cs) ∷ (d ∷ ds) ∷ codes "--depth" ∷ (e ∷ es) ∷ []) ≡ option_map (loop (c ∷ cs) (d ∷ ds)) (depth_in (e ∷ es))
depth_asks = number_asks looks
