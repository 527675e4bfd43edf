use Rattle.std.proofs.Common.{◌≡◌, ℕ, Some, length, slice_get, true}
use Rattle.lex_turns.specs.FoundLists.{AreFoundLists}
use Rattle.lex_turns.specs.declared.found_lists.FoundLists.{FoundLists}
use Rattle.term_size.specs.AnyNorm.{any_row}
use Rattle.termination_model.specs.sizes.Sizes.{rows_of}
use Rattle.lex_measures.proofs.assembling.find_all.Given as goal

-- what is found of the components so far
abbrev pub invariant-loop-c : goal.invariant-loop-c
invariant-loop-c l =
    (length l.found ≡ l.c)
    × ((i : ℕ) (f : FoundLists) → slice_get l.found i ≡ Some f → slice_get l.measured.comps.now.recursive i ≡ Some true → AreFoundLists (any_row l.measured.norm) l.measured.p.now l.measured.comps.now (rows_of l.sizes.rows) i f)
