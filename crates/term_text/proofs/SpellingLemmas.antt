-- How names with arguments are spelled.
use Rattle.std.proofs.Common.{◌≡◌, ℕ, ◌==◌, false, ◌&&◌, List, [], ◌∷◌, length, refl}
use Rattle.cti_terms.specs.declared.syntax.Term.{Term}
use Rattle.cti_terms.specs.Spell.{tree_of, trees_of}
use Rattle.prolog_tokens.specs.Spelling.{is_empty_list}
use Rattle.term_text.specs.Spelling.{no_list, functional, is_dot, compound, spelled, all_spelled}

-- arguments that are not a list's cell stand in parentheses
pub arguments_in_parentheses : (names : List (List ℕ)) (name : List ℕ) (t : Term) (ts : List Term) → (length (t ∷ ts) == 2 && is_dot name) ≡ false
    → compound name (all_spelled names (trees_of (t ∷ ts))) ≡ functional name (spelled names (tree_of t)) (all_spelled names (trees_of ts))
arguments_in_parentheses names name t [] e = refl
arguments_in_parentheses names name t (u ∷ []) e = rw e refl
arguments_in_parentheses names name t (u ∷ v ∷ ts) e = refl

-- neither a list's cell nor its end
pub other_tail : (names : List (List ℕ)) (name : List ℕ) (ts : List Term) → (length ts == 2 && is_dot name) ≡ false → (length ts == 0 && is_empty_list name) ≡ false
    → (compound name (all_spelled names (trees_of ts))).as_tail ≡ (no_list (compound name (all_spelled names (trees_of ts))).alone).as_tail
other_tail names name [] e f = rw f refl
other_tail names name (t ∷ []) e f = refl
other_tail names name (t ∷ u ∷ []) e f = rw e refl
other_tail names name (t ∷ u ∷ v ∷ ts) e f = refl
