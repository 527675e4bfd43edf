-- Private.
-- To believe, for the modes by measures of numbers.
-- Templates: rows with unknown numbers, and multipliers that prove them.
--
-- A target is a row over n naturals that is a sum of given rows, its features, each times an unknown whole number, less
-- a natural. The rows that are known prove it, where natural multiples of them sum to a row that is at most the target
-- in each column. So the unknown numbers and the multipliers obey linear rows together, and these are the template's
-- rows: one for each target and column, the constant first. An unknown whole number is the difference of two naturals.
--
-- To believe: `Target`, `template_rows`, `unknown_count`. What points and refutations of a template are is the law
-- `templates_are_decided` of this crate.
-- Source: linear templates and Farkas' lemma, as in Colón and Sipma 2001.
use Rattle.std.specs.Prelude.{ℕ, zero, suc, ◌+◌, ◌*◌, ℤ, pos, neg_ℤ, ◌-ℤ◌, List, [], ◌∷◌, ◌++◌, map, length}
use Rattle.linear_rows.specs.Replacing.{substituted}
use Rattle.linear_rows.specs.Rows.{column}
use Rattle.linear_rows.specs.Solving.{zeros}
use Rattle.linear_rows.specs.Step.{columns}

-- known rows over so many naturals, and a row that they are to prove: the features times the unknown numbers, less
-- `least`
pub record Target : Type 0 where
  pub vars : ℕ
  pub rows : List (List ℤ)
  pub features : List (List ℤ)
  pub least : ℕ

-- the row of a target at these numbers, less so many times what it has to exceed
abbrev pub row_at : Target → List ℤ → ℕ → List ℤ
row_at g zs t = substituted g.vars g.features (neg_ℤ (pos (g.least * t)) ∷ zs)

-- what a target has to exceed counts in the column of constants
abbrev pub least_in : ℕ → ℕ → ℤ
least_in least zero = neg_ℤ (pos least)
least_in least (suc x) = pos 0

-- how many rows are known for targets together
abbrev pub row_count : List Target → ℕ
row_count [] = 0
row_count (g ∷ gs) = length g.rows + row_count gs

-- the row of a column of a target, with so many multipliers of other targets before and after its own
abbrev pub template_row : ℕ → ℕ → Target → ℕ → List ℤ
template_row before after g x =
    least_in g.least x ∷ (column g.features x ++ (map neg_ℤ (column g.features x) ++ (zeros before ++ (map neg_ℤ (column g.rows x) ++ zeros after))))

abbrev pub template_rows_from : ℕ → List Target → List (List ℤ)
template_rows_from before [] = []
template_rows_from before (g ∷ gs) =
    map (template_row before (row_count gs) g) (columns 0 (suc g.vars)) ++ template_rows_from (before + length g.rows) gs

-- the rows of targets
abbrev pub template_rows : List Target → List (List ℤ)
template_rows gs = template_rows_from 0 gs

-- so many unknown numbers, each twice, and a multiplier for each known row
abbrev pub unknown_count : ℕ → List Target → ℕ
unknown_count k gs = k + (k + row_count gs)

-- the differences of two lists of naturals
abbrev pub differences : List ℕ → List ℕ → List ℤ
differences [] ds = []
differences (c ∷ cs) [] = []
differences (c ∷ cs) (d ∷ ds) = (pos c -ℤ pos d) ∷ differences cs ds
