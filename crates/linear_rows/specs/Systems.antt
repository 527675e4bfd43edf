-- A procedure, to believe for who is blown.
-- The systems of a test, of an image and of a join: which rows they have, in which columns.
--
-- The rows are lists with the constant first. Each system is of rows and expressions over given columns, and of
-- columns that it adds. This retells a procedure: whether such a system is blown is what marks an image, a join or a
-- test as weak or blown, and no promise on sizes or levels rests on it.
use Rattle.std.specs.Prelude.{ℕ, zero, suc, ℤ, pos, negsuc, neg_ℤ, List, [], ◌∷◌, ◌++◌, ◌+◌, Bool, map, length, take, Option}
use Rattle.exact128.specs.Sums.{entry}
use Rattle.linear_rows.specs.Step.{all_eliminated, columns}
use Rattle.linear_rows.specs.Blown.{blown_step}
use Rattle.linear_rows.specs.Solving.{zeros, units, coefficients}

-- a row with each number negated
abbrev pub opposite : List ℤ → List ℤ
opposite row = map neg_ℤ row

-- ---- the test whether a row holds on rows of n coefficients
-- columns 1 to n are those of the rows, n + 1 stands for the t of a point

-- a row whose constant is the coefficient of the last column
abbrev pub at_last : List ℤ → ℤ → List ℤ
at_last row constant = constant ∷ (coefficients row ++ entry row 0 ∷ [])

-- the rows hold, the last column is at least 1, and the row is at most -1 there
abbrev pub test_rows : ℕ → List (List ℤ) → List ℤ → List (List ℤ)
test_rows n rows row =
    map (λ r. at_last r (pos 0)) rows ++ (negsuc 0 ∷ (zeros n ++ pos 1 ∷ [])) ∷ at_last (opposite row) (negsuc 0) ∷ []

-- ---- the image of a system
-- columns 1 to a are the head's arguments, a + 1 to a + v the variables

-- a row over the variables, with a place for each argument
abbrev pub over_variables : ℕ → List ℤ → List ℤ
over_variables a row = entry row 0 ∷ (zeros a ++ coefficients row)

-- the variables, from place i on, are at least 0
abbrev pub naturals : ℕ → ℕ → ℕ → List (List ℤ)
naturals zero i long = []
naturals (suc v) i long = (pos 0 ∷ units long i) ∷ naturals v (suc i) long

-- argument i less its expression
abbrev pub difference : ℕ → ℕ → List ℤ → List ℤ
difference a i expression = neg_ℤ (entry expression 0) ∷ (units a i ++ opposite (coefficients expression))

-- each argument, from place i on, equals its expression: at least it, and at most it
abbrev pub equalities : ℕ → ℕ → List (List ℤ) → List (List ℤ)
equalities a i [] = []
equalities a i (e ∷ es) = difference a i e ∷ opposite (difference a i e) ∷ equalities a (suc i) es

-- the variables are naturals, the arguments equal their expressions (the head's), and the body's rows hold
abbrev pub image_rows : ℕ → List (List ℤ) → List (List ℤ) → List (List ℤ)
image_rows v head body =
    naturals v (length head) (length head + v) ++ equalities (length head) 0 head ++ map (over_variables (length head)) body

-- the first blown step of the variables' elimination, and the rows over the arguments that it leaves
abbrev pub image_blown : ℕ → List (List ℤ) → List (List ℤ) → Option (ℕ × Bool)
image_blown v head body = blown_step (length head + v) (columns (suc (length head)) v) (image_rows v head body)

abbrev pub image_left : ℕ → List (List ℤ) → List (List ℤ) → List (List ℤ)
image_left v head body =
    map (take (suc (length head))) (all_eliminated (length head + v) (columns (suc (length head)) v) (image_rows v head body))

-- ---- the join of two lists of rows of n coefficients
-- columns 1 to n are x, n + 1 to 2n are y, and 2n + 1 is s: y holds for the first list scaled by s, x - y for the
-- second scaled by 1 - s

-- x - y at each place is at least 0, from place i on
abbrev pub differences : ℕ → ℕ → ℕ → List (List ℤ)
differences n zero i = []
differences n (suc count) i = (pos 0 ∷ (units n i ++ opposite (units n i) ++ pos 0 ∷ [])) ∷ differences n count (suc i)

-- a row of the first list in y, with its constant times s
abbrev pub in_first : ℕ → List ℤ → List ℤ
in_first n row = pos 0 ∷ (zeros n ++ coefficients row ++ entry row 0 ∷ [])

-- a row of the second list in x - y, with its constant times 1 - s
abbrev pub in_second : List ℤ → List ℤ
in_second row = entry row 0 ∷ (coefficients row ++ opposite (coefficients row) ++ neg_ℤ (entry row 0) ∷ [])

-- s is at least 0 and at most 1, each y and each x - y is at least 0, and both lists hold
abbrev pub join_rows : ℕ → List (List ℤ) → List (List ℤ) → List (List ℤ)
join_rows n first second =
    (pos 0 ∷ (zeros (n + n) ++ pos 1 ∷ []))
    ∷ (pos 1 ∷ (zeros (n + n) ++ negsuc 0 ∷ []))
    ∷ (naturals n n (n + n + 1) ++ differences n n 0 ++ map (in_first n) first ++ map in_second second)

-- the first blown step of the elimination of y and then s, and the rows over x that it leaves
abbrev pub join_blown : ℕ → List (List ℤ) → List (List ℤ) → Option (ℕ × Bool)
join_blown n first second = blown_step (n + n + 1) (columns (suc n) (n + 1)) (join_rows n first second)

abbrev pub join_left : ℕ → List (List ℤ) → List (List ℤ) → List (List ℤ)
join_left n first second = map (take (suc n)) (all_eliminated (n + n + 1) (columns (suc n) (n + 1)) (join_rows n first second))
