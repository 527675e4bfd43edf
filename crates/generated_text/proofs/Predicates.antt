-- A generated text is lines of generated clauses, not too many.
use Rattle.std.proofs.Common.{◌≡◌, ℕ, zero, suc, ◌+◌, ◌-◌, ◌*◌, ◌%◌, ◌==◌, ◌≤◌, ◌<◌, Bool, true, false, cond, List, [], ◌∷◌, ◌++◌, codes, decimal, flat_map, length, refl, sym, ◌∙◌, ap, subst, append_assoc, length-append, arith}
use Rattle.std.specs.List.{AllByRecursion}
use Rattle.linear_rows.specs.Step.{columns}
use Rattle.report.specs.Generated.{named, appends, reverses, reverses_more, repeats, predicate, generated}
use Rattle.report.proofs.GeneratedLaws.{generated_short}
use Rattle.generated_text.specs.Read.{IsRead}
use Rattle.generated_text.proofs.Shapes.{Shape, append_none, append_more, reverse_none, reverse_more, repeat, IsFewIn}
use Rattle.generated_text.proofs.Texts.{lines, lines_read}

-- the clauses of predicate k
abbrev shapes : ℕ → List Shape
shapes k = cond (k % 3 == 1) (append_none k ∷ append_more k ∷ []) (cond (k % 3 == 2) (reverse_none k ∷ reverse_more k (k - 1) ∷ []) (repeat k (k - 1) ∷ []))

-- what stands after a name, one part after another
named_on : (k : ℕ) (x rest : List ℕ) → named k x ++ rest ≡ 112 ∷ (decimal k ++ (x ++ rest))
unfolding named
named_on k x rest = ap (λ (t : List ℕ). 112 ∷ t) (append_assoc (decimal k) x rest)

two_on : (i j : ℕ) (x y rest : List ℕ) → (named i x ++ named j y) ++ rest ≡ 112 ∷ (decimal i ++ (x ++ 112 ∷ (decimal j ++ (y ++ rest))))
two_on i j x y rest =
    append_assoc (named i x) (named j y) rest ∙ named_on i x (named j y ++ rest) ∙ ap (λ (t : List ℕ). 112 ∷ (decimal i ++ (x ++ t))) (named_on j y rest)

three_on : (i j k : ℕ) (x y z rest : List ℕ)
    → (named i x ++ named j y ++ named k z) ++ rest ≡ 112 ∷ (decimal i ++ (x ++ 112 ∷ (decimal j ++ (y ++ 112 ∷ (decimal k ++ (z ++ rest))))))
three_on i j k x y z rest =
    append_assoc (named i x ++ named j y) (named k z) rest ∙ two_on i j x y (named k z ++ rest)
    ∙ ap (λ (t : List ℕ). 112 ∷ (decimal i ++ (x ++ 112 ∷ (decimal j ++ (y ++ t))))) (named_on k z rest)

module _ (k : ℕ) (ss : List Shape) where
  appends_lines : appends k ++ lines ss ≡ lines (append_none k ∷ append_more k ∷ ss)
  appends_lines = three_on k k k (codes "([],L,L).\n") (codes "([H|T],L,[H|R]) :- ") (codes "(T,L,R).\n") (lines ss)

  reverses_lines : reverses k ++ lines ss ≡ lines (reverse_none k ∷ reverse_more k (k - 1) ∷ ss)
  reverses_lines =
      append_assoc (named k (codes "([],[]).\n")) (reverses_more k) (lines ss) ∙ named_on k (codes "([],[]).\n") (reverses_more k ++ lines ss)
      ∙ ap (λ (t : List ℕ). 112 ∷ (decimal k ++ (codes "([],[]).\n" ++ t))) (three_on k k (k - 1) (codes "([H|T],R) :- ") (codes "(T,S), ") (codes "(S,[H],R).\n") (lines ss))

  repeats_lines : repeats k ++ lines ss ≡ lines (repeat k (k - 1) ∷ ss)
  repeats_lines = three_on k (k - 1) (k - 1) (codes "(X,Y) :- ") (codes "(X,Z), ") (codes "(Z,Y).\n") (lines ss)

  by_kind : (first second : Bool) → cond first (appends k) (cond second (reverses k) (repeats k)) ++ lines ss
      ≡ lines (cond first (append_none k ∷ append_more k ∷ []) (cond second (reverse_none k ∷ reverse_more k (k - 1) ∷ []) (repeat k (k - 1) ∷ [])) ++ ss)
  by_kind true second = appends_lines
  by_kind false true = reverses_lines
  by_kind false false = repeats_lines

  predicate_lines : predicate k ++ lines ss ≡ lines (shapes k ++ ss)
  predicate_lines = by_kind (k % 3 == 1) (k % 3 == 2)

texts_lines : (ks : List ℕ) → flat_map predicate ks ≡ lines (flat_map shapes ks)
texts_lines [] = refl
texts_lines (k ∷ ks) = ap (λ (t : List ℕ). predicate k ++ t) (texts_lines ks) ∙ predicate_lines k (flat_map shapes ks)

-- each number is small
module _ (k : ℕ) (few : k < 1000) (ss : List Shape) (rest : AllByRecursion IsFewIn ss) where
  few_by_kind : (first second : Bool)
      → AllByRecursion IsFewIn (cond first (append_none k ∷ append_more k ∷ []) (cond second (reverse_none k ∷ reverse_more k (k - 1) ∷ []) (repeat k (k - 1) ∷ [])) ++ ss)
  few_by_kind true second = (few, (few, rest))
  few_by_kind false true = let before : k - 1 < 1000 = omega (arith, few) in (few, ((few, before), rest))
  few_by_kind false false = let before : k - 1 < 1000 = omega (arith, few) in ((few, before), rest)

shapes_few : (k n : ℕ) → k + n ≤ 1000 → AllByRecursion IsFewIn (flat_map shapes (columns k n))
shapes_few k zero few = tt
shapes_few k (suc n) few = few_by_kind k (omega (arith, few)) (flat_map shapes (columns (suc k) n)) (shapes_few (suc k) n (omega (arith, few))) (k % 3 == 1) (k % 3 == 2)

count_by_kind : (k : ℕ) (first second : Bool)
    → length (cond first (append_none k ∷ append_more k ∷ []) (cond second (reverse_none k ∷ reverse_more k (k - 1) ∷ []) (repeat k (k - 1) ∷ []))) ≤ 2
count_by_kind k true second = omega arith
count_by_kind k false true = omega arith
count_by_kind k false false = omega arith

shapes_count : (k n : ℕ) → length (flat_map shapes (columns k n)) ≤ 2 * n
shapes_count k zero = omega arith
shapes_count k (suc n) =
    omega (arith, count_by_kind k (k % 3 == 1) (k % 3 == 2), shapes_count (suc k) n, length-append (shapes k) (flat_map shapes (columns (suc k) n)))

pub generated_read : (n : ℕ) → n ≤ 300 → IsRead (generated n)
generated_read n few =
    let same = texts_lines (columns 1 n) in
    let count = shapes_count 1 n in
    let short = generated_short n few in
    subst IsRead (sym same) (lines_read (flat_map shapes (columns 1 n)) (shapes_few 1 n (omega (arith, few))) (omega (arith, count, few)) (omega (arith, short, ap length same)))
