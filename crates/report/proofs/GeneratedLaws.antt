-- The text of generated predicates: one more predicate, and how long it is.
use Rattle.std.proofs.Common.{◌≡◌, ◌∙◌, ◌+◌, ◌*◌, ◌-◌, ◌%◌, ◌==◌, ◌≤◌, ◌<◌, ℕ, zero, suc, Bool, true, false, cond, List, [], ◌∷◌, ◌++◌, codes, decimal, length, ap, arith, append-nil, append_assoc, flat_map, sym, Result, Ok, Err}
use Rattle.std.specs.Prelude.{OnOk}
use Rattle.std.proofs.lemmas.Fmt.{length-decimal-le}
use Rattle.std.proofs.lemmas.List.{length-append}
use Rattle.std.proofs.lemmas.List.Concat.{flat_map-append}
use Rattle.linear_rows.specs.Step.{columns}
use Rattle.level_systems.proofs.RowLengths.{columns_on}
use Rattle.report.specs.Generated.{named, appends, reverses, reverses_more, repeats, predicate, generated}

-- the pieces of a clause, one after another
pub reverses_after : {A E : Type 0} (r : Result A E) (k : ℕ) (before first second after : List ℕ) → first ≡ before ++ named k (codes "([H|T],R) :- ")
    → second ≡ first ++ named k (codes "(T,S), ") → OnOk r (after ≡ second ++ named (k - 1) (codes "(S,[H],R).\n")) → OnOk r (after ≡ before ++ reverses_more k)
reverses_after (Ok a) k before first second after f s h =
    let x = named k (codes "([H|T],R) :- ") in
    let y = named k (codes "(T,S), ") in
    let z = named (k - 1) (codes "(S,[H],R).\n") in
    h ∙ ap (λ (t : List ℕ). t ++ z) (s ∙ ap (λ (t : List ℕ). t ++ y) f)
    ∙ append_assoc (before ++ x) y z ∙ append_assoc before x (y ++ z) ∙ ap (λ (t : List ℕ). before ++ t) (sym (append_assoc x y z))
reverses_after (Err e) k before first second after f s h = tt

-- one predicate more
pub one_more : (n : ℕ) → generated (n + 1) ≡ generated n ++ predicate (n + 1)
one_more n =
    let more : 1 + n ≡ n + 1 = omega arith in
    ap (flat_map predicate) (columns_on 1 n) ∙ flat_map-append predicate (columns 1 n) ((1 + n) ∷ [])
    ∙ ap (λ (xs : List ℕ). generated n ++ xs) (append-nil (predicate (1 + n)) ∙ ap predicate more)

module _ (k : ℕ) (few : k < 1000) where
  named_short : (rest : List ℕ) → length (named k rest) ≤ 4 + length rest
  unfolding named
  named_short rest =
      let digits = length-decimal-le 3 k (omega arith) few (omega (arith, few)) in
      omega (arith, digits, length-append (decimal k) rest)

three : (a b c : List ℕ) (i j k : ℕ) → length a ≤ i → length b ≤ j → length c ≤ k → length (a ++ b ++ c) ≤ i + j + k
three a b c i j k x y z = omega (arith, x, y, z, length-append (a ++ b) c, length-append a b)

-- the clauses of a predicate are not long
predicate_short : (k : ℕ) → k < 1000 → length (predicate k) ≤ 200
predicate_short k few = by_kind (k % 3 == 1) (k % 3 == 2)
  where
    before : k - 1 < 1000
    before = omega (arith, few)

    short : (rest : List ℕ) → length rest ≤ 30 → length (named k rest) ≤ 40
    short rest h = let s = named_short k few rest in omega (arith, s, h)

    short_before : (rest : List ℕ) → length rest ≤ 30 → length (named (k - 1) rest) ≤ 40
    short_before rest h = let s = named_short (k - 1) before rest in omega (arith, s, h)

    appends_short : length (appends k) ≤ 120
    appends_short = three _ _ _ 40 40 40 (short (codes "([],L,L).\n") (omega arith)) (short (codes "([H|T],L,[H|R]) :- ") (omega arith)) (short (codes "(T,L,R).\n") (omega arith))

    more_short : length (reverses_more k) ≤ 120
    more_short = three _ _ _ 40 40 40 (short (codes "([H|T],R) :- ") (omega arith)) (short (codes "(T,S), ") (omega arith)) (short_before (codes "(S,[H],R).\n") (omega arith))

    reverses_short : length (reverses k) ≤ 160
    reverses_short =
        let first = short (codes "([],[]).\n") (omega arith) in
        omega (arith, first, more_short, length-append (named k (codes "([],[]).\n")) (reverses_more k))

    repeats_short : length (repeats k) ≤ 120
    repeats_short = three _ _ _ 40 40 40 (short (codes "(X,Y) :- ") (omega arith)) (short_before (codes "(X,Z), ") (omega arith)) (short_before (codes "(Z,Y).\n") (omega arith))

    by_kind : (first second : Bool) → length (cond first (appends k) (cond second (reverses k) (repeats k))) ≤ 200
    by_kind true second = omega (arith, appends_short)
    by_kind false true = omega (arith, reverses_short)
    by_kind false false = omega (arith, repeats_short)

columns_short : (k n : ℕ) → k + n ≤ 1000 → length (flat_map predicate (columns k n)) ≤ 200 * n
columns_short k zero few = omega arith
columns_short k (suc n) few =
    let first = predicate_short k (omega (arith, few)) in
    let rest = columns_short (suc k) n (omega (arith, few)) in
    omega (arith, first, rest, length-append (predicate k) (flat_map predicate (columns (suc k) n)))

-- the text of the given number of predicates is not long
pub generated_short : (n : ℕ) → n ≤ 300 → length (generated n) ≤ 1048576
generated_short n few = let all = columns_short 1 n (omega (arith, few)) in omega (arith, all, few)
