-- A count down to 0 ends.
use Rattle.std.proofs.Common.{◌≡◌, ℕ, zero, suc, ◌<◌, ◌==◌, if◌then◌else◌, ℤ, pos, negsuc, ◌≤ℤ◌, Bool, true, false, List, [], ◌∷◌, take, length, None, Some, All, AllPairs, ◌≢◌, refl, sym, subst, arith, inl, inr}
use Rattle.std.specs.List.{AllByRecursion}
use Rattle.std.proofs.lemmas.Bool.{and_parts}
use Rattle.std.proofs.lemmas.Bool.Decides.{nat_tests}
use Rattle.std.proofs.lemmas.Int.{ints}
use Rattle.std.proofs.lemmas.List.Elements.{All-from_recursion}
use Rattle.exact128.specs.Sums.{dot}
use Rattle.linear_rows.specs.Proves.{Proves}
use Rattle.cti_terms.specs.Arithmetic.{kind_of}
use Rattle.cti_terms.specs.Tree.{Variable, Integer, truth}
use Rattle.cti_terms.specs.declared.atom_list.Atom.{Atom}
use Rattle.cti_terms.specs.declared.builtins.Builtin.{Builtin}
use Rattle.cti_terms.specs.declared.builtins.Builtin.TheVariants.{Is, Greater}
use Rattle.cti_terms.specs.Listing.{IsProgram, AreBinary}
use Rattle.cti_terms.specs.declared.predicates.Pred.{Pred}
use Rattle.termination_model.specs.sizes.Rows.{IsUpper}
use Rattle.termination_model.specs.grounds.Grounds.{HasArity, HasBuiltins, truth_row}
use Rattle.termination_model.specs.claims.Descent.{mode_row}
use Rattle.termination_model.specs.columns.ColumnClaims.{Mapping, Admits, AreStated, Covers, IsCovered, KeepsRule, fall_row, level_row}
use Rattle.termination_model.specs.columns.ColumnShort.{short_system, TargetProvable, DescendsProved, FallsProved, ServesProved, ShowsProved}
use Rattle.termination_model.specs.columns.Count.{names, count_of, greater, is_of, less_one, count_down, arithmetic, count, first_true, value_of_argument, nothing, count_claims, CountEnds}
use Rattle.termination_model.proofs.ColumnProved.{shown}
use Rattle.termination_model.proofs.ColumnQuery.{modes_end}
use Rattle.termination_model.proofs.Expressions.{three_are_columns}

first_name : (p q : Pred) → p ≡ q → p.name.0 ≡ q.name.0
first_name p q e = λ i. (e i).name.0

apart : AllPairs (λ (q r : Pred). q ≢ r) count.preds
apart zero zero d l m e = absurd (omega arith)
apart zero (suc zero) d l m e = absurd (omega (arith, first_name (record { name = record { 0 = 10 }; arity = 1 }) (record { name = record { 0 = 11 }; arity = 2 }) e))
apart zero (suc (suc zero)) d l m e = absurd (omega (arith, first_name (record { name = record { 0 = 10 }; arity = 1 }) (record { name = record { 0 = 12 }; arity = 2 }) e))
apart zero (suc (suc (suc j))) d l m e = absurd (omega arith)
apart (suc i) zero d l m e = absurd (omega arith)
apart (suc i) (suc zero) d l m e = absurd (omega arith)
apart (suc zero) (suc (suc zero)) d l m e = absurd (omega (arith, first_name (record { name = record { 0 = 11 }; arity = 2 }) (record { name = record { 0 = 12 }; arity = 2 }) e))
apart (suc (suc i)) (suc (suc zero)) d l m e = absurd (omega arith)
apart (suc i) (suc (suc (suc j))) d l m e = absurd (omega arith)

-- numbers from 3 on are not built in
no_kind : (q : ℕ) → kind_of arithmetic (suc (suc (suc q))) ≡ None
no_kind q =
    let one : (1 == suc (suc (suc q))) ≡ false = grind (arith, nat_tests) in
    let two : (2 == suc (suc (suc q))) ≡ false = grind (arith, nat_tests) in
    λ i. if one i then Some Greater else if two i then Some Is else None

binary : AreBinary count.preds count.arithmetic
binary zero b e = absurd (cc)
binary (suc zero) b e = refl
binary (suc (suc zero)) b e = refl
binary (suc (suc (suc q))) b e = let none = no_kind q in absurd (cc)

is_program : IsProgram count
is_program = record {
  arities = (omega arith, (omega arith, (omega arith, tt)));
  distinct = apart;
  clauses = (
    record { head = record { arity = refl; below = (refl, tt) }; body = tt; few = omega arith; small = omega arith; short = omega arith },
    (
      record {
        head = record { arity = refl; below = (refl, tt) };
        body = (record { arity = refl; below = (refl, (refl, tt)) }, (record { arity = refl; below = (refl, (refl, tt)) }, (record { arity = refl; below = (refl, tt) }, tt)));
        few = omega arith;
        small = omega arith;
        short = omega arith;
      },
      tt,
    ),
  );
  preds_fit = omega arith;
  clauses_fit = omega arith;
  binary = binary;
  ordinary = (refl, (refl, tt));
}

abbrev by_row : ℕ → List ℤ
by_row zero = pos 1 ∷ (pos 0 ∷ (pos 0 ∷ (pos 0 ∷ (pos 0 ∷ (pos 0 ∷ [])))))
by_row (suc j) = pos 0 ∷ (pos 0 ∷ (pos 0 ∷ (pos 1 ∷ (pos 0 ∷ (pos 0 ∷ [])))))

natural : (j : ℕ) → All (λ m. pos 0 ≤ℤ m) (by_row j)
natural zero = All-from_recursion (λ m. pos 0 ≤ℤ m) (by_row 0) (omega (arith, ints), (omega (arith, ints), (omega (arith, ints), (omega (arith, ints), (omega (arith, ints), (omega (arith, ints), tt))))))
natural (suc j) = All-from_recursion (λ m. pos 0 ≤ℤ m) (by_row 1) (omega (arith, ints), (omega (arith, ints), (omega (arith, ints), (omega (arith, ints), (omega (arith, ints), (omega (arith, ints), tt))))))

abbrev rows : List (List ℤ)
rows = short_system count_claims 2 (take 2 count_down.body)

abbrev value_mapping : Mapping
value_mapping = record { coefficients = λ _. pos 0 ∷ (pos 1 ∷ (negsuc 0 ∷ [])); offset = λ _. pos 0 }

-- the second row of `is` says that the call's value is one less
falls : TargetProvable 6 rows (fall_row count_claims count_down (count_of (Variable 1)) 1 value_mapping)
unfolding dot
falls = (by_row 1, 1, natural 1, proves)
  where
    proves : Proves rows (by_row 1) (negsuc 0 ∷ (pos 0 ∷ (pos 1 ∷ (negsuc 0 ∷ (pos 0 ∷ (negsuc 0 ∷ (pos 1 ∷ []))))))) (pos 1)
    proves zero l = omega (arith, ints)
    proves (suc zero) l = omega (arith, ints)
    proves (suc (suc zero)) l = omega (arith, ints)
    proves (suc (suc (suc zero))) l = omega (arith, ints)
    proves (suc (suc (suc (suc zero)))) l = omega (arith, ints)
    proves (suc (suc (suc (suc (suc zero))))) l = omega (arith, ints)
    proves (suc (suc (suc (suc (suc (suc zero)))))) l = omega (arith, ints)
    proves (suc (suc (suc (suc (suc (suc (suc k))))))) l = absurd (omega arith)

-- the row of `>` says that the head's value is at least 1
floor : TargetProvable 6 rows (level_row count_claims 2 value_mapping count_down.head)
unfolding dot
floor = (by_row 0, 1, natural 0, proves)
  where
    proves : Proves rows (by_row 0) (pos 0 ∷ (pos 0 ∷ (pos 1 ∷ (negsuc 0 ∷ (pos 0 ∷ (pos 0 ∷ (pos 0 ∷ []))))))) (pos 1)
    proves zero l = omega (arith, ints)
    proves (suc zero) l = omega (arith, ints)
    proves (suc (suc zero)) l = omega (arith, ints)
    proves (suc (suc (suc zero))) l = omega (arith, ints)
    proves (suc (suc (suc (suc zero)))) l = omega (arith, ints)
    proves (suc (suc (suc (suc (suc zero))))) l = omega (arith, ints)
    proves (suc (suc (suc (suc (suc (suc zero)))))) l = omega (arith, ints)
    proves (suc (suc (suc (suc (suc (suc (suc k))))))) l = absurd (omega arith)

builtins : HasBuiltins arithmetic count_claims.grounds
builtins zero b e = absurd (cc)
builtins (suc zero) b e = refl
builtins (suc (suc zero)) b e = refl
builtins (suc (suc (suc q))) b e = refl

stated : (q : ℕ) (b : Builtin) → kind_of arithmetic q ≡ Some b → AreStated arithmetic count_claims q b
stated zero b e = absurd (cc)
stated (suc zero) b e =
    let same : Greater ≡ b = cc in
    subst (AreStated arithmetic count_claims 1) same (record { kinds = refl; rows = (inl refl, tt) })
stated (suc (suc zero)) b e =
    let same : Is ≡ b = cc in
    subst (AreStated arithmetic count_claims 2) same (record { kinds = refl; rows = (inl refl, (inr (inl refl), (inr (inr (inl refl)), (inr (inr (inr (inl refl))), (inr (inr (inr (inr (inl refl)))), tt))))) })
stated (suc (suc (suc q))) b e = let none = no_kind q in absurd (cc)

serves_nothing : ServesProved count count_claims 0 nothing
serves_nothing = record {
  covered = λ q bs same h. tt;
  descends = (λ same. absurd (omega arith), (λ same. absurd (omega arith), tt));
  rule = (λ same. absurd (omega arith), (λ same. absurd (omega arith), tt));
}

covers : (bs : List Bool) → first_true bs ≡ true → Covers (3 ∷ []) (pos 0 ∷ (pos 1 ∷ (negsuc 0 ∷ []))) bs
covers [] h = tt
covers (b ∷ bs) h = (λ _. h, tt)

covered : IsCovered count_claims 1 value_of_argument
covered zero bs same h = (covers bs h, tt)
covered (suc zero) bs same h = absurd (omega arith)
covered (suc (suc zero)) bs same h = absurd (omega arith)
covered (suc (suc (suc q))) bs same h = absurd (omega arith)

descends : DescendsProved count_claims value_of_argument count_down
descends zero b e rank =
    let same : greater (Variable 0) (Integer (pos 0)) ≡ b = cc in
    absurd (subst (λ (x : Atom). count_claims.rank x.pred.0 ≡ 1 → ⊥) same (λ z. omega arith) rank)
descends (suc zero) b e rank =
    let same : is_of (Variable 1) (less_one (Variable 0)) ≡ b = cc in
    absurd (subst (λ (x : Atom). count_claims.rank x.pred.0 ≡ 1 → ⊥) same (λ z. omega arith) rank)
descends (suc (suc zero)) b e rank =
    let same : count_of (Variable 1) ≡ b = cc in
    (0, subst (λ (x : Atom). FallsProved count_claims count_down rows x 0 value_of_argument.mappings) same (falls, floor))
descends (suc (suc (suc j))) b e rank = absurd (cc)

abbrev Kept : (ℕ → Bool) → Atom → Type 0
Kept v b = (count_claims.rank b.pred.0 ≡ 1 → value_of_argument.pre b.pred.0 (truth_row truth v b) ≡ true) × (count_claims.rank b.pred.0 < 1 → Admits count_claims b.pred.0 (truth_row truth v b))

-- `is` gives rigid answers, so that count is called with one
rule : KeepsRule count_claims value_of_argument count_down
rule v head zero b e ground = let same : greater (Variable 0) (Integer (pos 0)) ≡ b = cc in subst (Kept v) same (λ z. absurd (omega arith), λ z. inl (λ us upper. refl))
rule v head (suc zero) b e ground = let same : is_of (Variable 1) (less_one (Variable 0)) ≡ b = cc in subst (Kept v) same (λ z. absurd (omega arith), λ z. inl (λ us upper. refl))
rule v head (suc (suc zero)) b e ground =
    let same : count_of (Variable 1) ≡ b = cc in
    let answered : v 1 ≡ true = (and_parts (v 1) (truth v (less_one (Variable 0))) ground.1.0).0 in
    subst (Kept v) same (λ z. answered, λ z. absurd (omega arith))
rule v head (suc (suc (suc j))) b e ground = absurd (cc)

serves_value : ServesProved count count_claims 1 value_of_argument
serves_value = record {
  covered = covered;
  descends = (λ same j b e. absurd (cc), (λ same. descends, tt));
  rule = (λ same v h j b e all. absurd (cc), (λ same. rule, tt));
}

measures : (r : ℕ) → AllByRecursion (ServesProved count count_claims r) (count_claims.measures r)
measures zero = (serves_nothing, tt)
measures (suc zero) = (serves_value, tt)
measures (suc (suc zero)) = tt
measures (suc (suc (suc r))) = tt

shows : ShowsProved count count_claims
shows = record {
  columns = three_are_columns (Some names);
  ranked = (tt, ((omega arith, (omega arith, (omega arith, tt))), tt));
  sizes = (tt, (tt, tt));
  closed = record { clauses = (λ v h. refl, (λ v h. refl, tt)); builtins = builtins };
  stated = stated;
  measures = measures;
}

upper_first : (us : List Bool) → IsUpper us (true ∷ []) → first_true us ≡ true
upper_first [] h = absurd h
upper_first (u ∷ us) h = h.0 refl

pub count_ends : CountEnds
count_ends a n pred long meets =
    let here : (q : ℕ) → q ≡ 0 → Admits count_claims q (mode_row (1 ∷ []) 1 1) = λ q e. subst (λ (z : ℕ). Admits count_claims z (mode_row (1 ∷ []) 1 1)) (sym e) (inl upper_first) in
    modes_end count count_claims is_program (shown count count_claims is_program shows) a n
    (subst (λ (q : ℕ). HasArity count.preds q (length a.args)) (sym pred) (sym long))
    (1 ∷ [])
    (subst (λ (k : ℕ). Admits count_claims a.pred.0 (mode_row (1 ∷ []) 1 k)) (sym long) (here a.pred.0 pred))
    meets
