-- The table of a program's calls.
use Rattle.std.proofs.Common.{◌≡◌, ℕ, zero, suc, ◌+◌, ◌<◌, ◌==◌, ◌⊎◌, inl, inr, Bool, true, false, if◌then◌else◌, List, [], ◌∷◌, ◌++◌, map, length, take, set, get_or, slice_get, Some, Any, ◌↔◌, refl, ap, sym, subst, ◌∙◌, arith, add-one, append-nil, append_assoc, eqb-true, eq-eqb, ne_eqb, get_or-set_same, get_or-set_other, length-set}
use Rattle.std.specs.List.{AllByRecursion}
use Rattle.std.proofs.lemmas.Bool.{cases_eq, cases_lt}
use Rattle.std.proofs.lemmas.List.{get_or_past}
use Rattle.cti_terms.specs.declared.atom_list.Atom.{Atom}
use Rattle.cti_terms.specs.declared.clauses.Clause.{Clause}
use Rattle.cti_terms.specs.declared.predicates.Pred.{Pred}
use Rattle.cti_terms.specs.Listing.{Listing, IsAtom, IsClause, IsProgram}
use Rattle.call_components.specs.Calls.{Calls}
use Rattle.call_components.specs.Numbers.{called_by_atom}
use Rattle.call_components.specs.Table.{callees, AreWithin, Has, HasCall}
use Rattle.call_components.proofs.Lists.{has_left, has_right, has_cases, any_cases, any_here, any_there, some_within, all_append, all_from}

-- the callees of one clause more
pub callees_more : (a : ℕ) (ks : List Clause) (i : ℕ) (k : Clause) → slice_get ks i ≡ Some k
    → callees a (take (suc i) ks) ≡ callees a (take i ks) ++ (if k.head.pred.0 == a then map called_by_atom k.body else [])
callees_more a [] i k e = cc
callees_more a (x ∷ ks) zero k e =
    let it : x ≡ k = cc in
    append-nil (if x.head.pred.0 == a then map called_by_atom x.body else []) ∙ ap (λ (y : Clause). if y.head.pred.0 == a then map called_by_atom y.body else []) it
callees_more a (x ∷ ks) (suc i) k e =
    ap (λ (rest : List ℕ). (if x.head.pred.0 == a then map called_by_atom x.body else []) ++ rest) (callees_more a ks i k e)
    ∙ sym (append_assoc (if x.head.pred.0 == a then map called_by_atom x.body else []) (callees a (take i ks)) (if k.head.pred.0 == a then map called_by_atom k.body else []))

-- the rows with the calls of one clause more
pub rows_more : (rows new : List (List ℕ)) (ks : List Clause) (i : ℕ) (k : Clause) → slice_get ks i ≡ Some k → k.head.pred.0 < length rows
    → new ≡ set rows k.head.pred.0 (get_or rows k.head.pred.0 [] ++ map called_by_atom k.body)
    → ((a : ℕ) → a < length rows → get_or rows a [] ≡ callees a (take i ks)) → (a : ℕ) → a < length new → get_or new a [] ≡ callees a (take (i + 1) ks)
rows_more rows new ks i k e known is old a l =
    let same : length new ≡ length rows = ap length is ∙ length-set rows h row in
    rw add-one (ap (λ (xs : List (List ℕ)). get_or xs a []) is ∙ go (cases_eq a h) (omega arith) ∙ sym (callees_more a ks i k e))
  where
    h : ℕ
    h = k.head.pred.0

    row : List ℕ
    row = get_or rows k.head.pred.0 [] ++ map called_by_atom k.body

    go : (a ≡ k.head.pred.0) ⊎ (a ≡ k.head.pred.0 → ⊥) → a < length rows
        → get_or (set rows k.head.pred.0 (get_or rows k.head.pred.0 [] ++ map called_by_atom k.body)) a [] ≡ callees a (take i ks) ++ (if k.head.pred.0 == a then map called_by_atom k.body else [])
    go (inl it) within =
        ap (λ (x : ℕ). get_or (set rows k.head.pred.0 (get_or rows k.head.pred.0 [] ++ map called_by_atom k.body)) x []) it
        ∙ get_or-set_same rows k.head.pred.0 (get_or rows k.head.pred.0 [] ++ map called_by_atom k.body) [] known
        ∙ ap (λ (xs : List ℕ). xs ++ map called_by_atom k.body) (ap (λ (x : ℕ). get_or rows x []) (sym it) ∙ old a within)
        ∙ ap (λ (t : Bool). callees a (take i ks) ++ (if t then map called_by_atom k.body else [])) (sym (eq-eqb k.head.pred.0 a (sym it)))
    go (inr ne) within =
        get_or-set_other rows k.head.pred.0 a (get_or rows k.head.pred.0 [] ++ map called_by_atom k.body) [] ne
        ∙ old a within ∙ sym (append-nil (callees a (take i ks)))
        ∙ ap (λ (t : Bool). callees a (take i ks) ++ (if t then map called_by_atom k.body else [])) (sym (ne_eqb k.head.pred.0 a (λ it. ne (sym it))))

-- the callees of a program's clauses are its predicates
called_within : (preds : List Pred) (vars : ℕ) (body : List Atom) → AllByRecursion (IsAtom preds vars) body → AllByRecursion (λ b. b < length preds) (map called_by_atom body)
called_within preds vars [] h = tt
called_within preds vars (x ∷ body) h = (some_within _ preds x.pred.0 h.0.arity, called_within preds vars body h.1)

callees_within : (preds : List Pred) (a : ℕ) (ks : List Clause) → AllByRecursion (IsClause preds) ks → AllByRecursion (λ b. b < length preds) (callees a ks)
callees_within preds a [] h = tt
callees_within preds a (k ∷ ks) h =
    all_append (λ b. b < length preds) (if k.head.pred.0 == a then map called_by_atom k.body else []) (callees a ks) (go (k.head.pred.0 == a)) (callees_within preds a ks h.1)
  where
    go : (t : Bool) → AllByRecursion (λ b. b < length preds) (if t then map called_by_atom k.body else [])
    go true = called_within preds k.vars k.body h.0.body
    go false = tt

pub table_within : (p : Listing) (rows : List (List ℕ)) → IsProgram p → length rows ≡ length p.preds
    → ((a : ℕ) → a < length rows → get_or rows a [] ≡ callees a p.clauses) → AreWithin (length rows) rows
table_within p rows prog each row =
    all_from (AllByRecursion (λ b. b < length rows)) [] rows (λ a l. subst (AllByRecursion (λ b. b < length rows)) (sym (row a l))
    (subst (λ (n : ℕ). AllByRecursion (λ b. b < n) (callees a p.clauses)) (sym each) (callees_within p.preds a p.clauses prog.clauses)))

-- the head of a program's clause is one of its predicates
pub caller_within : (p : Listing) (a b : ℕ) → IsProgram p → Calls p a b → a < length p.preds
caller_within p a b prog h = go p.clauses prog.clauses h
  where
    go : (ks : List Clause) → AllByRecursion (IsClause p.preds) ks → Any (λ (k : Clause). (k.head.pred.0 ≡ a) × Any (λ (x : Atom). x.pred.0 ≡ b) k.body) ks → a < length p.preds
    go [] all h = absurd (omega (arith, h.2))
    go (k ∷ ks) all h =
        elim (any_cases (λ (k : Clause). (k.head.pred.0 ≡ a) × Any (λ (x : Atom). x.pred.0 ≡ b) k.body) k ks h) [
          | inl here ↦ subst (λ (x : ℕ). x < length p.preds) here.0 (some_within _ p.preds k.head.pred.0 all.0.head.arity)
          | inr there ↦ go ks all.1 there
        ]

-- an atom of b in a body, and b among those that the body calls
called_has : (b : ℕ) (body : List Atom) → Any (λ (x : Atom). x.pred.0 ≡ b) body → Has (map called_by_atom body) b
called_has b [] h = absurd (omega (arith, h.2))
called_has b (x ∷ body) h =
    elim (any_cases (λ (x : Atom). x.pred.0 ≡ b) x body h) [
      | inl here ↦ (zero, ap Some here)
      | inr there ↦ (let k = called_has b body there in (suc k.0, k.1))
    ]

has_called : (b : ℕ) (body : List Atom) → Has (map called_by_atom body) b → Any (λ (x : Atom). x.pred.0 ≡ b) body
has_called b [] (k, e) = cc
has_called b (x ∷ body) (zero, e) = any_here (λ (x : Atom). x.pred.0 ≡ b) x body cc
has_called b (x ∷ body) (suc k, e) = any_there (λ (x : Atom). x.pred.0 ≡ b) x body (has_called b body (k, e))

-- a clause by which a calls b
abbrev pub CallsBy : ℕ → ℕ → Clause → Type 0
CallsBy a b k = (k.head.pred.0 ≡ a) × Any (λ (x : Atom). x.pred.0 ≡ b) k.body

-- calls by clauses, and what the row of their caller has
pub callees_have : (a b : ℕ) (ks : List Clause) → Any (CallsBy a b) ks → Has (callees a ks) b
callees_have a b [] h = absurd (omega (arith, h.2))
callees_have a b (k ∷ ks) h =
    elim (any_cases (CallsBy a b) k ks h) [
      | inl here ↦ has_left (if k.head.pred.0 == a then map called_by_atom k.body else []) (callees a ks) b
          (subst (λ (t : Bool). Has (if t then map called_by_atom k.body else []) b) (sym (eq-eqb k.head.pred.0 a here.0)) (called_has b k.body here.1))
      | inr there ↦ has_right (if k.head.pred.0 == a then map called_by_atom k.body else []) (callees a ks) b (callees_have a b ks there)
    ]

have_callees : (a b : ℕ) (ks : List Clause) → Has (callees a ks) b → Any (CallsBy a b) ks
have_callees a b [] (k, e) = cc
have_callees a b (k ∷ ks) h =
    elim (has_cases (if k.head.pred.0 == a then map called_by_atom k.body else []) (callees a ks) b h) [
      | inl here ↦ any_here (CallsBy a b) k ks (go (k.head.pred.0 == a) refl here)
      | inr there ↦ any_there (CallsBy a b) k ks (have_callees a b ks there)
    ]
  where
    go : (t : Bool) → (k.head.pred.0 == a) ≡ t → Has (if t then map called_by_atom k.body else []) b → CallsBy a b k
    go true e h = (eqb-true k.head.pred.0 a e, has_called b k.body h)
    go false e (i, at) = cc

-- the calls of the table are those of the program
pub table_calls : (p : Listing) (rows : List (List ℕ)) → IsProgram p → length rows ≡ length p.preds
    → ((a : ℕ) → a < length rows → get_or rows a [] ≡ callees a p.clauses) → (a b : ℕ) → HasCall rows a b ↔ Calls p a b
table_calls p rows prog each row a b = (to, from)
  where
    none : Has [] b → ⊥
    none (k, e) = cc

    to : HasCall rows a b → Calls p a b
    to h =
        elim (cases_lt a (length rows)) [
          | inl l ↦ have_callees a b p.clauses (subst (λ (xs : List ℕ). Has xs b) (row a l) h)
          | inr l ↦ absurd (none (subst (λ (xs : List ℕ). Has xs b) (get_or_past rows a [] l) h))
        ]

    from : Calls p a b → HasCall rows a b
    from h =
        let known : a < length p.preds = caller_within p a b prog h in
        let within : a < length rows = omega arith in
        subst (λ (xs : List ℕ). Has xs b) (sym (row a within)) (callees_have a b p.clauses h)
