-- What comparisons in turn say of whole lists.
use Rattle.std.proofs.Common.{◌≡◌, ℕ, zero, suc, ◌+◌, ◌-◌, ◌<◌, ◌≤◌, ℤ, Bool, true, false, inl, inr, List, [], ◌∷◌, ◌++◌, length, slice_get, slice_index_or, Option, None, Some, refl, ap, sym, subst, ◌∙◌, arith}
use Rattle.std.specs.List.{AllByRecursion}
use Rattle.std.proofs.lemmas.Bool.{cases_eq}
use Rattle.call_components.proofs.Lists.{some_within}
use Rattle.cti_terms.specs.Listing.{Listing, IsAtom, IsClause}
use Rattle.cti_terms.specs.declared.atom_list.Atom.{Atom}
use Rattle.cti_terms.specs.declared.clauses.Clause.{Clause}
use Rattle.cti_terms.specs.declared.predicates.Pred.{Pred}
use Rattle.linear_rows.specs.Plain.{plain_row, plain_rows}
use Rattle.linear_rows.specs.declared.row.Row.{Row}
use Rattle.component_clauses.specs.Numbered.{paired, with_clauses}
use Rattle.termination_model.proofs.Lists.{mapped_place, one_element, place_below, there}
use Rattle.solved_program.specs.Comparing.{AreNumbersIn, AreTheSameCalls, AreTheSameClauses, HaveSameClause, HaveSameClauses, IsTheSameCall, IsTheSameClause}
use Rattle.solved_program.specs.Kept.{AreKept}
use Rattle.solved_program.specs.declared.standing.Compared.{Compared}

-- the predicates of a clause's atoms are there
pub atoms_below : (preds : List Pred) (n : ℕ) (bs : List Atom) → AllByRecursion (IsAtom preds n) bs → AllByRecursion (λ b. b.pred.0 < length preds) bs
atoms_below preds n [] h = tt
atoms_below preds n (b ∷ bs) h = (some_within (λ (x : Pred). x.arity ≡ length b.args) preds b.pred.0 h.0.arity, atoms_below preds n bs h.1)

-- what is true is not false
pub refuted : {b : Bool} → b ≡ true → b ≡ false → ⊥
refuted t f = let e : true ≡ false = sym t ∙ f in cc

-- a predicate of one component is not in another
pub elsewhere : (of : List ℕ) (q d e : ℕ) → slice_get of q ≡ Some d → (d ≡ e → ⊥) → slice_get of q ≡ Some e → ⊥
elsewhere of q d e at ne here = ne (one_element of q d e at here)

-- what holds at each place below n
abbrev pub SameTo : {X Y : Type 0} → (X → Y → Type 0) → ℕ → List X → List Y → Type 0
SameTo {X} {Y} P n xs ys = (i : ℕ) (x : X) (y : Y) → i < n → slice_get xs i ≡ Some x → slice_get ys i ≡ Some y → P x y

pub calls_of_places : (s : Compared) (bs es : List Atom) → length bs ≡ length es → SameTo (λ b e. IsTheSameCall s b.pred.0 e.pred.0) (length bs) bs es → AreTheSameCalls s bs es
calls_of_places s [] [] l h = tt
calls_of_places s [] (e ∷ es) l h = absurd (omega arith)
calls_of_places s (b ∷ bs) [] l h = absurd (omega arith)
calls_of_places s (b ∷ bs) (e ∷ es) l h = (h 0 b e (omega arith) refl refl, calls_of_places s bs es (omega arith) (λ i x y lt at there. h (suc i) x y (omega arith) at there))

nothing : Clause
nothing = record { head = record { pred = record { 0 = 0 }; args = [] }; body = []; vars = 0 }

pub clause_at : (clauses : List Clause) (k : ℕ) → 1 ≤ k → k ≤ length clauses → (x : Clause) × (slice_get clauses (k - 1) ≡ Some x)
clause_at clauses k first last = let lt : k - 1 < length clauses = omega arith in (_, there clauses (k - 1) nothing lt)

begins : (clauses : List Clause) (k : ℕ) (own : List ℕ) (x : Clause) → slice_get clauses (k - 1) ≡ Some x → with_clauses clauses (k ∷ own) ≡ (k, x) ∷ with_clauses clauses own
begins clauses k own x at = ap (λ (o : Option Clause). paired k o ++ with_clauses clauses own) at

module _ (s : Compared) where
  abbrev p : Listing
  p = s.edit.now.before.now

  abbrev new : Listing
  new = s.edit.now.after.now

  pub clauses_of_places : (js ks : List ℕ) → length js ≡ length ks → AreNumbersIn p js → AreNumbersIn new ks → SameTo (HaveSameClause s) (length js) js ks → HaveSameClauses s js ks
  clauses_of_places [] [] l a b h = tt
  clauses_of_places [] (k ∷ ks) l a b h = absurd (omega arith)
  clauses_of_places (j ∷ js) [] l a b h = absurd (omega arith)
  clauses_of_places (j ∷ js) (k ∷ ks) l a b h =
      let x = clause_at p.clauses j a.0.0 a.0.1 in
      let y = clause_at new.clauses k b.0.0 b.0.1 in
      let here = h 0 j k (omega arith) refl refl x.0 y.0 x.1 y.1 in
      let more = clauses_of_places js ks (omega arith) a.1 b.1 (λ i m n lt at there'. h (suc i) m n (omega arith) at there') in
      subst (λ xs. AreTheSameClauses s xs (with_clauses new.clauses (k ∷ ks))) (sym (begins p.clauses j js x.0 x.1))
      (subst (AreTheSameClauses s ((j, x.0) ∷ with_clauses p.clauses js)) (sym (begins new.clauses k ks y.0 y.1)) (here, more))

  -- ---- and back
  pub calls_length : (bs es : List Atom) → AreTheSameCalls s bs es → length bs ≡ length es
  calls_length [] [] h = refl
  calls_length [] (e ∷ es) h = absurd h
  calls_length (b ∷ bs) [] h = absurd h
  calls_length (b ∷ bs) (e ∷ es) h = ap suc (calls_length bs es h.1)

  pub call_at : (bs es : List Atom) → AreTheSameCalls s bs es → (i : ℕ) (b e : Atom) → slice_get bs i ≡ Some b → slice_get es i ≡ Some e → IsTheSameCall s b.pred.0 e.pred.0
  call_at [] es h i b e at there' = cc
  call_at (x ∷ bs) [] h i b e at there' = absurd h
  call_at (x ∷ bs) (y ∷ es) h zero b e at there' =
      let is_b : x ≡ b = cc in
      let is_e : y ≡ e = cc in
      subst (λ (z : Atom). IsTheSameCall s z.pred.0 e.pred.0) is_b (subst (λ (z : Atom). IsTheSameCall s x.pred.0 z.pred.0) is_e h.0)
  call_at (x ∷ bs) (y ∷ es) h (suc i) b e at there' = call_at bs es h.1 i b e at there'

  both : (j : ℕ) (js : List ℕ) (k : ℕ) (ks : List ℕ) (x y : Clause) → slice_get p.clauses (j - 1) ≡ Some x → slice_get new.clauses (k - 1) ≡ Some y → HaveSameClauses s (j ∷ js) (k ∷ ks)
      → IsTheSameClause s (j, x) (k, y) × HaveSameClauses s js ks
  both j js k ks x y at there' h =
      subst (AreTheSameClauses s ((j, x) ∷ with_clauses p.clauses js)) (begins new.clauses k ks y there')
      (subst (λ xs. AreTheSameClauses s xs (with_clauses new.clauses (k ∷ ks))) (begins p.clauses j js x at) h)

  pub clauses_length : (js ks : List ℕ) → AreNumbersIn p js → AreNumbersIn new ks → HaveSameClauses s js ks → length js ≡ length ks
  clauses_length [] [] a b h = refl
  clauses_length [] (k ∷ ks) a b h =
      let y = clause_at new.clauses k b.0.0 b.0.1 in
      absurd (subst (AreTheSameClauses s []) (begins new.clauses k ks y.0 y.1) h)
  clauses_length (j ∷ js) [] a b h =
      let x = clause_at p.clauses j a.0.0 a.0.1 in
      absurd (subst (λ xs. AreTheSameClauses s xs []) (begins p.clauses j js x.0 x.1) h)
  clauses_length (j ∷ js) (k ∷ ks) a b h =
      let x = clause_at p.clauses j a.0.0 a.0.1 in
      let y = clause_at new.clauses k b.0.0 b.0.1 in
      ap suc (clauses_length js ks a.1 b.1 (both j js k ks x.0 y.0 x.1 y.1 h).1)

  pub clause_pair : (js ks : List ℕ) → AreNumbersIn p js → AreNumbersIn new ks → HaveSameClauses s js ks → (i j k : ℕ) → slice_get js i ≡ Some j → slice_get ks i ≡ Some k → HaveSameClause s j k
  clause_pair [] ks a b h i j k at there' x y = cc
  clause_pair (m ∷ js) [] a b h i j k at there' x y = cc
  clause_pair (m ∷ js) (n ∷ ks) a b h zero j k at there' x y = λ here other.
      let is_j : m ≡ j = cc in
      let is_k : n ≡ k = cc in
      let first : slice_get p.clauses (m - 1) ≡ Some x = ap (λ (z : ℕ). slice_get p.clauses (z - 1)) is_j ∙ here in
      let second : slice_get new.clauses (n - 1) ≡ Some y = ap (λ (z : ℕ). slice_get new.clauses (z - 1)) is_k ∙ other in
      subst (λ (z : ℕ). IsTheSameClause s (z, x) (k, y)) is_j (subst (λ (z : ℕ). IsTheSameClause s (m, x) (z, y)) is_k (both m js n ks x y first second h).0)
  clause_pair (m ∷ js) (n ∷ ks) a b h (suc i) j k at there' x y =
      let u = clause_at p.clauses m a.0.0 a.0.1 in
      let v = clause_at new.clauses n b.0.0 b.0.1 in
      clause_pair js ks a.1 b.1 (both m js n ks u.0 v.0 u.1 v.1 h).1 i j k at there' x y

-- one more place
pub same_more : {X Y : Type 0} (P : X → Y → Type 0) (n : ℕ) (xs : List X) (ys : List Y) (x : X) (y : Y) → SameTo P n xs ys → slice_get xs n ≡ Some x → slice_get ys n ≡ Some y → P x y → SameTo P (n + 1) xs ys
same_more P n xs ys x y h at there' p i u v lt e f = elim (cases_eq i n) [
  | inl same ↦
      let here : slice_get xs n ≡ Some u = ap (slice_get xs) (sym same) ∙ e in
      let other : slice_get ys n ≡ Some v = ap (slice_get ys) (sym same) ∙ f in
      let is_x : x ≡ u = cc in
      let is_y : y ≡ v = cc in
      subst (P u) is_y (subst (λ z. P z y) is_x p)
  | inr ne ↦ h i u v (omega arith) e f
]

pub none_same : {X Y : Type 0} (P : X → Y → Type 0) (xs : List X) (ys : List Y) → SameTo P 0 xs ys
none_same P xs ys i x y lt e f = absurd (omega arith)

-- ---- rows
pub rows_of_places : (xs ys : List Row) → length xs ≡ length ys → SameTo (λ x y. plain_row x ≡ plain_row y) (length xs) xs ys → plain_rows xs ≡ plain_rows ys
rows_of_places [] [] l h = refl
rows_of_places [] (y ∷ ys) l h = absurd (omega arith)
rows_of_places (x ∷ xs) [] l h = absurd (omega arith)
rows_of_places (x ∷ xs) (y ∷ ys) l h =
    let here = h 0 x y (omega arith) refl refl in
    let more = rows_of_places xs ys (omega arith) (λ i u v lt at there'. h (suc i) u v (omega arith) at there') in
    λ i. here i ∷ more i

pub row_at : (xs ys : List Row) → plain_rows xs ≡ plain_rows ys → (i : ℕ) (x y : Row) → slice_get xs i ≡ Some x → slice_get ys i ≡ Some y → plain_row x ≡ plain_row y
row_at xs ys e i x y at there' =
    let here : slice_get (plain_rows xs) i ≡ Some (plain_row x) = mapped_place plain_row xs i x at in
    let other : slice_get (plain_rows ys) i ≡ Some (plain_row y) = mapped_place plain_row ys i y there' in
    let both : slice_get (plain_rows xs) i ≡ slice_get (plain_rows ys) i = ap (λ (rs : List (List ℤ)). slice_get rs i) e in
    cc

pub rows_length : (xs ys : List Row) → plain_rows xs ≡ plain_rows ys → length xs ≡ length ys
rows_length [] [] e = refl
rows_length [] (y ∷ ys) e = cc
rows_length (x ∷ xs) [] e = cc
rows_length (x ∷ xs) (y ∷ ys) e = let rest : plain_rows xs ≡ plain_rows ys = cc in ap suc (rows_length xs ys rest)

-- ---- kept clauses
pub kept_in : (p new : Listing) (kept : List (Option ℕ)) → AreKept p new kept → (i j : ℕ) → slice_get kept i ≡ Some (Some j) → (1 ≤ j) × (j ≤ length p.clauses)
kept_in p new kept are i j at =
    let lt = place_below kept i (Some j) at in
    let each = are.each in
    let is = are.same i j _ at (there new.clauses i nothing (omega arith)) in
    let below = place_below p.clauses (j - 1) is.clause is.at in
    let first = is.first in
    (first, omega arith)

-- the first of these clauses, if it was kept
pub first_kept : (p new : Listing) (kept : List (Option ℕ)) → AreKept p new kept → (own : List ℕ) → AreNumbersIn new own → 0 < length own
    → (j : ℕ) → slice_index_or kept (slice_index_or own 0 0 - 1) None ≡ Some j → (1 ≤ j) × (j ≤ length p.clauses)
first_kept p new kept are [] h l j e = absurd (omega arith)
first_kept p new kept are (k ∷ own) h l j e =
    let each = are.each in
    let first = h.0.0 in
    let last = h.0.1 in
    kept_in p new kept are (k - 1) j (there kept (k - 1) None (omega arith) ∙ ap Some e)

pub first_place : (p new : Listing) (kept : List (Option ℕ)) → AreKept p new kept → (own : List ℕ) → AreNumbersIn new own → 0 < length own → slice_index_or own 0 0 - 1 < length kept
first_place p new kept are [] h l = absurd (omega arith)
first_place p new kept are (k ∷ own) h l =
    let each = are.each in
    let first = h.0.0 in
    let last = h.0.1 in
    omega arith

-- the predicate of a clause's head is there
pub head_below : (preds : List Pred) (k : Clause) → IsClause preds k → k.head.pred.0 < length preds
head_below preds k is = some_within (λ (x : Pred). x.arity ≡ length k.head.args) preds k.head.pred.0 is.head.arity

-- a component with these clauses has some
pub has_clauses : (clauses : List Clause) (own : List ℕ) (ks : List (ℕ × Clause)) → AllByRecursion (λ k. (1 ≤ k) × (k ≤ length clauses)) own → 0 < length own → with_clauses clauses own ≡ ks → ks ≡ [] → ⊥
has_clauses clauses [] ks h l is none = absurd (omega arith)
has_clauses clauses (k ∷ own) ks h l is none =
    let x = clause_at clauses k h.0.0 h.0.1 in
    let some = begins clauses k own x.0 x.1 in
    cc
