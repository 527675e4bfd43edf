-- Exact modes hold.
use Rattle.std.proofs.Common.{◌≡◌, ℕ, zero, suc, ◌+◌, ◌<◌, ◌≤◌, ◌==◌, Bool, true, false, ◌&&◌, not, IsTrue, if◌then◌else◌, List, [], ◌∷◌, ◌++◌, length, map, filter, slice_get, Some, None, Option, inl, inr, refl, ap, sym, subst, ◌∙◌, arith, eqb-true, nat_lt}
use Rattle.std.specs.Prelude.{IsSomeAnd, unwrap_or, option_map}
use Rattle.std.specs.List.{AllByRecursion, list_any}
use Rattle.std.proofs.lemmas.Bool.Decides.{nat_tests}
use Rattle.std.proofs.lemmas.List.{length-map}
use Rattle.bool_diagrams.specs.Cubes.{cubes, covered, rests, same_rows}
use Rattle.bool_diagrams.proofs.CubeLemmas.{covered-cubes}
use Rattle.bool_diagrams.specs.declared.cube.Cell.{Cell}
use Rattle.bool_diagrams.specs.declared.cube.Cell.TheVariants.{Zero, One, Any}
use Rattle.call_components.specs.Partition.{Partition, AreComponents, IsIn}
use Rattle.cert_structure.specs.Numbered.{AreEach, EachFrom}
use Rattle.cert_structure.specs.Shape.{arity_in, Ascend, HasWidth, is_same, is_together, IsMode, items_of}
use Rattle.cert_structure.specs.declared.parts.Parts.{Parts}
use Rattle.cti_terms.specs.Arithmetic.{kind_of}
use Rattle.cti_terms.specs.Listing.{Listing, IsProgram, IsClause, IsAtom}
use Rattle.cti_terms.specs.Tree.{Tree}
use Rattle.cti_terms.specs.declared.atom_list.Atom.{Atom}
use Rattle.cti_terms.specs.declared.builtins.Builtin.{Builtin}
use Rattle.cti_terms.specs.declared.clauses.Clause.{Clause}
use Rattle.cti_terms.specs.declared.predicates.Pred.{Pred}
use Rattle.truth_rows.specs.Rules.{KeepsSets}
use Rattle.linear_rows.specs.Members.{In}
use Rattle.linear_rows.proofs.Members.{of-filter}
use Rattle.cert_modes.specs.Modes.{allowed, coefficients_of, cube_row, grounds_of, is_row, precondition}
use Rattle.termination_model.specs.chains.Chain.{is_number}
use Rattle.termination_model.specs.claims.Descent.{mode_row}
use Rattle.termination_model.specs.grounds.Grounds.{HasArity, truth_row, IsGround, IsClosed, IsClosedUnder}
use Rattle.termination_model.specs.grounds.Modes.{modes, chosen_up_to, is_part}
use Rattle.termination_model.specs.sizes.Rows.{Covers}
use Rattle.termination_model.proofs.Sets.{up_to_set}
use Rattle.termination_model.specs.grounds.Minimal.{IsSet}
use Rattle.cert_assembly.specs.ExactModes.{is_member, PreIsGreatest, ModesAreExact, AreCounted, HoldWithShape, ExactModesHold}
use Rattle.precond_fixpoint.proofs.Searching.{by_place}

-- a predicate of a component, by either test
same_number : (o : Option ℕ) (c : ℕ) → is_same o (Some c) ≡ is_number c o
same_number None c = refl
same_number (Some d) c = refl

from_places : {X : Type 0} (P : X → Type 0) (xs : List X) → ((i : ℕ) (x : X) → slice_get xs i ≡ Some x → P x) → AllByRecursion P xs
from_places P [] h = tt
from_places P (y ∷ ys) h = (h 0 y refl, from_places P ys (λ i x e. h (suc i) x e))

pub each_in : {X : Type 0} (P : X → Type 0) (xs : List X) → ((x : X) → In x xs → P x) → AllByRecursion P xs
each_in P [] h = tt
each_in P (x ∷ xs) h = (h x (inl refl), each_in P xs (λ y i. h y (inr i)))

pub each_from : {X : Type 0} (P : ℕ → X → Type 0) (k : ℕ) (xs : List X) → ((i : ℕ) (x : X) → slice_get xs i ≡ Some x → P (k + i) x) → EachFrom k P xs
each_from P k [] h = tt
each_from P k (x ∷ xs) h =
    let here : k + 0 ≡ k = omega arith in
    (subst (λ (n : ℕ). P n x) here (h 0 x refl), each_from P (suc k) xs (λ i y e. subst (λ (n : ℕ). P n y) (next k i) (h (suc i) y e)))
  where
    next : (k i : ℕ) → k + suc i ≡ suc k + i
    next k i = omega arith

pub place_below : {X : Type 0} (xs : List X) (i : ℕ) (x : X) → slice_get xs i ≡ Some x → i < length xs
place_below [] i x e = cc
place_below (y ∷ ys) zero x e = omega arith
place_below (y ∷ ys) (suc i) x e = omega (arith, place_below ys i x e)

pub there : {X : Type 0} (xs : List X) (i : ℕ) → i < length xs → (x : X) × (slice_get xs i ≡ Some x)
there [] i l = absurd (omega arith)
there (x ∷ xs) zero l = (x, refl)
there (x ∷ xs) (suc i) l = there xs i (omega arith)

pub item_is : {X : Type 0} (xss : List (List X)) (q : ℕ) (xs : List X) → slice_get xss q ≡ Some xs → items_of xss q ≡ xs
item_is {X = X} xss q xs e = ap (λ (o : Option (List X)). unwrap_or o []) e

arity_is : (p : Listing) (q : ℕ) (d : Pred) → slice_get p.preds q ≡ Some d → arity_in p q ≡ d.arity
arity_is p q d e = ap (λ (o : Option Pred). unwrap_or (option_map (λ q. q.arity) o) 0) e

-- ---- cubes have the width of their rows
any_width : (cell : Cell) (n : ℕ) (cs : List (List Cell)) → AllByRecursion (HasWidth n) cs → AllByRecursion (HasWidth (suc n)) (map (λ cube. cell ∷ cube) cs)
any_width cell n [] h = tt
any_width cell n (c ∷ cs) h = (ap suc h.0, any_width cell n cs h.1)

all_append : {X : Type 0} (P : X → Type 0) (xs ys : List X) → AllByRecursion P xs → AllByRecursion P ys → AllByRecursion P (xs ++ ys)
all_append P [] ys h k = k
all_append P (x ∷ xs) ys h k = (h.0, all_append P xs ys h.1 k)

abbrev Wide : ℕ → List (List Cell) → Type 0
Wide n cs = AllByRecursion (λ (c : List Cell). length c ≡ n) cs

cubes_width : (n : ℕ) (set : List Bool → Bool) → Wide n (cubes n set)
unfolding cubes
cubes_width zero set = go (set [])
  where
    go : (b : Bool) → Wide 0 (if b then [] ∷ [] else [])
    go true = (refl, tt)
    go false = tt
cubes_width (suc n) set = go (same_rows n (rests false set) (rests true set)) (cubes_width n (rests false set)) (cubes_width n (rests true set))
  where
    go : (b : Bool) → Wide n (cubes n (rests false set)) → Wide n (cubes n (rests true set))
        → Wide (suc n) (if b then map (λ cube. Any ∷ cube) (cubes n (rests false set)) else map (λ cube. Zero ∷ cube) (cubes n (rests false set)) ++ map (λ cube. One ∷ cube) (cubes n (rests true set)))
    go true h k = any_width Any n (cubes n (rests false set)) h
    go false h k = all_append (λ (c : List Cell). length c ≡ suc n) (map (λ cube. Zero ∷ cube) (cubes n (rests false set))) (map (λ cube. One ∷ cube) (cubes n (rests true set)))
        (any_width Zero n (cubes n (rests false set)) h) (any_width One n (cubes n (rests true set)) k)

-- ---- spelled sets
row_fits_one : (o : Option Pred) (n : ℕ) (row : List Bool) → IsSomeAnd o (λ d. d.arity ≡ n) → length row ≡ n → is_row o row ≡ true
row_fits_one None n row h l = absurd h
row_fits_one (Some d) n row h l = grind (arith, nat_tests)

and_true : (a b : Bool) → a ≡ true → (a && b) ≡ b
and_true true b h = refl
and_true false b h = cc

-- a list of cubes that spells a set has its rows
spelled_row : (p : Listing) (q : ℕ) (list : List (List Cell)) (f : List Bool → Bool) (row : List Bool) → ((d : Pred) → slice_get p.preds q ≡ Some d → list ≡ cubes d.arity f)
    → HasArity p.preds q (length row) → cube_row p q list row ≡ f row
spelled_row p q list f row h arity = go (slice_get p.preds q) refl arity
  where
    go : (o : Option Pred) → slice_get p.preds q ≡ o → IsSomeAnd o (λ d. d.arity ≡ length row) → (is_row o row && covered list row) ≡ f row
    go None e k = absurd k
    go (Some d) e k =
        let long : length row ≡ d.arity = sym k in
        and_true (is_row (Some d) row) (covered list row) (row_fits_one (Some d) d.arity row refl long)
        ∙ ap (λ cs. covered cs row) (h d e)
        ∙ covered-cubes d.arity f row long

row_arity : (o : Option Pred) (row : List Bool) (b : Bool) → (is_row o row && b) ≡ true → IsSomeAnd o (λ d. d.arity ≡ length row)
row_arity None row b h = cc
row_arity (Some d) row b h = eqb-true d.arity (length row) (first (d.arity == length row) b h)
  where
    first : (a b : Bool) → (a && b) ≡ true → a ≡ true
    first true b h = refl
    first false b h = cc

-- ---- ground rows
atom_arity : (p : Listing) (vars : ℕ) (truth : (ℕ → Bool) → Tree → Bool) (v : ℕ → Bool) (a : Atom) → IsAtom p.preds vars a → HasArity p.preds a.pred.0 (length (truth_row truth v a))
atom_arity p vars truth v a is = subst (λ (n : ℕ). HasArity p.preds a.pred.0 n) (sym (length-map a.args (truth v))) is.arity

both_ways : (a b : Bool) → a ≡ b → IsTrue a → IsTrue b
both_ways a b e h = subst IsTrue e h

module _ (truth : (ℕ → Bool) → Tree → Bool) (p : Listing) (program : IsProgram p) (comps : Partition) (components : AreComponents p comps) (parts : Parts)
    (counted : AreCounted p comps parts) (exact : ModesAreExact truth p comps parts) where
  ground_is : (vars : ℕ) (v : ℕ → Bool) (a : Atom) → IsAtom p.preds vars a → grounds_of p parts a.pred.0 (truth_row truth v a) ≡ exact.grounds.family a.pred.0 (truth_row truth v a)
  ground_is vars v a is = spelled_row p a.pred.0 (items_of parts.grounds a.pred.0) (exact.grounds.family a.pred.0) (truth_row truth v a) (exact.grounds.spelled a.pred.0) (atom_arity p vars truth v a is)

  body_grounds : (vars : ℕ) (v : ℕ → Bool) (bs : List Atom) → AllByRecursion (IsAtom p.preds vars) bs → AllByRecursion (IsGround truth (grounds_of p parts) v) bs → AllByRecursion (IsGround truth exact.grounds.family v) bs
  body_grounds vars v [] is h = tt
  body_grounds vars v (b ∷ bs) is h = (both_ways _ _ (ground_is vars v b is.0) h.0, body_grounds vars v bs is.1 h.1)

  closed_in : (k : Clause) → IsClause p.preds k → IsClosedUnder truth exact.grounds.family k → IsClosedUnder truth (grounds_of p parts) k
  closed_in k is h v body = both_ways _ _ (sym (ground_is k.vars v k.head is.head)) (h v (body_grounds k.vars v k.body is.body body))

  -- a built-in predicate's ground rows have the row of two rigid arguments
  builtin_row : (q : ℕ) (b : Builtin) → kind_of p.arithmetic q ≡ Some b → IsTrue (grounds_of p parts q (true ∷ (true ∷ [])))
  builtin_row q b e =
      both_ways _ _ (sym (spelled_row p q (items_of parts.grounds q) (exact.grounds.family q) (true ∷ (true ∷ [])) (exact.grounds.spelled q) (program.binary q b e)))
      (exact.grounds.least.closed.builtins q b e)

  closed : IsClosed truth p (grounds_of p parts)
  closed = record {
    clauses = from_places (IsClosedUnder truth (grounds_of p parts)) p.clauses
        (λ i k e. closed_in k (by_place (IsClause p.preds) p.clauses program.clauses i k e) (by_place (IsClosedUnder truth exact.grounds.family) p.clauses exact.grounds.least.closed.clauses i k e));
    builtins = builtin_row;
  }

  -- ---- preconditions
  in_component : (q : ℕ) (d : Pred) → slice_get p.preds q ≡ Some d → (c : ℕ) × IsIn comps c q
  in_component q d e = let l = place_below p.preds q d e in let each = components.each in there comps.of q (omega arith)

  pub member_is : (c q : ℕ) → IsIn comps c q → is_member comps c q ≡ true
  member_is c q h = ap (λ (o : Option ℕ). is_number c o) h ∙ self c
    where
      self : (c : ℕ) → (c == c) ≡ true
      self c = grind (arith, nat_tests)

  pub of_member : (c q : ℕ) → is_member comps c q ≡ true → IsIn comps c q
  of_member c q h = go (slice_get comps.of q) refl h
    where
      go : (o : Option ℕ) → slice_get comps.of q ≡ o → is_number c o ≡ true → slice_get comps.of q ≡ Some c
      go None e k = cc
      go (Some d) e k = e ∙ ap Some (eqb-true d c k)

  module _ (c q m : ℕ) (inside : IsIn comps c q) (few : m < length (items_of parts.preconditions q)) where
    pub pre : PreIsGreatest truth p comps parts c m
    pre = exact.pres c q m inside few

    -- the printed precondition of a member has the rows of the family
    pub pre_row : (r : ℕ) (list : List (List Cell)) (row : List Bool) → IsIn comps c r → slice_get (items_of parts.preconditions r) m ≡ Some list → HasArity p.preds r (length row)
        → precondition p parts m r row ≡ pre.family r row
    pre_row r list row ir e arity =
        spelled_row p r (items_of (items_of parts.preconditions r) m) (pre.family r) row
        (λ d at. item_is (items_of parts.preconditions r) m list e ∙ pre.spelled r d list ir at e) arity

    -- where the head has a row, each reached call has one in turn
    rule_in : (k : Clause) → IsClause p.preds k → IsIn comps c k.head.pred.0
        → KeepsSets truth pre.family (allowed p parts) (grounds_of p parts) (is_member comps c) k
        → KeepsSets truth (precondition p parts m) (allowed p parts) (grounds_of p parts) (λ r. is_together comps r k.head.pred.0) k
    rule_in k is inh h v head j b at reached = go (is_member comps c b.pred.0) refl (h v (both_ways _ _ (printed k.head is.head inh) head) j b at reached)
      where
        listed : (r : ℕ) → IsIn comps c r → (list : List (List Cell)) × (slice_get (items_of parts.preconditions r) m ≡ Some list)
        listed r ir = let same = counted.together c q r inside ir in there (items_of parts.preconditions r) m (omega arith)

        printed : (a : Atom) → IsAtom p.preds k.vars a → IsIn comps c a.pred.0 → precondition p parts m a.pred.0 (truth_row truth v a) ≡ pre.family a.pred.0 (truth_row truth v a)
        printed a ia ir = let l = listed a.pred.0 ir in pre_row a.pred.0 l.0 (truth_row truth v a) ir l.1 (atom_arity p k.vars truth v a ia)

        atom_is : IsAtom p.preds k.vars b
        atom_is = by_place (IsAtom p.preds k.vars) k.body is.body j b at

        together_is : is_together comps b.pred.0 k.head.pred.0 ≡ is_member comps c b.pred.0
        together_is = ap (λ (o : Option ℕ). is_same (slice_get comps.of b.pred.0) o) inh ∙ same_number (slice_get comps.of b.pred.0) c

        go : (t : Bool) → is_member comps c b.pred.0 ≡ t → IsGround truth (if is_member comps c b.pred.0 then pre.family else allowed p parts) v b
            → IsGround truth (if is_together comps b.pred.0 k.head.pred.0 then precondition p parts m else allowed p parts) v b
        go true e g =
            let t : is_together comps b.pred.0 k.head.pred.0 ≡ true = together_is ∙ e in
            let inner : IsTrue (pre.family b.pred.0 (truth_row truth v b)) = subst (λ (x : Bool). IsGround truth (if x then pre.family else allowed p parts) v b) e g in
            subst (λ (x : Bool). IsGround truth (if x then precondition p parts m else allowed p parts) v b) (sym t) (both_ways _ _ (sym (printed b atom_is (of_member c b.pred.0 e))) inner)
        go false e g =
            let t : is_together comps b.pred.0 k.head.pred.0 ≡ false = together_is ∙ e in
            let inner : IsTrue (allowed p parts b.pred.0 (truth_row truth v b)) = subst (λ (x : Bool). IsGround truth (if x then pre.family else allowed p parts) v b) e g in
            subst (λ (x : Bool). IsGround truth (if x then precondition p parts m else allowed p parts) v b) (sym t) inner

  -- a row of a printed precondition: the predicate has the arity, and the list of cubes is there
  pre_there : (m q : ℕ) (row : List Bool) → precondition p parts m q row ≡ true → (list : List (List Cell)) × (slice_get (items_of parts.preconditions q) m ≡ Some list)
  pre_there m q row h = go (slice_get (items_of parts.preconditions q) m) refl (second (is_row (slice_get p.preds q) row) (covered (items_of (items_of parts.preconditions q) m) row) h)
    where
      second : (a b : Bool) → (a && b) ≡ true → b ≡ true
      second true b h = h
      second false b h = cc

      go : (o : Option (List (List Cell))) → slice_get (items_of parts.preconditions q) m ≡ o → covered (unwrap_or o []) row ≡ true → (list : List (List Cell)) × (slice_get (items_of parts.preconditions q) m ≡ Some list)
      go None e k = cc
      go (Some list) e k = (list, e)

  pre_arity : (m q : ℕ) (row : List Bool) → precondition p parts m q row ≡ true → HasArity p.preds q (length row)
  pre_arity m q row h = row_arity (slice_get p.preds q) row (covered (items_of (items_of parts.preconditions q) m) row) h

  pred_there : (q n : ℕ) → HasArity p.preds q n → (d : Pred) × (slice_get p.preds q ≡ Some d)
  pred_there q n h = go (slice_get p.preds q) refl h
    where
      go : (o : Option Pred) → slice_get p.preds q ≡ o → IsSomeAnd o (λ d. d.arity ≡ n) → (d : Pred) × (slice_get p.preds q ≡ Some d)
      go None e k = absurd k
      go (Some d) e k = (d, e)

  covered_in : (m q : ℕ) (row : List Bool) → IsTrue (precondition p parts m q row) → Covers (coefficients_of parts.levels m q) row
  covered_in m q row h =
      let list = pre_there m q row h in
      let arity = pre_arity m q row h in
      let d = pred_there q (length row) arity in
      let c = in_component q d.0 d.1 in
      let few = place_below (items_of parts.preconditions q) m list.0 list.1 in
      let found = pre c.0 q m c.1 few in
      found.greatest.keeps.covered q row (member_is c.0 q c.1) (both_ways _ _ (pre_row c.0 q m c.1 few q list.0 row c.1 list.1 arity) h)

  rule_all : (m i : ℕ) (k : Clause) → slice_get p.clauses i ≡ Some k
      → KeepsSets truth (precondition p parts m) (allowed p parts) (grounds_of p parts) (λ r. is_together comps r k.head.pred.0) k
  rule_all m i k at v head =
      let is = by_place (IsClause p.preds) p.clauses program.clauses i k at in
      let q = k.head.pred.0 in
      let list = pre_there m q (truth_row truth v k.head) head in
      let d = pred_there q (length (truth_row truth v k.head)) (pre_arity m q (truth_row truth v k.head) head) in
      let c = in_component q d.0 d.1 in
      let few = place_below (items_of parts.preconditions q) m list.0 list.1 in
      let found = pre c.0 q m c.1 few in
      rule_in c.0 q m c.1 few k is c.1
      (by_place (λ (k : Clause). is_member comps c.0 k.head.pred.0 ≡ true → KeepsSets truth found.family (allowed p parts) (grounds_of p parts) (is_member comps c.0) k) p.clauses found.greatest.keeps.rule i k at (member_is c.0 q c.1))
      v head

  rule : (m : ℕ) → AllByRecursion (λ (k : Clause). KeepsSets truth (precondition p parts m) (allowed p parts) (grounds_of p parts) (λ q. is_together comps q k.head.pred.0) k) p.clauses
  rule m = from_places (λ (k : Clause). KeepsSets truth (precondition p parts m) (allowed p parts) (grounds_of p parts) (λ q. is_together comps q k.head.pred.0) k) p.clauses (rule_all m)

  -- ---- modes
  mode_ascends : (last hi : ℕ) (xs : List ℕ) → IsSet (suc last) hi xs → Ascend last xs
  mode_ascends last hi [] h = tt
  mode_ascends last hi (x ∷ xs) h = (h.0, mode_ascends x hi xs h.2)

  mode_below : (lo n : ℕ) (xs : List ℕ) → IsSet lo (suc n) xs → AllByRecursion (λ a. a ≤ n) xs
  mode_below lo n [] h = tt
  mode_below lo n (x ∷ xs) h = let l = h.1 in (omega arith, mode_below (suc x) n xs h.2)

  mode_in : (n : ℕ) (set : List Bool → Bool) (mode : List ℕ) → In mode (modes n set) → IsMode n mode × (set (mode_row mode 1 n) ≡ true)
  mode_in n set mode h =
      let all = filter (λ args. set (mode_row args 1 n)) (chosen_up_to n n) in
      let one = of-filter (λ args. not (list_any (λ less. nat_lt (length less) (length args) && is_part less args) all)) all mode h in
      let two = of-filter (λ args. set (mode_row args 1 n)) (chosen_up_to n n) mode one.0 in
      let is = up_to_set n n mode two.0 in
      ((mode_ascends 0 (suc n) mode is, mode_below 1 n mode is), two.1)

  modes_at : (q : ℕ) (d : Pred) → slice_get p.preds q ≡ Some d → AllByRecursion (λ mode. IsMode (arity_in p q) mode × IsTrue (allowed p parts q (mode_row mode 1 (arity_in p q)))) (items_of parts.modes q)
  modes_at q d at =
      subst (λ (list : List (List ℕ)). AllByRecursion (λ mode. IsMode (arity_in p q) mode × IsTrue (allowed p parts q (mode_row mode 1 (arity_in p q)))) list)
      (ap (λ (n : ℕ). modes n (allowed p parts q)) (arity_is p q d at) ∙ sym (exact.minimal q d at))
      (each_in (λ mode. IsMode (arity_in p q) mode × IsTrue (allowed p parts q (mode_row mode 1 (arity_in p q)))) (modes (arity_in p q) (allowed p parts q)) (mode_in (arity_in p q) (allowed p parts q)))

  firsts : {X : Type 0} (P Q : X → Type 0) (xs : List X) → AllByRecursion (λ x. P x × Q x) xs → AllByRecursion P xs
  firsts P Q [] h = tt
  firsts P Q (x ∷ xs) h = (h.0.0, firsts P Q xs h.1)

  seconds : {X : Type 0} (P Q : X → Type 0) (xs : List X) → AllByRecursion (λ x. P x × Q x) xs → AllByRecursion Q xs
  seconds P Q [] h = tt
  seconds P Q (x ∷ xs) h = (h.0.1, seconds P Q xs h.1)

  modes_hold : (q : ℕ) → AllByRecursion (λ mode. IsTrue (allowed p parts q (mode_row mode 1 (arity_in p q)))) (items_of parts.modes q)
  modes_hold q = go (slice_get parts.modes q) refl
    where
      go : (o : Option (List (List ℕ))) → slice_get parts.modes q ≡ o → AllByRecursion (λ mode. IsTrue (allowed p parts q (mode_row mode 1 (arity_in p q)))) (unwrap_or o [])
      go None e = tt
      go (Some list) e =
          let l = place_below parts.modes q list e in
          let n = counted.modes in
          let d = there p.preds q (omega arith) in
          subst (λ (x : List (List ℕ)). AllByRecursion (λ mode. IsTrue (allowed p parts q (mode_row mode 1 (arity_in p q)))) x) (item_is parts.modes q list e)
          (seconds (IsMode (arity_in p q)) (λ mode. IsTrue (allowed p parts q (mode_row mode 1 (arity_in p q)))) (items_of parts.modes q) (modes_at q d.0 d.1))

  shape_modes : AreEach (length p.preds) (λ a. AllByRecursion (IsMode (arity_in p a))) parts.modes
  shape_modes = record {
    count = counted.modes;
    each = each_from (λ a. AllByRecursion (IsMode (arity_in p a))) 0 parts.modes (λ q list e.
        let l = place_below parts.modes q list e in
        let n = counted.modes in
        let d = there p.preds q (omega arith) in
        let zero_more : q ≡ 0 + q = omega arith in
        subst (λ (a : ℕ). AllByRecursion (IsMode (arity_in p a)) list) zero_more
        (subst (λ (x : List (List ℕ)). AllByRecursion (IsMode (arity_in p q)) x) (item_is parts.modes q list e)
        (firsts (IsMode (arity_in p q)) (λ mode. IsTrue (allowed p parts q (mode_row mode 1 (arity_in p q)))) (items_of parts.modes q) (modes_at q d.0 d.1))));
  }

  spelled_width : (q : ℕ) (d : Pred) (set : List Bool → Bool) (list : List (List Cell)) → slice_get p.preds q ≡ Some d → list ≡ cubes d.arity set → AllByRecursion (HasWidth (arity_in p q)) list
  spelled_width q d set list at e =
      subst (λ (cs : List (List Cell)). AllByRecursion (HasWidth (arity_in p q)) cs) (sym e) (subst (λ (n : ℕ). AllByRecursion (HasWidth n) (cubes d.arity set)) (sym (arity_is p q d at)) (cubes_width d.arity set))

  shape_grounds : AreEach (length p.preds) (λ a. AllByRecursion (HasWidth (arity_in p a))) parts.grounds
  shape_grounds = record {
    count = counted.grounds;
    each = each_from (λ a. AllByRecursion (HasWidth (arity_in p a))) 0 parts.grounds (λ q list e.
        let l = place_below parts.grounds q list e in
        let n = counted.grounds in
        let d = there p.preds q (omega arith) in
        let zero_more : q ≡ 0 + q = omega arith in
        subst (λ (a : ℕ). AllByRecursion (HasWidth (arity_in p a)) list) zero_more
        (spelled_width q d.0 (exact.grounds.family q) list d.1 (sym (item_is parts.grounds q list e) ∙ exact.grounds.spelled q d.0 d.1)));
  }

  shape_pre : (q : ℕ) (lists : List (List (List Cell))) → slice_get parts.preconditions q ≡ Some lists → AreEach (length (items_of parts.levels q)) (λ _. AllByRecursion (HasWidth (arity_in p q))) lists
  shape_pre q lists e = record {
    count = ap length (sym (item_is parts.preconditions q lists e)) ∙ counted.mappings q;
    each = each_from (λ _. AllByRecursion (HasWidth (arity_in p q))) 0 lists (λ m list at.
        let l = place_below parts.preconditions q lists e in
        let n = counted.preconditions in
        let d = there p.preds q (omega arith) in
        let c = in_component q d.0 d.1 in
        let inner : slice_get (items_of parts.preconditions q) m ≡ Some list = ap (λ (x : List (List (List Cell))). slice_get x m) (item_is parts.preconditions q lists e) ∙ at in
        let few = place_below (items_of parts.preconditions q) m list inner in
        spelled_width q d.0 ((pre c.0 q m c.1 few).family q) list d.1 ((pre c.0 q m c.1 few).spelled q d.0 list c.1 d.1 inner));
  }

  shape_pres : AreEach (length p.preds) (λ a. AreEach (length (items_of parts.levels a)) (λ _. AllByRecursion (HasWidth (arity_in p a)))) parts.preconditions
  shape_pres = record {
    count = counted.preconditions;
    each = each_from (λ a. AreEach (length (items_of parts.levels a)) (λ _. AllByRecursion (HasWidth (arity_in p a)))) 0 parts.preconditions (λ q lists e.
        let zero_more : q ≡ 0 + q = omega arith in
        subst (λ (a : ℕ). AreEach (length (items_of parts.levels a)) (λ _. AllByRecursion (HasWidth (arity_in p a))) lists) zero_more (shape_pre q lists e));
  }

  all : HoldWithShape truth p comps parts
  all = record {
    hold = record { closed = closed; covered = covered_in; rule = rule; modes = modes_hold };
    modes = shape_modes;
    grounds = shape_grounds;
    preconditions = shape_pres;
  }

pub exact_modes_hold : ExactModesHold
exact_modes_hold truth p comps parts program components counted exact = all truth p program comps components parts counted exact
