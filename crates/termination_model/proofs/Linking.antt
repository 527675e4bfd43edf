-- Claims that link show for the clauses of both programs.
use Rattle.std.proofs.Common.{◌≡◌, ℕ, zero, suc, ◌+◌, ◌-◌, ◌<◌, ◌≤◌, ℤ, nat_lt, Bool, true, false, if◌then◌else◌, List, [], ◌∷◌, ◌++◌, map, take, length, slice_get, Some, inl, inr, refl, ap, sym, subst, ◌∙◌, arith}
use Rattle.std.proofs.lemmas.Bool.Decides.{nat_tests}
use Rattle.std.proofs.lemmas.List.{length-map}
use Rattle.std.specs.List.{AllByRecursion}
use Rattle.cti_terms.specs.declared.atom_list.Atom.{Atom}
use Rattle.cti_terms.specs.declared.clauses.Clause.{Clause}
use Rattle.cti_terms.specs.Listing.{Listing, IsAtom, IsClause, IsProgram}
use Rattle.linear_rows.specs.Rows.{Holds}
use Rattle.termination_model.specs.sizes.Rows.{IsUpper, Covers}
use Rattle.termination_model.specs.sizes.Stated.{AreStated}
use Rattle.termination_model.specs.sizes.Systems.{row_over, system}
use Rattle.termination_model.specs.grounds.Grounds.{HasArity, truth_row, IsGround, IsClosedUnder}
use Rattle.termination_model.specs.claims.Claims.{SomeOf, Mapping, Measure, Claims, IsSized, IsInductive, IsRanked, FallsOn, Descends, Admits, KeepsRule, Serves, Shows}
use Rattle.termination_model.specs.claims.StatedFacts.{Stated, IsAllowed, Takes}
use Rattle.termination_model.specs.claims.Linking.{joined, linked, linked_facts, IsUpperClause, IsLowerClause, Links, ClaimsLink, FactsLink, AdmitsLink, LinkedRowsEnd, LinkedQueriesEnd, FactsExtend}
use Rattle.cti_terms.specs.Derive.{query}
use Rattle.cti_terms.specs.Worlds.{World, BoundedIn}
use Rattle.cti_terms.proofs.WorldLaws.{same_bounded}
use Rattle.termination_model.specs.claims.Descent.{mode_row}
use Rattle.termination_model.proofs.WorldQuery.{rows_end_in}
use Rattle.termination_model.proofs.Walk.{all_at, all_both, picked, some_each}
use Rattle.termination_model.proofs.Levels.{upper_trans}
use Rattle.termination_model.proofs.Order.{less_or_same}
use Rattle.termination_model.proofs.Facts.{all_take, each}

pub each_two : {X : Type 0} (P Q R : X → Type 0) → ((x : X) → P x → Q x → R x) → (xs : List X) → AllByRecursion P xs → AllByRecursion Q xs → AllByRecursion R xs
each_two P Q R f [] h k = tt
each_two P Q R f (x ∷ xs) h k = (f x h.0 k.0, each_two P Q R f xs h.1 k.1)

all_joined : {X : Type 0} (P : X → Type 0) (xs ys : List X) → AllByRecursion P xs → AllByRecursion P ys → AllByRecursion P (xs ++ ys)
all_joined P [] ys h k = k
all_joined P (x ∷ xs) ys h k = (h.0, all_joined P xs ys h.1 k)

upper_itself : (bs : List Bool) → IsUpper bs bs
upper_itself [] = tt
upper_itself (b ∷ bs) = (λ e. e, upper_itself bs)

not_both : (b : Bool) → b ≡ true → b ≡ false → ⊥
not_both b t f = let e = sym t ∙ f in cc

-- d with the norm of c
abbrev pub normed : Claims → Claims → Claims
normed c d = record { size = c.size; truth = c.truth; rank = d.rank; expression = c.expression; rows = d.rows; grounds = d.grounds; measures = d.measures }

module _ (is_lower : ℕ → Bool) (p q : Listing) (c d0 : Claims) (top : ℕ) (links : Links is_lower p q c d0 top) where
  abbrev d : Claims
  d = normed c d0

  abbrev l : Claims
  l = linked is_lower top c d0

  rank_low : (i : ℕ) → is_lower i ≡ true → l.rank i ≡ c.rank i
  rank_low i e = ap (λ (b : Bool). if b then c.rank i else top + d.rank i) e

  rank_up : (i : ℕ) → is_lower i ≡ false → l.rank i ≡ top + d.rank i
  rank_up i e = ap (λ (b : Bool). if b then c.rank i else top + d.rank i) e

  by_side : (i : ℕ) (P : Type 0) → (is_lower i ≡ true → P) → (is_lower i ≡ false → P) → P
  by_side i P t f = go (is_lower i) refl
    where
      go : (b : Bool) → is_lower i ≡ b → P
      go true e = t e
      go false e = f e

  rows_low : (i : ℕ) → is_lower i ≡ true → l.rows i ≡ c.rows i
  rows_low i e = ap (λ (b : Bool). if b then c.rows i else d.rows i) e

  rows_up : (i : ℕ) → l.rows i ≡ d.rows i
  rows_up i = by_side i (l.rows i ≡ d.rows i) (λ e. rows_low i e ∙ sym (links.extends.rows i e)) (λ e. ap (λ (b : Bool). if b then c.rows i else d.rows i) e)

  grounds_low : (i : ℕ) → is_lower i ≡ true → l.grounds i ≡ c.grounds i
  grounds_low i e = ap (λ (b : Bool). if b then c.grounds i else d.grounds i) e

  grounds_up : (i : ℕ) → l.grounds i ≡ d.grounds i
  grounds_up i = by_side i (l.grounds i ≡ d.grounds i) (λ e. grounds_low i e ∙ sym (links.extends.grounds i e)) (λ e. ap (λ (b : Bool). if b then c.grounds i else d.grounds i) e)

  abbrev IsLow : Atom → Type 0
  IsLow b = is_lower b.pred.0 ≡ true

  -- ---- size rows and ground rows

  sized_as : (x y : List (List ℤ)) → x ≡ y → (s : ℕ → ℕ) (a : Atom) → AllByRecursion (λ (r : List ℤ). Holds r 1 (map (c.size s) a.args)) x → AllByRecursion (λ (r : List ℤ). Holds r 1 (map (c.size s) a.args)) y
  sized_as x y e s a h = subst (λ (rows : List (List ℤ)). AllByRecursion (λ (r : List ℤ). Holds r 1 (map (c.size s) a.args)) rows) e h

  inductive_up : (k : Clause) → IsInductive d k → IsInductive l k
  inductive_up k h s all = sized_as (d.rows k.head.pred.0) (l.rows k.head.pred.0) (sym (rows_up k.head.pred.0)) s k.head
      (h s (each (IsSized l s) (IsSized d s) (λ b. sized_as (l.rows b.pred.0) (d.rows b.pred.0) (rows_up b.pred.0) s b) k.body all))

  inductive_low : (k : Clause) → IsLowerClause is_lower k → IsInductive c k → IsInductive l k
  inductive_low k lower h s all = sized_as (c.rows k.head.pred.0) (l.rows k.head.pred.0) (sym (rows_low k.head.pred.0 lower.0)) s k.head
      (h s (each_two IsLow (IsSized l s) (IsSized c s) (λ b e. sized_as (l.rows b.pred.0) (c.rows b.pred.0) (rows_low b.pred.0 e) s b) k.body lower.1 all))

  ground_as : (x y : List Bool → Bool) → x ≡ y → (us : List Bool) → x us ≡ true → y us ≡ true
  ground_as x y e us h = subst (λ (set : List Bool → Bool). set us ≡ true) e h

  grounds_of_low : (v : ℕ → Bool) (bs : List Atom) → AllByRecursion IsLow bs → AllByRecursion (IsGround c.truth l.grounds v) bs → AllByRecursion (IsGround c.truth c.grounds v) bs
  grounds_of_low v bs = each_two IsLow (IsGround c.truth l.grounds v) (IsGround c.truth c.grounds v) (λ b e. ground_as (l.grounds b.pred.0) (c.grounds b.pred.0) (grounds_low b.pred.0 e) (truth_row c.truth v b)) bs

  grounds_of_up : (v : ℕ → Bool) (bs : List Atom) → AllByRecursion (IsGround c.truth l.grounds v) bs → AllByRecursion (IsGround c.truth d.grounds v) bs
  grounds_of_up v bs = each (IsGround c.truth l.grounds v) (IsGround c.truth d.grounds v) (λ b. ground_as (l.grounds b.pred.0) (d.grounds b.pred.0) (grounds_up b.pred.0) (truth_row c.truth v b)) bs

  closed_up : (k : Clause) → IsClosedUnder c.truth d.grounds k → IsClosedUnder c.truth l.grounds k
  closed_up k h v all = ground_as (d.grounds k.head.pred.0) (l.grounds k.head.pred.0) (sym (grounds_up k.head.pred.0)) (truth_row c.truth v k.head) (h v (grounds_of_up v k.body all))

  closed_low : (k : Clause) → IsLowerClause is_lower k → IsClosedUnder c.truth c.grounds k → IsClosedUnder c.truth l.grounds k
  closed_low k lower h v all = ground_as (c.grounds k.head.pred.0) (l.grounds k.head.pred.0) (sym (grounds_low k.head.pred.0 lower.0)) (truth_row c.truth v k.head) (h v (grounds_of_low v k.body lower.1 all))

  -- ---- ranks

  ranked_up : (k : Clause) → IsUpperClause is_lower k → IsRanked d k → IsRanked l k
  ranked_up k u = each (λ (b : Atom). d.rank b.pred.0 ≤ d.rank k.head.pred.0) (λ (b : Atom). l.rank b.pred.0 ≤ l.rank k.head.pred.0)
      (λ b le. by_side b.pred.0 (l.rank b.pred.0 ≤ l.rank k.head.pred.0)
      (λ e. omega (arith, rank_low b.pred.0 e, links.ranks b.pred.0 e, rank_up k.head.pred.0 u))
      (λ e. omega (arith, le, rank_up b.pred.0 e, rank_up k.head.pred.0 u))) k.body

  ranked_low : (k : Clause) → IsLowerClause is_lower k → IsRanked c k → IsRanked l k
  ranked_low k lower = each_two IsLow (λ (b : Atom). c.rank b.pred.0 ≤ c.rank k.head.pred.0) (λ (b : Atom). l.rank b.pred.0 ≤ l.rank k.head.pred.0)
      (λ b e le. omega (arith, le, rank_low b.pred.0 e, rank_low k.head.pred.0 lower.0)) k.body lower.1

  -- ---- falls

  falls_low : (k : Clause) (rows : List (List ℤ)) (b : Atom) (i : ℕ) (ms : List Mapping) → FallsOn c k rows b i ms → FallsOn l k rows b i ms
  falls_low k rows b i [] h = h
  falls_low k rows b zero (m ∷ ms) h = h
  falls_low k rows b (suc i) (m ∷ ms) h = (h.0, falls_low k rows b i ms h.1)

  falls_up : (k : Clause) (rows : List (List ℤ)) (b : Atom) (i : ℕ) (ms : List Mapping) → FallsOn d k rows b i ms → FallsOn l k rows b i ms
  falls_up k rows b i [] h = h
  falls_up k rows b zero (m ∷ ms) h = h
  falls_up k rows b (suc i) (m ∷ ms) h = (h.0, falls_up k rows b i ms h.1)

  system_low : (n : ℕ) (bs : List Atom) → AllByRecursion IsLow bs → system c.expression c.rows n bs ≡ system c.expression l.rows n bs
  system_low n [] h = refl
  system_low n (b ∷ bs) h =
      let here = sym (rows_low b.pred.0 h.0) in
      let rest = system_low n bs h.1 in
      λ i. map (row_over c.expression n b.args) (here i) ++ rest i

  system_up : (n : ℕ) (bs : List Atom) → system c.expression d.rows n bs ≡ system c.expression l.rows n bs
  system_up n bs = λ i. system c.expression (λ x. sym (rows_up x) i) n bs

  descends_low : (m : Measure) (k : Clause) → IsLowerClause is_lower k → Descends c m k → Descends l m k
  descends_low m k lower h j b e same =
      let low_b : is_lower b.pred.0 ≡ true = all_at IsLow k.body j b lower.1 e in
      let falls = h j b e (omega (arith, same, rank_low b.pred.0 low_b, rank_low k.head.pred.0 lower.0)) in (
        falls.0,
        falls_low k (system c.expression l.rows k.vars (take j k.body)) b falls.0 m.mappings
            (subst (λ (rows : List (List ℤ)). FallsOn c k rows b falls.0 m.mappings) (system_low k.vars (take j k.body) (all_take IsLow k.body j lower.1)) falls.1),
      )

  -- a call in the component of an upper head is not a lower one
  same_up : (i j : ℕ) → is_lower j ≡ false → l.rank i ≡ l.rank j → (is_lower i ≡ false) × (d.rank i ≡ d.rank j)
  same_up i j u same = by_side i ((is_lower i ≡ false) × (d.rank i ≡ d.rank j))
      (λ e. absurd (omega (arith, same, rank_low i e, links.ranks i e, rank_up j u)))
      (λ e. (e, omega (arith, same, rank_up i e, rank_up j u)))

  descends_up : (m : Measure) (k : Clause) → IsUpperClause is_lower k → Descends d m k → Descends l m k
  descends_up m k u h j b e same =
      let falls = h j b e (same_up b.pred.0 k.head.pred.0 u same).1 in (
        falls.0,
        falls_up k (system c.expression l.rows k.vars (take j k.body)) b falls.0 m.mappings
            (subst (λ (rows : List (List ℤ)). FallsOn d k rows b falls.0 m.mappings) (system_up k.vars (take j k.body)) falls.1),
      )

  -- ---- measures

  measures_low : (r : ℕ) → r < top → l.measures r ≡ c.measures r
  measures_low r h =
      let e : nat_lt r top ≡ true = grind (arith, nat_tests) in
      ap (λ (b : Bool). if b then c.measures r else d.measures (r - top)) e

  measures_up : (r : ℕ) → l.measures (top + r) ≡ d.measures r
  measures_up r =
      let e : nat_lt (top + r) top ≡ false = grind (arith, nat_tests) in
      let less : (top + r) - top ≡ r = omega arith in
      ap (λ (b : Bool). if b then c.measures (top + r) else d.measures ((top + r) - top)) e ∙ ap d.measures less

  abbrev AdmitsBy : ℕ → List Bool → Measure → Type 0
  AdmitsBy i bs m = (us : List Bool) → IsUpper us bs → m.pre i us ≡ true

  pub admits_low : (i : ℕ) (bs : List Bool) → is_lower i ≡ true → Admits c i bs → Admits l i bs
  admits_low i bs e h = subst (SomeOf (AdmitsBy i bs)) (sym (ap l.measures (rank_low i e) ∙ measures_low (c.rank i) (links.ranks i e))) h

  pub admits_up : (i : ℕ) (bs : List Bool) → is_lower i ≡ false → Admits d i bs → Admits l i bs
  admits_up i bs e h = subst (SomeOf (AdmitsBy i bs)) (sym (ap l.measures (rank_up i e) ∙ measures_up (d.rank i))) h

  -- what d's measures let through of lower predicates, c admits
  abbrev Lets : ℕ → Measure → Type 0
  Lets r m = (i : ℕ) (bs : List Bool) → d.rank i ≡ r → is_lower i ≡ true → HasArity p.preds i (length bs) → m.pre i bs ≡ true → Admits c i bs

  -- ---- the rule

  rule_low : (m : Measure) (k : Clause) → IsLowerClause is_lower k → KeepsRule c m k → KeepsRule l m k
  rule_low m k lower h v head j b e all =
      let low_b : is_lower b.pred.0 ≡ true = all_at IsLow k.body j b lower.1 e in
      let got = h v head j b e (grounds_of_low v (take j k.body) (all_take IsLow k.body j lower.1) all) in (
        λ same. got.0 (omega (arith, same, rank_low b.pred.0 low_b, rank_low k.head.pred.0 lower.0)),
        λ less. admits_low b.pred.0 (truth_row c.truth v b) low_b (got.1 (omega (arith, less, rank_low b.pred.0 low_b, rank_low k.head.pred.0 lower.0))),
      )

  row_arity : (k : Clause) → IsClause p.preds k → (v : ℕ → Bool) (j : ℕ) (b : Atom) → slice_get k.body j ≡ Some b → HasArity p.preds b.pred.0 (length (truth_row c.truth v b))
  row_arity k is v j b e = subst (HasArity p.preds b.pred.0) (sym (length-map b.args (c.truth v))) (all_at (IsAtom p.preds k.vars) k.body j b is.body e).arity

  rule_up : (r : ℕ) (m : Measure) → Lets r m → (k : Clause) → d.rank k.head.pred.0 ≡ r → IsUpperClause is_lower k → IsClause p.preds k → IsRanked d k → KeepsRule d m k → KeepsRule l m k
  rule_up r m lets k head_rank u is ranked h v head j b e all = (λ same. got.0 (same_up b.pred.0 k.head.pred.0 u same).1, below)
    where
      got : (d.rank b.pred.0 ≡ d.rank k.head.pred.0 → m.pre b.pred.0 (truth_row c.truth v b) ≡ true) × (d.rank b.pred.0 < d.rank k.head.pred.0 → Admits d b.pred.0 (truth_row c.truth v b))
      got = h v head j b e (grounds_of_up v (take j k.body) all)

      arity : HasArity p.preds b.pred.0 (length (truth_row c.truth v b))
      arity = row_arity k is v j b e

      admitted : is_lower b.pred.0 ≡ true → Admits c b.pred.0 (truth_row c.truth v b)
      admitted low_b = elim (less_or_same (d.rank b.pred.0) (d.rank k.head.pred.0) (all_at (λ (x : Atom). d.rank x.pred.0 ≤ d.rank k.head.pred.0) k.body j b ranked e)) [
        | inl less ↦ by_measure (picked (Lets (d.rank b.pred.0)) (AdmitsBy b.pred.0 (truth_row c.truth v b)) (d.measures (d.rank b.pred.0)) (links.extends.admits (d.rank b.pred.0)) (got.1 less))
        | inr same ↦ lets b.pred.0 (truth_row c.truth v b) (same ∙ head_rank) low_b arity (got.0 same)
      ]
        where
          by_measure : (n : Measure) × Lets (d.rank b.pred.0) n × AdmitsBy b.pred.0 (truth_row c.truth v b) n → Admits c b.pred.0 (truth_row c.truth v b)
          by_measure (n, has, admits) = has b.pred.0 (truth_row c.truth v b) refl low_b arity (admits (truth_row c.truth v b) (upper_itself (truth_row c.truth v b)))

      below : l.rank b.pred.0 < l.rank k.head.pred.0 → Admits l b.pred.0 (truth_row c.truth v b)
      below less = by_side b.pred.0 (Admits l b.pred.0 (truth_row c.truth v b))
          (λ e. admits_low b.pred.0 (truth_row c.truth v b) e (admitted e))
          (λ e. admits_up b.pred.0 (truth_row c.truth v b) e (got.1 (omega (arith, less, rank_up b.pred.0 e, rank_up k.head.pred.0 u))))

  -- a rank is below top, or so much above it
  by_rank : (r : ℕ) (P : ℕ → Type 0) → ((x : ℕ) → x < top → P x) → ((x : ℕ) → P (top + x)) → P r
  by_rank r P f g = go (nat_lt r top) refl
    where
      go : (b : Bool) → nat_lt r top ≡ b → P r
      go true e = f r (grind (arith, nat_tests))
      go false e = let le : top ≤ r = grind (arith, nat_tests) in let same : top + (r - top) ≡ r = omega arith in subst P same (g (r - top))

  -- ---- what stays open

  module _ (f g : Stated) (takes_c : Takes c f) (takes_d : Takes d0 g) where
    abbrev h : Stated
    h = linked_facts is_lower f g

    open_low : (i : ℕ) → is_lower i ≡ true → h.is_open i ≡ true → f.is_open i ≡ true
    open_low i e o = subst (λ (b : Bool). (if b then f.is_open i else g.is_open i) ≡ true) e o

    open_up : (i : ℕ) → is_lower i ≡ false → h.is_open i ≡ true → g.is_open i ≡ true
    open_up i e o = subst (λ (b : Bool). (if b then f.is_open i else g.is_open i) ≡ true) e o

    allowed_low : (i : ℕ) (bs : List Bool) → is_lower i ≡ true → IsAllowed f i bs → IsAllowed h i bs
    allowed_low i bs e s = subst (SomeOf (λ (mode : List ℕ). IsUpper bs (mode_row mode 1 (length bs)))) (sym (ap (λ (b : Bool). if b then f.modes i else g.modes i) e)) s

    allowed_up : (i : ℕ) (bs : List Bool) → is_lower i ≡ false → IsAllowed g i bs → IsAllowed h i bs
    allowed_up i bs e s = subst (SomeOf (λ (mode : List ℕ). IsUpper bs (mode_row mode 1 (length bs)))) (sym (ap (λ (b : Bool). if b then f.modes i else g.modes i) e)) s

    abbrev LetsOf : Claims → Stated → ℕ → Measure → Type 0
    LetsOf x y r m = (i : ℕ) (bs : List Bool) → x.rank i ≡ r → y.is_open i ≡ true → m.pre i bs ≡ true → IsAllowed y i bs

    pub links_take : Takes l h
    links_take = record {
      rows = λ i o. by_side i (l.rows i ≡ h.rows i)
          (λ e. rows_low i e ∙ takes_c.rows i (open_low i e o) ∙ sym (ap (λ (b : Bool). if b then f.rows i else g.rows i) e))
          (λ e. rows_up i ∙ takes_d.rows i (open_up i e o) ∙ sym (ap (λ (b : Bool). if b then f.rows i else g.rows i) e));
      grounds = λ i o. by_side i (l.grounds i ≡ h.grounds i)
          (λ e. grounds_low i e ∙ takes_c.grounds i (open_low i e o) ∙ sym (ap (λ (b : Bool). if b then f.grounds i else g.grounds i) e))
          (λ e. grounds_up i ∙ takes_d.grounds i (open_up i e o) ∙ sym (ap (λ (b : Bool). if b then f.grounds i else g.grounds i) e));
      modes = λ r. by_rank r (λ x. AllByRecursion (LetsOf l h x) (l.measures x))
          (λ x lt. subst (AllByRecursion (LetsOf l h x)) (sym (measures_low x lt)) (each (LetsOf c f x) (LetsOf l h x)
          (λ m lets i bs same o pre. by_side i (IsAllowed h i bs)
          (λ e. allowed_low i bs e (lets i bs (sym (rank_low i e) ∙ same) (open_low i e o) pre))
          (λ e. absurd (omega (arith, lt, same, rank_up i e)))) (c.measures x) (takes_c.modes x)))
          (λ x. subst (AllByRecursion (LetsOf l h (top + x))) (sym (measures_up x)) (each (LetsOf d0 g x) (LetsOf l h (top + x))
          (λ m lets i bs same o pre. by_side i (IsAllowed h i bs)
          (λ e. absurd (omega (arith, same, rank_low i e, links.ranks i e)))
          (λ e. let at : d0.rank i ≡ x = omega (arith, same, rank_up i e) in allowed_up i bs e (lets i bs at (open_up i e o) pre))) (d0.measures x) (takes_d.modes x)));
    }

  pub links_admit : (i : ℕ) (bs : List Bool) → Admits (if is_lower i then c else d0) i bs → Admits l i bs
  links_admit i bs s = by_side i (Admits l i bs)
      (λ e. admits_low i bs e (subst (λ (b : Bool). Admits (if b then c else d0) i bs) e s))
      (λ e. admits_up i bs e (subst (λ (b : Bool). Admits (if b then c else d0) i bs) e s))

  module _ (prog : IsProgram p) (low : Shows q c) (up : Shows p d) where
    -- ---- what is asked of measures

    serves_low : (r : ℕ) → r < top → (m : Measure) → Serves q c r m → Serves (joined p q) l r m
    serves_low r lt m s = record {
      covered = λ i bs e pre. by_side i (AllByRecursion (λ (x : Mapping). Covers (x.coefficients i) bs) m.mappings)
          (λ low_i. s.covered i bs (sym (rank_low i low_i) ∙ e) pre)
          (λ up_i. absurd (omega (arith, lt, e, rank_up i up_i)));
      descends = all_joined (λ (k : Clause). l.rank k.head.pred.0 ≡ r → Descends l m k) p.clauses q.clauses
          (each (IsUpperClause is_lower) (λ (k : Clause). l.rank k.head.pred.0 ≡ r → Descends l m k) (λ k u e. absurd (omega (arith, lt, e, rank_up k.head.pred.0 u))) p.clauses links.upper)
          (each_two (IsLowerClause is_lower) (λ (k : Clause). c.rank k.head.pred.0 ≡ r → Descends c m k) (λ (k : Clause). l.rank k.head.pred.0 ≡ r → Descends l m k)
          (λ k lower h e. descends_low m k lower (h (sym (rank_low k.head.pred.0 lower.0) ∙ e))) q.clauses links.lower s.descends);
      rule = all_joined (λ (k : Clause). l.rank k.head.pred.0 ≡ r → KeepsRule l m k) p.clauses q.clauses
          (each (IsUpperClause is_lower) (λ (k : Clause). l.rank k.head.pred.0 ≡ r → KeepsRule l m k) (λ k u e. absurd (omega (arith, lt, e, rank_up k.head.pred.0 u))) p.clauses links.upper)
          (each_two (IsLowerClause is_lower) (λ (k : Clause). c.rank k.head.pred.0 ≡ r → KeepsRule c m k) (λ (k : Clause). l.rank k.head.pred.0 ≡ r → KeepsRule l m k)
          (λ k lower h e. rule_low m k lower (h (sym (rank_low k.head.pred.0 lower.0) ∙ e))) q.clauses links.lower s.rule);
    }

    abbrev IsUpperOf : Clause → Type 0
    IsUpperOf k = IsUpperClause is_lower k × (IsClause p.preds k × IsRanked d k)

    uppers : AllByRecursion IsUpperOf p.clauses
    uppers = all_both (IsUpperClause is_lower) (λ (k : Clause). IsClause p.preds k × IsRanked d k) p.clauses links.upper (all_both (IsClause p.preds) (IsRanked d) p.clauses prog.clauses up.ranked)

    serves_up : (r : ℕ) (m : Measure) → Serves p d r m → Lets r m → Serves (joined p q) l (top + r) m
    serves_up r m s lets = record {
      covered = λ i bs e pre. by_side i (AllByRecursion (λ (x : Mapping). Covers (x.coefficients i) bs) m.mappings)
          (λ low_i. absurd (omega (arith, e, rank_low i low_i, links.ranks i low_i)))
          (λ up_i. s.covered i bs (omega (arith, e, rank_up i up_i)) pre);
      descends = all_joined (λ (k : Clause). l.rank k.head.pred.0 ≡ top + r → Descends l m k) p.clauses q.clauses
          (each_two (IsUpperClause is_lower) (λ (k : Clause). d.rank k.head.pred.0 ≡ r → Descends d m k) (λ (k : Clause). l.rank k.head.pred.0 ≡ top + r → Descends l m k)
          (λ k u h e. descends_up m k u (h (omega (arith, e, rank_up k.head.pred.0 u)))) p.clauses links.upper s.descends)
          (each (IsLowerClause is_lower) (λ (k : Clause). l.rank k.head.pred.0 ≡ top + r → Descends l m k) (λ k lower e. absurd (omega (arith, e, rank_low k.head.pred.0 lower.0, links.ranks k.head.pred.0 lower.0))) q.clauses links.lower);
      rule = all_joined (λ (k : Clause). l.rank k.head.pred.0 ≡ top + r → KeepsRule l m k) p.clauses q.clauses
          (each_two IsUpperOf (λ (k : Clause). d.rank k.head.pred.0 ≡ r → KeepsRule d m k) (λ (k : Clause). l.rank k.head.pred.0 ≡ top + r → KeepsRule l m k)
          (λ k u h e. let same : d.rank k.head.pred.0 ≡ r = omega (arith, e, rank_up k.head.pred.0 u.0) in rule_up r m lets k same u.0 u.1.0 u.1.1 (h same)) p.clauses uppers s.rule)
          (each (IsLowerClause is_lower) (λ (k : Clause). l.rank k.head.pred.0 ≡ top + r → KeepsRule l m k) (λ k lower e. absurd (omega (arith, e, rank_low k.head.pred.0 lower.0, links.ranks k.head.pred.0 lower.0))) q.clauses links.lower);
    }

    all_serve : (r : ℕ) → AllByRecursion (Serves (joined p q) l r) (l.measures r)
    all_serve r = by_rank r (λ x. AllByRecursion (Serves (joined p q) l x) (l.measures x))
        (λ x lt. subst (AllByRecursion (Serves (joined p q) l x)) (sym (measures_low x lt)) (each (Serves q c x) (Serves (joined p q) l x) (serves_low x lt) (c.measures x) (low.measures x)))
        (λ x. subst (AllByRecursion (Serves (joined p q) l (top + x))) (sym (measures_up x)) (each_two (Serves p d x) (Lets x) (Serves (joined p q) l (top + x)) (serves_up x) (d.measures x) (up.measures x) (links.extends.admits x)))

    pub links_show : Shows (joined p q) l
    links_show = record {
      norm = low.norm;
      ranked = all_joined (IsRanked l) p.clauses q.clauses (each_two (IsUpperClause is_lower) (IsRanked d) (IsRanked l) ranked_up p.clauses links.upper up.ranked) (each_two (IsLowerClause is_lower) (IsRanked c) (IsRanked l) ranked_low q.clauses links.lower low.ranked);
      inductive = all_joined (IsInductive l) p.clauses q.clauses (each (IsInductive d) (IsInductive l) inductive_up p.clauses up.inductive) (each_two (IsLowerClause is_lower) (IsInductive c) (IsInductive l) inductive_low q.clauses links.lower low.inductive);
      closed = record {
        clauses = all_joined (IsClosedUnder c.truth l.grounds) p.clauses q.clauses (each (IsClosedUnder c.truth d.grounds) (IsClosedUnder c.truth l.grounds) closed_up p.clauses up.closed.clauses)
            (each_two (IsLowerClause is_lower) (IsClosedUnder c.truth c.grounds) (IsClosedUnder c.truth l.grounds) closed_low q.clauses links.lower low.closed.clauses);
        builtins = λ i b e. ground_as (d.grounds i) (l.grounds i) (sym (grounds_up i)) (true ∷ (true ∷ [])) (up.closed.builtins i b e);
      };
      stated = subst (AreStated p.arithmetic) (λ i x. sym (rows_up x) i) up.stated;
      measures = all_serve;
    }

pub claims_link : ClaimsLink
claims_link is_lower p q c d top prog links low up = links_show is_lower p q c d top links prog low (subst (Shows p) same up)
  where
    same : d ≡ normed c d
    same = λ i. record { size = links.extends.size i; truth = links.extends.truth i; rank = d.rank; expression = links.extends.expression i; rows = d.rows; grounds = d.grounds; measures = d.measures }

pub facts_link : FactsLink
facts_link is_lower p q c d f g top links takes_c takes_d = links_take is_lower p q c d top links f g takes_c takes_d

pub admits_link : AdmitsLink
admits_link is_lower p q c d top links = links_admit is_lower p q c d top links

pub linked_rows_end : LinkedRowsEnd
linked_rows_end is_lower p q c d f g top w prog both links low up takes_c takes_d agrees a n arity admits =
    rows_end_in (joined p q) (linked is_lower top c d) (linked_facts is_lower f g) w both (claims_link is_lower p q c d top prog links low up)
    (facts_link is_lower p q c d f g top links takes_c takes_d) agrees a n arity
    (admits_link is_lower p q c d top links a.pred.0 (truth_row c.truth (λ _. false) a) admits)

-- a world without answers
abbrev silent : World
silent past n a = []

pub linked_queries_end : LinkedQueriesEnd
linked_queries_end is_lower p q c d f g top prog both links low up takes_c takes_d none a n arity admits =
    let ends = linked_rows_end is_lower p q c d f g top silent prog both links low up takes_c takes_d (λ past m x has o. tt) a n arity admits in
    let closed : (linked_facts is_lower f g).is_open ≡ (λ _. false) = λ i x. none x i in
    (same_bounded (joined p q) silent (query a n)).0 (subst (λ (is_open : ℕ → Bool). BoundedIn (joined p q) is_open silent (query a n)) closed ends.0)

admits_wider : (c : Claims) (i : ℕ) (us bs : List Bool) → IsUpper us bs → Admits c i bs → Admits c i us
admits_wider c i us bs upper = some_each (λ (m : Measure). (vs : List Bool) → IsUpper vs bs → m.pre i vs ≡ true) (λ (m : Measure). (vs : List Bool) → IsUpper vs us → m.pre i vs ≡ true)
    (λ m h vs l. h vs (upper_trans vs us bs l upper)) (c.measures (c.rank i))

pub facts_extend : FactsExtend
facts_extend is_lower preds c d g size truth expression takes gives shares = record {
  size = size;
  truth = truth;
  expression = expression;
  rows = λ i low. by_open i (d.rows i ≡ c.rows i) (λ o. takes.rows i o ∙ gives.rows i low o) (shares.rows i low);
  grounds = λ i low. by_open i (d.grounds i ≡ c.grounds i) (λ o. takes.grounds i o ∙ gives.grounds i low o) (shares.grounds i low);
  admits = λ r. each (λ (m : Measure). (i : ℕ) (bs : List Bool) → d.rank i ≡ r → g.is_open i ≡ true → m.pre i bs ≡ true → IsAllowed g i bs)
      (λ (m : Measure). (i : ℕ) (bs : List Bool) → d.rank i ≡ r → is_lower i ≡ true → HasArity preds i (length bs) → m.pre i bs ≡ true → Admits c i bs)
      (λ m lets i bs same low arity pre. by_open i (Admits c i bs) (λ o. admitted i bs low o arity (lets i bs same o pre)) (λ o. shares.admits i low o bs arity)) (d.measures r) (takes.modes r);
}
  where
    by_open : (i : ℕ) (P : Type 0) → (g.is_open i ≡ true → P) → (g.is_open i ≡ false → P) → P
    by_open i P t f = go (g.is_open i) refl
      where
        go : (b : Bool) → g.is_open i ≡ b → P
        go true e = t e
        go false e = f e

    admitted : (i : ℕ) (bs : List Bool) → is_lower i ≡ true → g.is_open i ≡ true → HasArity preds i (length bs) → IsAllowed g i bs → Admits c i bs
    admitted i bs low o arity allowed =
        let found = picked (λ (mode : List ℕ). (n : ℕ) → HasArity preds i n → Admits c i (mode_row mode 1 n)) (λ (mode : List ℕ). IsUpper bs (mode_row mode 1 (length bs))) (g.modes i) (gives.modes i low o) allowed in
        admits_wider c i bs (mode_row found.0 1 (length bs)) found.2 (found.1 (length bs) arity)
