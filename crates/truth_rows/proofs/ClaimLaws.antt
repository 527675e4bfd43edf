-- For callers with claims: when calls stay in sets, the rule of preconditions is kept, and the other way round.
use Rattle.std.proofs.Common.{◌≡◌, ◌↔◌, inl, inr, ℕ, suc, ◌<◌, ◌≤◌, ◌==◌, Bool, true, false, ◌&&◌, ◌||◌, IsTrue, if◌then◌else◌, List, [], ◌∷◌, length, slice_get, Some, refl, ap, sym, subst, ◌∙◌, arith}
use Rattle.std.specs.List.{list_any}
use Rattle.std.proofs.lemmas.Bool.Decides.{nat_tests}
use Rattle.std.proofs.lemmas.Bool.{or_cases, or_left, or_right}
use Rattle.bool_diagrams.specs.declared.diagram.Diagram.{Diagram}
use Rattle.bool_diagrams.specs.Cubes.{truth_rows}
use Rattle.bool_diagrams.specs.Tree.{Tree as Rows}
use Rattle.cti_terms.specs.declared.atom_list.Atom.{Atom}
use Rattle.cti_terms.specs.declared.clauses.Clause.{Clause}
use Rattle.termination_model.specs.claims.Claims.{Admits, Claims, IsRanked, KeepsRule, Measure, SomeOf}
use Rattle.termination_model.specs.grounds.Grounds.{Family, IsGround, truth_row}
use Rattle.termination_model.specs.sizes.Rows.{IsUpper}
use Rattle.termination_model.specs.mappings.View.{all_upper, upward_union}
use Rattle.truth_rows.specs.Rules.{KeepsSets}
use Rattle.termination_model.proofs.Lists.{by_places}
use Rattle.truth_rows.proofs.UpperLaws.{all_from_upper}
use Rattle.termination_model.proofs.UpperRows.{upper_all}

-- where two sets have the same rows of a length, so they do of all upper rows
pub all_upper_same : (f g : List Bool → Bool) (row : List Bool) → ((us : List Bool) → length us ≡ length row → f us ≡ g us) → all_upper f row ≡ all_upper g row
all_upper_same f g [] same = same [] refl
all_upper_same f g (true ∷ row) same = all_upper_same (λ us. f (true ∷ us)) (λ us. g (true ∷ us)) row (λ us l. same (true ∷ us) (ap suc l))
all_upper_same f g (false ∷ row) same =
    let high = all_upper_same (λ us. f (true ∷ us)) (λ us. g (true ∷ us)) row (λ us l. same (true ∷ us) (ap suc l)) in
    let low = all_upper_same (λ us. f (false ∷ us)) (λ us. g (false ∷ us)) row (λ us l. same (false ∷ us) (ap suc l)) in
    λ i. high i && low i

-- the union of upward sets is what the measures admit
some_upper : (q : ℕ) (row : List Bool) (ms : List Measure) → IsTrue (list_any (λ (m : Measure). all_upper (m.pre q) row) ms) → SomeOf (λ (m : Measure). (us : List Bool) → IsUpper us row → m.pre q us ≡ true) ms
some_upper q row [] t = cc
some_upper q row (m ∷ ms) t = elim (or_cases (all_upper (m.pre q) row) (list_any (λ (x : Measure). all_upper (x.pre q) row) ms) t) [
  | inl here ↦ inl (λ us u. upper_all (m.pre q) row us here u)
  | inr later ↦ inr (some_upper q row ms later)
]

upper_some : (q : ℕ) (row : List Bool) (ms : List Measure) → SomeOf (λ (m : Measure). (us : List Bool) → IsUpper us row → m.pre q us ≡ true) ms → IsTrue (list_any (λ (m : Measure). all_upper (m.pre q) row) ms)
upper_some q row [] s = absurd s
upper_some q row (m ∷ ms) (inl h) = or_left (all_upper (m.pre q) row) (list_any (λ (x : Measure). all_upper (x.pre q) row) ms) (all_from_upper (m.pre q) row h)
upper_some q row (m ∷ ms) (inr h) = or_right (all_upper (m.pre q) row) (list_any (λ (x : Measure). all_upper (x.pre q) row) ms) (upper_some q row ms h)

pub union_is : (c : Claims) (q : ℕ) (row : List Bool) → IsTrue (upward_union c q row) ↔ Admits c q row
union_is c q row = (λ t. some_upper q row (c.measures (c.rank q)) t, λ a. upper_some q row (c.measures (c.rank q)) a)

-- each measure's rows of a length are those of the diagram at its place
abbrev pub HaveRowsOf : List Rows → ℕ → ℕ → List Measure → List Diagram → Type 0
HaveRowsOf trees n q [] [] = Unit {0}
HaveRowsOf trees n q [] (d ∷ sets) = ⊥
HaveRowsOf trees n q (m ∷ ms) [] = ⊥
HaveRowsOf trees n q (m ∷ ms) (d ∷ sets) = ((row : List Bool) → length row ≡ n → m.pre q row ≡ truth_rows trees d row) × HaveRowsOf trees n q ms sets

-- so the union of their upward sets is what measures with these rows admit
pub union_same : (trees : List Rows) (n q : ℕ) (ms : List Measure) (sets : List Diagram) → HaveRowsOf trees n q ms sets → (row : List Bool) → length row ≡ n
    → list_any (λ (m : Measure). all_upper (m.pre q) row) ms ≡ list_any (λ (d : Diagram). all_upper (truth_rows trees d) row) sets
union_same trees n q [] [] h row long = refl
union_same trees n q [] (d ∷ sets) h row long = absurd h
union_same trees n q (m ∷ ms) [] h row long = absurd h
union_same trees n q (m ∷ ms) (d ∷ sets) h row long =
    let first = all_upper_same (m.pre q) (truth_rows trees d) row (λ us l. h.0 us (l ∙ long)) in
    let rest = union_same trees n q ms sets h.1 row long in
    λ i. first i || rest i

module _ (c : Claims) (m : Measure) (k : Clause) (allowed : Family) (together : ℕ → Bool) (ranks : (q : ℕ) → together q ≡ (c.rank q == c.rank k.head.pred.0)) where
  is_together : (q : ℕ) → c.rank q ≡ c.rank k.head.pred.0 → together q ≡ true
  is_together q e = let t : (c.rank q == c.rank k.head.pred.0) ≡ true = grind (arith, nat_tests) in ranks q ∙ t

  is_apart : (q : ℕ) → c.rank q < c.rank k.head.pred.0 → together q ≡ false
  is_apart q lt = let t : (c.rank q == c.rank k.head.pred.0) ≡ false = grind (arith, nat_tests) in ranks q ∙ t

  -- the rule of preconditions, where what is allowed of atoms of the body is admitted
  pub rule_from_sets : ((j : ℕ) (b : Atom) (v : ℕ → Bool) → slice_get k.body j ≡ Some b → IsGround c.truth allowed v b → Admits c b.pred.0 (truth_row c.truth v b))
      → KeepsSets c.truth m.pre allowed c.grounds together k → KeepsRule c m k
  rule_from_sets admitted keeps v head j b at before =
      let stays = keeps v head j b at before in (
        λ same. subst (λ (t : Bool). IsGround c.truth (if t then m.pre else allowed) v b) (is_together b.pred.0 same) stays,
        λ less. admitted j b v at (subst (λ (t : Bool). IsGround c.truth (if t then m.pre else allowed) v b) (is_apart b.pred.0 less) stays),
      )

  -- and back, where what is admitted is allowed
  pub sets_from_rule : IsRanked c k → ((j : ℕ) (b : Atom) (v : ℕ → Bool) → slice_get k.body j ≡ Some b → Admits c b.pred.0 (truth_row c.truth v b) → IsGround c.truth allowed v b)
      → KeepsRule c m k → KeepsSets c.truth m.pre allowed c.grounds together k
  sets_from_rule ranked allow rule v head j b at before = go (together b.pred.0) refl
    where
      stays : (c.rank b.pred.0 ≡ c.rank k.head.pred.0 → m.pre b.pred.0 (truth_row c.truth v b) ≡ true) × (c.rank b.pred.0 < c.rank k.head.pred.0 → Admits c b.pred.0 (truth_row c.truth v b))
      stays = rule v head j b at before

      go : (t : Bool) → together b.pred.0 ≡ t → IsGround c.truth (if together b.pred.0 then m.pre else allowed) v b
      go true e =
          let t = sym (ranks b.pred.0) ∙ e in
          let same : c.rank b.pred.0 ≡ c.rank k.head.pred.0 = grind (arith, nat_tests) in
          subst (λ (t : Bool). IsGround c.truth (if t then m.pre else allowed) v b) (sym e) (stays.0 same)
      go false e =
          let t = sym (ranks b.pred.0) ∙ e in
          let le = by_places (λ (x : Atom). c.rank x.pred.0 ≤ c.rank k.head.pred.0) k.body ranked j b at in
          let less : c.rank b.pred.0 < c.rank k.head.pred.0 = grind (arith, nat_tests) in
          subst (λ (t : Bool). IsGround c.truth (if t then m.pre else allowed) v b) (sym e) (allow j b v at (stays.1 less))
