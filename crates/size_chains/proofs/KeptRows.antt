-- A legal step that changes no rows: its head's rows hold on the clause.
use Rattle.std.proofs.Common.{◌≡◌, ℕ, zero, suc, ℤ, pos, ◌≤ℤ◌, Bool, true, false, ◌⊎◌, inl, inr, List, [], ◌∷◌, map, length, refl, ap, sym, subst, ◌∙◌, arith}
use Rattle.std.specs.Prelude.{All, unsigned_abs}
use Rattle.std.specs.List.{AllByRecursion}
use Rattle.std.proofs.lemmas.Int.{ints}
use Rattle.std.proofs.lemmas.List.{length-map}
use Rattle.std.proofs.lemmas.List.Elements.{All-nil}
use Rattle.exact128.specs.Sums.{dot}
use Rattle.exact128.proofs.Rings.{mul_nonneg}
use Rattle.cti_terms.specs.declared.clauses.Clause.{Clause}
use Rattle.linear_rows.specs.Rows.{Holds, HoldsOn, AreEmpty}
use Rattle.linear_rows.specs.Members.{In}
use Rattle.linear_rows.proofs.Members.{from_All}
use Rattle.linear_rows.specs.Solving.{zeros}
use Rattle.termination_model.specs.chains.ChainRows.{bottom_row, HasPoint}
use Rattle.termination_model.specs.chains.ChainSteps.{Step, HasLegalRows}
use Rattle.termination_model.specs.declared.how.How.{How}
use Rattle.termination_model.specs.declared.how.How.TheVariants.{None as Nothing, First, Same, Join, Keep}
use Rattle.termination_model.proofs.ChainSieves.{stayed, some_in, of_all, all_of}
use Rattle.termination_model.proofs.ChainHeads.{bottom_fails_over, dot_substituted}
use Rattle.size_chains.specs.Steps.{HoldsHere, FailsHere, IsBlownHere, IsLegalImage, IsLegalStep}
use Rattle.size_chains.specs.Systems.{AreColumnsOf, Systems, at_head, head_of, missing, naturals_of}
use Rattle.size_chains.proofs.Widening.{tied_length, tied_natural}

length-zeros : (n : ℕ) → length (zeros n) ≡ n
length-zeros zero = refl
length-zeros (suc n) = ap suc (length-zeros n)

no_point : (n : ℕ) (rows : List (List ℤ)) → HasPoint n rows → AreEmpty (suc n) rows → ⊥
no_point n rows p empty = empty p.t p.w p.some (omega (arith, p.long)) p.hold

nats : ℕ → List ℕ
nats zero = []
nats (suc n) = 0 ∷ nats n

length-nats : (n : ℕ) → length (nats n) ≡ n
unfolding nats
length-nats zero = refl
length-nats (suc n) = ap suc (length-nats n)

all_not_empty : (n : ℕ) → AreEmpty (suc n) [] → ⊥
all_not_empty n empty = empty 1 (nats n) (omega arith) (omega (arith, length-nats n)) (All-nil (λ row. Holds row 1 (nats n)))

-- naturals at a point have a natural sum
dot_natural : (e : List ℤ) (w : List ℕ) → ((x : ℤ) → In x e → pos 0 ≤ℤ x) → pos 0 ≤ℤ dot e (map pos w)
unfolding dot
dot_natural [] w h = omega (arith, ints)
dot_natural (x ∷ e) [] h = omega (arith, ints)
dot_natural (x ∷ e) (v ∷ w) h =
    let here = mul_nonneg x (pos v) (h x (inl refl)) (omega (arith, ints)) in
    let more = dot_natural e w (λ y i. h y (inr i)) in
    omega (arith, ints, here, more)

-- the values of columns at a point, as naturals
abbrev values : List (List ℤ) → ℕ → List ℕ → List ℕ
values es t w = map (λ (e : List ℤ). unsigned_abs (dot e (pos t ∷ map pos w))) es

of_abs : (z : ℤ) → pos 0 ≤ℤ z → z ≡ pos (unsigned_abs z)
of_abs z h = omega (arith, ints)

values_are : (es : List (List ℤ)) (t : ℕ) (w : List ℕ) → ((e : List ℤ) → In e es → All (λ x. pos 0 ≤ℤ x) e) → map (λ e. dot e (pos t ∷ map pos w)) es ≡ map pos (values es t w)
values_are [] t w h = refl
values_are (e ∷ es) t w h =
    let here = of_abs (dot e (pos t ∷ map pos w)) (dot_natural e (t ∷ w) (λ x i. from_All (λ (z : ℤ). pos 0 ≤ℤ z) e x (h e (inl refl)) i)) in
    let more = values_are es t w (λ x i. h x (inr i)) in
    λ i. here i ∷ more i

module _ (speaks : List ℤ → Bool) (systems : Systems) (bottoms : (n : ℕ) → speaks (bottom_row n) ≡ true) where
  module _ (rows : ℕ → List (List ℤ)) (k : Clause) (of : AreColumnsOf systems k) where
    abbrev a : ℕ
    a = length (systems.heads k)

    abbrev old : List (List ℤ)
    old = rows k.head.pred.0

    abbrev Here : List ℤ → Type 0
    Here = HoldsHere speaks systems rows k

    abbrev Gone : List ℤ → Type 0
    Gone = FailsHere speaks systems rows k

    abbrev es : List (List ℤ)
    es = head_of systems k

    at_values : (row : List ℤ) (t : ℕ) (w : List ℕ) → dot (at_head systems k row) (pos t ∷ map pos w) ≡ dot row (pos t ∷ map pos (values es t w))
    at_values row t w =
        dot_substituted (naturals_of systems k) es row (map pos w) (pos t)
        ∙ ap (λ (xs : List ℤ). dot row (pos t ∷ xs)) (values_are es t w (λ e i. from_All (λ (r : List ℤ). All (λ (x : ℤ). pos 0 ≤ℤ x) r) es e (tied_natural (systems.naturals k) (missing (systems.heads k)) 0 (systems.heads k) of.expressions) i))

    -- a row that holds wherever naturals are, holds here
    everywhere : (r : List ℤ) → HoldsOn (suc a) [] r → Here r
    everywhere r h t w some long all =
        let is = at_values r t w in
        let one = length-map es (λ (e : List ℤ). unsigned_abs (dot e (pos t ∷ map pos w))) in
        let two = tied_length (systems.naturals k) (missing (systems.heads k)) 0 (systems.heads k) in
        let there = h t (values es t w) some (omega (arith, one, two)) (All-nil (λ row. Holds row t (values es t w))) in
        subst (λ (z : ℤ). pos 0 ≤ℤ z) (sym is) there

    -- what holds on the image holds here
    on_image : (weak : Bool) (image : List (List ℤ)) → IsLegalImage speaks systems rows k weak image → (r : List ℤ) → length r ≡ suc a → speaks r ≡ true → HoldsOn (suc a) image r → Here r
    on_image false image i r long spoken h = (i.same r long spoken).0 h
    on_image true image i r long spoken h = everywhere r (subst (λ (rs : List (List ℤ)). HoldsOn (suc a) rs r) i.1 h)

    -- the rows stay as they are, so each of them holds here
    keeps : (pass : ℕ) (image_weak : Bool) (image : List (List ℤ)) → IsLegalImage speaks systems rows k image_weak image
        → (weak : Bool) (how : How) (new : List (List ℤ)) → HasLegalRows speaks a Here Gone (IsBlownHere speaks systems rows k) pass old image weak how new → new ≡ old → AllByRecursion Here old
    keeps pass weak image i false Nothing new (empty, e) same = none weak image i empty
      where
        none : (weak : Bool) (image : List (List ℤ)) → IsLegalImage speaks systems rows k weak image → AreEmpty (suc a) image → AllByRecursion Here old
        none true image i empty = absurd (all_not_empty a (subst (AreEmpty (suc a)) i.1 empty))
        none false image i empty =
            let bottom : Here (bottom_row a) = (i.same (bottom_row a) (ap suc (length-zeros a)) (bottoms a)).0 (λ t w some long all. absurd (empty t w some long all)) in
            all_of Here old (λ r in_old t w some long all. absurd (bottom_fails_over (naturals_of systems k) es a t w some (bottom t w some long all)))
    keeps pass weak image i false First new (point, empty, e) same =
        absurd (no_point a old (subst (HasPoint a) (sym e ∙ same) point) empty)
    keeps pass weak image i false Same new (points, all, e) same = all
    keeps pass weak image i false Join new (early, points, some, join) same =
        let failing = some_in Gone old some in
        let r = failing.0 in
        let in_new : In r new = subst (In r) (sym same) failing.1 in
        let spoken = of_all (λ (r : List ℤ). (length r ≡ suc a) × (speaks r ≡ true)) new r join.spoken in_new in
        let on_new : HoldsOn (suc a) new r = λ t w some long all. from_All (λ row. Holds row t w) new r all in_new in
        let here : Here r = on_image weak image i r spoken.0 spoken.1 ((join.same r spoken.0 spoken.1).0 on_new).1 in
        let f = failing.2 in
        absurd (f.fails (here f.t f.w f.some (omega (arith, f.long)) f.hold))
    keeps pass weak image i false Keep new (late, points, some, sieved) same = subst (AllByRecursion Here) same (stayed Here Gone old new sieved)
    keeps pass weak image i true First new (licence, bottom, sieved) same =
        subst (AllByRecursion Here) same (stayed Here (λ r. Gone r ⊎ IsBlownHere speaks systems rows k r) image new sieved)
    keeps pass weak image i true Keep new (licence, bottom, sieved) same =
        subst (AllByRecursion Here) same (stayed Here (λ r. Gone r ⊎ IsBlownHere speaks systems rows k r) old new sieved)
    keeps pass weak image i true Nothing new h same = absurd h
    keeps pass weak image i true Same new h same = absurd h
    keeps pass weak image i true Join new h same = absurd h

    pub step_keeps : (pass : ℕ) (s : Step) → IsLegalStep speaks systems pass rows k s → s.rows ≡ old → AllByRecursion Here old
    step_keeps pass s legal same = keeps pass s.image_weak s.image legal.image s.weak s.how s.rows legal.legal same
