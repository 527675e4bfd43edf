-- What the tests of groups decide: whether they are a stuck set.
use Rattle.std.proofs.Common.{◌≡◌, ◌∙◌, ℕ, zero, suc, ◌+◌, ◌<◌, ◌≤◌, ◌==◌, ◌≤ℤ◌, ℤ, pos, negsuc, Bool, true, false, ◌&&◌, ◌||◌, List, [], ◌∷◌, map, length, slice_get, Some, ◌⊎◌, inl, inr, refl, ap, sym, subst, arith, eqb-true}
use Rattle.std.specs.List.{AllByRecursion}
use Rattle.std.proofs.lemmas.Bool.{and_parts}
use Rattle.std.proofs.lemmas.Int.{ints}
use Rattle.linear_rows.specs.Members.{In}
use Rattle.linear_rows.specs.declared.point.Point.{Point as HeldPoint}
use Rattle.number_tests.proofs.SumSteps.{some_at}
use Rattle.number_tests.specs.Levels.{natural}
use Rattle.number_turns.specs.Recalled.{spelled}
use Rattle.number_turns.specs.declared.feature.Feature.{Feature as HeldFeature}
use Rattle.termination_model.proofs.Lists.{by_places, from_places, indexed, mapped_place, place_below, there}
use Rattle.termination_model.specs.claims.Claims.{SomeOf}
use Rattle.transitions.specs.StuckSets.{Feature, Group, IsAt, IsGroup, Lacks, Point, group_sum}
use Rattle.transitions.specs.Transitions.{Transition}
use Rattle.transitions.specs.Turns.{is_same}
use Rattle.transition_tests.specs.Shape.{AreGroups, IsGroupOf, IsPlaced}
use Rattle.transition_tests.specs.StuckGroups.{IsStuckSet, NumbersFit, RowsFit, SumsFit, group_at, groups_from, other_points, own_point, picks, placed_at, transition_at}
use Rattle.transition_tests.specs.Testing.{AreBalanced, AtEach, GroupHolds, IsBalanced, PlacedHolds}
use Rattle.transition_tests.specs.declared.group.PlacedPoint.{PlacedPoint}
use Rattle.transition_tests.specs.declared.group.PointGroup.{PointGroup}
use Rattle.transition_tests.proofs.GroupLaws.{all_have, at_from, at_to, floor_from, floor_to, from_group, group_there, groups_long, others_have, own_has, sum_is}
use Rattle.transition_tests.proofs.OwnPoints.{equal_test}
use Rattle.transition_tests.proofs.Places.{some_place}

-- ---- elements
element_at : {X : Type 0} → (xs : List X) (i : ℕ) → i < length xs → (x : X) × (slice_get xs i ≡ Some x)
element_at [] i lt = absurd (omega (arith, lt))
element_at (x ∷ xs) zero lt = (x, refl)
element_at (x ∷ xs) (suc i) lt = element_at xs i (omega (arith, lt))

in_place : {X : Type 0} → (xs : List X) (i : ℕ) (x : X) → slice_get xs i ≡ Some x → In x xs
in_place [] i x e = cc
in_place (y ∷ xs) zero x e = let same : y ≡ x = cc in inl same
in_place (y ∷ xs) (suc i) x e = inr (in_place xs i x e)

-- two facts of each element
all_both : {X : Type 0} → (P Q R : X → Type 0) → ((x : X) → P x → Q x → R x) → (xs : List X) → AllByRecursion P xs → AllByRecursion Q xs → AllByRecursion R xs
all_both P Q R f [] h k = tt
all_both P Q R f (x ∷ xs) h k = (f x h.0 k.0, all_both P Q R f xs h.1 k.1)

all_mapped : {X Y : Type 0} → (P : Y → Type 0) (f : X → Y) (xs : List X) → AllByRecursion (λ x. P (f x)) xs → AllByRecursion P (map f xs)
all_mapped P f [] h = tt
all_mapped P f (x ∷ xs) h = (h.0, all_mapped P f xs h.1)

of_mapped : {X Y : Type 0} → (P : Y → Type 0) (f : X → Y) (xs : List X) → AllByRecursion P (map f xs) → AllByRecursion (λ x. P (f x)) xs
of_mapped P f [] h = tt
of_mapped P f (x ∷ xs) h = (h.0, of_mapped P f xs h.1)

-- one fact, or another one of each
each_or : {X : Type 0} → (A : Type 0) (P : ℕ → X → Type 0) (xs : List X) → ((k : ℕ) (x : X) → slice_get xs k ≡ Some x → A ⊎ P k x) → A ⊎ ((k : ℕ) (x : X) → slice_get xs k ≡ Some x → P k x)
each_or A P [] h = inr (λ k x e. cc)
each_or A P (y ∷ xs) h = join (h 0 y refl) (each_or A (λ k. P (suc k)) xs (λ k. h (suc k)))
  where
    join : A ⊎ P 0 y → A ⊎ ((k : ℕ) (x : _) → slice_get xs k ≡ Some x → P (suc k) x) → A ⊎ ((k : ℕ) (x : _) → slice_get (y ∷ xs) k ≡ Some x → P k x)
    join (inl a) rest = inl a
    join (inr p) (inl a) = inl a
    join (inr p) (inr all) = inr (at p all)
      where
        at : P 0 y → ((k : ℕ) (x : _) → slice_get xs k ≡ Some x → P (suc k) x) → (k : ℕ) (x : _) → slice_get (y ∷ xs) k ≡ Some x → P k x
        at q rest zero x e = let same : y ≡ x = cc in subst (P 0) same q
        at q rest (suc k) x e = rest k x e

-- ---- numbers that are picked
same_true : (f g : Feature) → g ≡ f → is_same f g ≡ true
same_true f g e =
    let first : (g.0 == f.0) ≡ true = equal_test g.0 f.0 (ap (λ (h : Feature). h.0) e) in
    let second : (g.1 == f.1) ≡ true = equal_test g.1 f.1 (ap (λ (h : Feature). h.1) e) in
    λ i. first i && second i

true_same : (f g : Feature) → is_same f g ≡ true → g ≡ f
true_same f g h =
    let both = and_parts (g.0 == f.0) (g.1 == f.1) h in
    let first = eqb-true g.0 f.0 both.0 in
    let second = eqb-true g.1 f.1 both.1 in
    λ i. (first i, second i)

or_left : (a b : Bool) → a ≡ true → (a || b) ≡ true
or_left a b h = ap (λ (c : Bool). c || b) h

or_right : (a b : Bool) → b ≡ true → (a || b) ≡ true
or_right true b h = refl
or_right false b h = h

or_cases : (a b : Bool) → (a || b) ≡ true → (a ≡ true) ⊎ (b ≡ true)
or_cases true b h = inl refl
or_cases false b h = inr h

pub picks_in : (fs : List Feature) (f : Feature) → In f fs → picks fs f ≡ true
picks_in [] f h = absurd h
picks_in (g ∷ fs) f (inl e) = or_left (is_same f g) (picks fs f) (same_true f g e)
picks_in (g ∷ fs) f (inr h) = or_right (is_same f g) (picks fs f) (picks_in fs f h)

pub in_picks : (fs : List Feature) (f : Feature) → picks fs f ≡ true → In f fs
in_picks [] f h = absurd (cc)
in_picks (g ∷ fs) f h = go (or_cases (is_same f g) (picks fs f) h) (in_picks fs f)
  where
    go : (is_same f g ≡ true) ⊎ (picks fs f ≡ true) → (picks fs f ≡ true → In f fs) → (g ≡ f) ⊎ In f fs
    go (inl e) rest = inl (true_same f g e)
    go (inr r) rest = inr (rest r)

-- ---- t of at least 1
natural_some : (z : ℤ) → pos 1 ≤ℤ z → 1 ≤ natural z
natural_some (pos n) h = omega (arith, ints, h)
natural_some (negsuc n) h = absurd (omega (arith, ints, h))

some_natural : (z : ℤ) → 1 ≤ natural z → pos 1 ≤ℤ z
some_natural (pos n) h = omega (arith, ints, h)
some_natural (negsuc n) h = absurd (omega (arith, h))

-- ---- groups of a set
module _ (τs : List Transition) (gs : List PointGroup) (shape : AreGroups τs gs) where
  abbrev pub hs : List Group
  hs = groups_from τs 0 gs

  pub group_here : (k : ℕ) (g : PointGroup) → slice_get gs k ≡ Some g → slice_get hs k ≡ Some (group_at τs k g)
  group_here k g e = let same : 0 + k ≡ k = omega arith in group_there τs 0 gs k g e ∙ ap (λ n. Some (group_at τs n g)) same

  pub here_group : (k : ℕ) (h : Group) → slice_get hs k ≡ Some h → (g : PointGroup) × (slice_get gs k ≡ Some g) × (h ≡ group_at τs k g)
  here_group k h e = let r = from_group τs 0 gs k h e in let same : 0 + k ≡ k = omega arith in (r.0, r.1, r.2 ∙ ap (λ n. group_at τs n r.0) same)

  transition_here : (k : ℕ) → k < length τs → slice_get τs k ≡ Some (transition_at τs k)
  transition_here k lt = there τs k (record { vars = 0; rows = []; head = 0; head_columns = []; call = 0; call_columns = [] }) lt

  -- each transition has a group
  some_group : (P : Transition → Type 0) (k : ℕ) → k < length τs → P (transition_at τs k) → SomeOf (λ (h : Group). P h.first.of) hs
  some_group P k lt p =
      let g = element_at gs k (omega (arith, lt, shape.each)) in
      some_at (λ (h : Group). P h.first.of) hs k (group_at τs k g.0) (group_here k g.0 g.1) p

  to_groups : (P : Transition → Type 0) → SomeOf P τs → SomeOf (λ (h : Group). P h.first.of) hs
  to_groups P some =
      let at = some_place P τs some in
      some_group P at.0 (place_below τs at.0 at.1 at.2) (subst P (sym (indexed τs at.0 at.1 (record { vars = 0; rows = []; head = 0; head_columns = []; call = 0; call_columns = [] }) at.2)) at.3)

  of_groups : (P : Transition → Type 0) → SomeOf (λ (h : Group). P h.first.of) hs → SomeOf P τs
  of_groups P some =
      let at = some_place (λ (h : Group). P h.first.of) hs some in
      let g = here_group at.0 at.1 at.2 in
      let lt : at.0 < length τs = omega (arith, place_below gs at.0 g.0 g.1, shape.each) in
      some_at P τs at.0 (transition_at τs at.0) (transition_here at.0 lt) (subst (λ (h : Group). P h.first.of) g.2 at.3)

  -- the rows hold at points, and fit
  module _ (k : ℕ) (g : PointGroup) (e : slice_get gs k ≡ Some g) where
    is_group_of : IsGroupOf τs k g
    is_group_of = shape.groups k g e

    within : k < length τs
    within = omega (arith, place_below gs k g e, shape.each)

    abbrev AtPlace : ℕ → HeldPoint → Type 0
    AtPlace n x = IsAt (transition_at τs n) (natural x.t) (map natural x.w)

    both_from : (x : PlacedPoint) → IsPlaced τs x → PlacedHolds τs x → RowsFit (transition_at τs x.place) x.point × AtPlace x.place x.point
    both_from x p h = at_from (transition_at τs x.place) x.point p.point h

    both_to : (x : PlacedPoint) → IsPlaced τs x → (RowsFit (transition_at τs x.place) x.point × AtPlace x.place x.point) → PlacedHolds τs x
    both_to x p h = at_to (transition_at τs x.place) x.point p.point h.0 h.1

    points_at : AllByRecursion (PlacedHolds τs) g.points → AllByRecursion (λ (x : PlacedPoint). RowsFit (transition_at τs x.place) x.point × AtPlace x.place x.point) g.points
    points_at all = all_both (IsPlaced τs) (PlacedHolds τs) (λ (x : PlacedPoint). RowsFit (transition_at τs x.place) x.point × AtPlace x.place x.point) both_from g.points is_group_of.points all

    first_half : (xs : List PlacedPoint) → AllByRecursion (λ (x : PlacedPoint). RowsFit (transition_at τs x.place) x.point × AtPlace x.place x.point) xs
        → AllByRecursion (λ (x : PlacedPoint). RowsFit (transition_at τs x.place) x.point) xs × AllByRecursion (λ (x : PlacedPoint). AtPlace x.place x.point) xs
    first_half [] h = (tt, tt)
    first_half (x ∷ xs) h = let rest = first_half xs h.1 in ((h.0.0, rest.0), (h.0.1, rest.1))

    both_halves : (xs : List PlacedPoint) → AllByRecursion (λ (x : PlacedPoint). RowsFit (transition_at τs x.place) x.point) xs → AllByRecursion (λ (x : PlacedPoint). AtPlace x.place x.point) xs
        → AllByRecursion (λ (x : PlacedPoint). RowsFit (transition_at τs x.place) x.point × AtPlace x.place x.point) xs
    both_halves [] h k = tt
    both_halves (x ∷ xs) h k = ((h.0, k.0), both_halves xs h.1 k.1)

    abbrev OtherIs : Point → Type 0
    OtherIs p = IsAt p.of p.t p.w × SomeOf (λ (h : Group). h.first.of ≡ p.of) hs

    other_is : (x : PlacedPoint) → IsPlaced τs x → AtPlace x.place x.point → OtherIs (placed_at τs x)
    other_is x p h = (h, some_group (λ (σ : Transition). σ ≡ transition_at τs x.place) x.place p.there refl)

    -- the group of a test
    to_group : (test : Feature → Bool) → GroupHolds τs k g → ((f : Feature) → test f ≡ true → AreBalanced τs gs f) → IsGroup test hs (group_at τs k g)
    to_group test holds balanced =
        let halves = first_half g.points (points_at holds.points) in
        record {
          some = natural_some (own_point k g.points).t holds.own;
          here = own_has τs k AtPlace g.points holds.own halves.1;
          others = all_mapped OtherIs (placed_at τs) (other_points k g.points)
              (others_have τs k (λ (x : PlacedPoint). OtherIs (placed_at τs x)) g.points (all_both (IsPlaced τs) (λ (x : PlacedPoint). AtPlace x.place x.point) (λ (x : PlacedPoint). OtherIs (placed_at τs x)) other_is g.points is_group_of.points halves.1));
          floor = (floor_from (transition_at τs k) g.floor is_group_of.floor holds.floor).1;
          balanced = λ f t. sums f (balanced f t);
        }
      where
        sums : (f : Feature) → AreBalanced τs gs f → SomeOf (λ (h : Group). Lacks h.first.of f) hs ⊎ (group_sum (group_at τs k g) f ≡ pos 0)
        sums f (inl lacked) = inl (to_groups (λ (σ : Transition). Lacks σ f) lacked)
        sums f (inr all) =
            let same = (all k g e).same in
            let is = sum_is τs k g f holds.own in
            inr (is ∙ omega (arith, ints, same))

    to_fit : (fs : List Feature) → GroupHolds τs k g → ((f : Feature) → In f fs → AreBalanced τs gs f) → NumbersFit fs τs k g
    to_fit fs holds balanced = record {
      points = (first_half g.points (points_at holds.points)).0;
      floor_fits = (floor_from (transition_at τs k) g.floor is_group_of.floor holds.floor).0;
      sums = λ f i. fit f (balanced f i);
    }
      where
        fit : (f : Feature) → AreBalanced τs gs f → SomeOf (λ (σ : Transition). Lacks σ f) τs ⊎ SumsFit τs k g f
        fit f (inl lacked) = inl lacked
        fit f (inr all) = inr (all k g e).fit

    -- and what is so of a group
    of_group : (test : Feature → Bool) (fs : List Feature) → IsGroup test hs (group_at τs k g) → NumbersFit fs τs k g → GroupHolds τs k g
    of_group test fs is fit = record {
      own = some_natural (own_point k g.points).t is.some;
      points = all_both (IsPlaced τs) (λ (x : PlacedPoint). RowsFit (transition_at τs x.place) x.point × AtPlace x.place x.point) (PlacedHolds τs) both_to g.points is_group_of.points
          (both_halves g.points fit.points (all_have τs k AtPlace g.points is.here (ats (other_points k g.points) (of_mapped OtherIs (placed_at τs) (other_points k g.points) is.others))));
      floor = floor_to (transition_at τs k) g.floor is_group_of.floor fit.floor_fits is.floor;
    }
      where
        ats : (xs : List PlacedPoint) → AllByRecursion (λ (x : PlacedPoint). OtherIs (placed_at τs x)) xs → AllByRecursion (λ (x : PlacedPoint). AtPlace x.place x.point) xs
        ats [] h = tt
        ats (x ∷ xs) h = (h.0.0, ats xs h.1)

    of_balanced : (test : Feature → Bool) (fs : List Feature) (f : Feature) → IsGroup test hs (group_at τs k g) → NumbersFit fs τs k g → test f ≡ true → In f fs → SomeOf (λ (σ : Transition). Lacks σ f) τs ⊎ IsBalanced τs f k g
    of_balanced test fs f is fit t i = go (is.balanced f t) (fit.sums f i)
      where
        go : SomeOf (λ (h : Group). Lacks h.first.of f) hs ⊎ (group_sum (group_at τs k g) f ≡ pos 0) → SomeOf (λ (σ : Transition). Lacks σ f) τs ⊎ SumsFit τs k g f → SomeOf (λ (σ : Transition). Lacks σ f) τs ⊎ IsBalanced τs f k g
        go (inl lacked) fits = inl (of_groups (λ (σ : Transition). Lacks σ f) lacked)
        go (inr zero_sum) (inl lacked) = inl lacked
        go (inr zero_sum) (inr fits) =
            let same = sum_is τs k g f (some_natural (own_point k g.points).t is.some) in
            inr (record { fit = fits; same = omega (arith, ints, same, zero_sum) })

  -- ---- the set
  pub to_stuck : (fs : List Feature) → 1 ≤ length gs → AtEach (GroupHolds τs) gs → ((f : Feature) → In f fs → AreBalanced τs gs f) → IsStuckSet fs τs gs
  to_stuck fs some holds balanced = record {
    stuck = record {
      some = omega (arith, some, groups_long τs 0 gs);
      of = from_places (λ (h : Group). In h.first.of τs) hs own_of;
      groups = from_places (IsGroup (picks fs) hs) hs group_is;
    };
    fit = λ k g e. to_fit k g e fs (holds k g e) balanced;
  }
    where
      own_of : (k : ℕ) (h : Group) → slice_get hs k ≡ Some h → In h.first.of τs
      own_of k h e =
          let g = here_group k h e in
          subst (λ (x : Group). In x.first.of τs) (sym g.2) (in_place τs k (transition_at τs k) (transition_here k (within k g.0 g.1)))

      group_is : (k : ℕ) (h : Group) → slice_get hs k ≡ Some h → IsGroup (picks fs) hs h
      group_is k h e =
          let g = here_group k h e in
          subst (IsGroup (picks fs) hs) (sym g.2) (to_group k g.0 g.1 (picks fs) (holds k g.0 g.1) (λ f t. balanced f (in_picks fs f t)))

  pub of_stuck_some : (fs : List Feature) → IsStuckSet fs τs gs → 1 ≤ length gs
  of_stuck_some fs is = let some = is.stuck.some in omega (arith, some, groups_long τs 0 gs)

  stuck_group : (fs : List Feature) → IsStuckSet fs τs gs → (k : ℕ) (g : PointGroup) → slice_get gs k ≡ Some g → IsGroup (picks fs) hs (group_at τs k g)
  stuck_group fs is k g e = by_places (IsGroup (picks fs) hs) hs is.stuck.groups k (group_at τs k g) (group_here k g e)

  pub of_stuck_hold : (fs : List Feature) → IsStuckSet fs τs gs → AtEach (GroupHolds τs) gs
  of_stuck_hold fs is k g e = of_group k g e (picks fs) fs (stuck_group fs is k g e) (is.fit k g e)

  pub of_stuck_balanced : (fs : List Feature) → IsStuckSet fs τs gs → (f : Feature) → In f fs → AreBalanced τs gs f
  of_stuck_balanced fs is f i =
      each_or (SomeOf (λ (σ : Transition). Lacks σ f) τs) (IsBalanced τs f) gs
      (λ k g e. of_balanced k g e (picks fs) fs f (stuck_group fs is k g e) (is.fit k g e) (picks_in fs f i) i)

-- ---- numbers as the code holds them
pub in_features : (features : List HeldFeature) (k : ℕ) (f : HeldFeature) → slice_get features k ≡ Some f → In (spelled f) (map spelled features)
in_features features k f e = in_place (map spelled features) k (spelled f) (mapped_place spelled features k f e)

pub at_features : (τs : List Transition) (gs : List PointGroup) (features : List HeldFeature) → ((k : ℕ) (f : HeldFeature) → slice_get features k ≡ Some f → AreBalanced τs gs (spelled f))
    → (f : Feature) → In f (map spelled features) → AreBalanced τs gs f
at_features τs gs [] all f i = absurd i
at_features τs gs (g ∷ features) all f (inl e) = subst (AreBalanced τs gs) e (all 0 g refl)
at_features τs gs (g ∷ features) all f (inr i) = at_features τs gs features (λ k. all (suc k)) f i
