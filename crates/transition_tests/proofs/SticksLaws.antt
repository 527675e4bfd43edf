-- A stuck set for numbers that were tested is one for those that no transition has, too.
use Rattle.std.proofs.Common.{◌≡◌, ◌∙◌, ℕ, zero, suc, ◌<◌, ◌==◌, ℤ, pos, Bool, true, false, if◌then◌else◌, List, [], ◌∷◌, map, length, slice_get, Option, None, Some, ◌⊎◌, inl, inr, refl, ap, subst, arith, eqb-true}
use Rattle.std.specs.List.{AllByRecursion}
use Rattle.std.proofs.lemmas.Int.{ints}
use Rattle.std.proofs.lemmas.List.{length-map}
use Rattle.exact128.specs.Sums.{dot, entry}
use Rattle.linear_rows.specs.Members.{In}
use Rattle.termination_model.proofs.Lists.{by_places, from_places}
use Rattle.termination_model.specs.claims.Claims.{SomeOf}
use Rattle.termination_model.specs.columns.ColumnRows.{or_empty}
use Rattle.transitions.specs.StuckSets.{Feature, Group, IsAt, IsGroup, IsStuckAt, Lacks, Point, floor_share, gain, gains, group_sum, share, values_at}
use Rattle.transitions.specs.Transitions.{Transition}
use Rattle.transition_tests.specs.Laws.{GroupsStick, IsPast}
use Rattle.transition_tests.specs.StuckGroups.{groups_from, picks}
use Rattle.transition_tests.proofs.Places.{some_place}
use Rattle.transition_tests.proofs.StuckLaws.{picks_in}

all_in : {X : Type 0} → (P : X → Type 0) (xs : List X) (x : X) → AllByRecursion P xs → In x xs → P x
all_in P [] x all i = absurd i
all_in P (y ∷ xs) x all (inl e) = subst P e all.0
all_in P (y ∷ xs) x all (inr i) = all_in P xs x all.1 i

entry_past : (zs : List ℤ) (i : ℕ) → length zs < suc i → entry zs i ≡ pos 0
entry_past [] i lt = refl
entry_past (z ∷ zs) zero lt = absurd (omega (arith, lt))
entry_past (z ∷ zs) (suc i) lt = entry_past zs i (omega (arith, lt))

values_long : (es : List (Option (List ℤ))) (t : ℕ) (w : List ℕ) → length (values_at es t w) ≡ suc (length es)
values_long es t w = ap suc (length-map (map or_empty es) (λ e. dot e (pos t ∷ map pos w)) ∙ length-map es or_empty)

share_past : (q : ℕ) (es : List (Option (List ℤ))) (t : ℕ) (w : List ℕ) (f : Feature) → (q ≡ f.0 → length es < f.1) → share q es t w f ≡ pos 0
share_past q es t w f past = go (q == f.0) refl
  where
    go : (b : Bool) → (q == f.0) ≡ b → (if b then entry (values_at es t w) f.1 else pos 0) ≡ pos 0
    go true e = entry_past (values_at es t w) f.1 (omega (arith, past (eqb-true q f.0 e), values_long es t w))
    go false e = refl

gain_past : (f : Feature) (p : Point) → IsPast f p.of → gain f p ≡ pos 0
gain_past f p past =
    let head = share_past p.of.head p.of.head_columns p.t p.w f past.0 in
    let call = share_past p.of.call p.of.call_columns p.t p.w f past.1 in
    omega (arith, ints, head, call)

gains_past : (f : Feature) (ps : List Point) → AllByRecursion (λ (p : Point). IsPast f p.of) ps → gains f ps ≡ pos 0
gains_past f [] all = refl
gains_past f (p ∷ ps) all = let here = gain_past f p all.0 in let rest = gains_past f ps all.1 in omega (arith, ints, here, rest)

floor_past : (f : Feature) (τ : Transition) (o : Option (ℕ × List ℕ)) → IsPast f τ → floor_share τ o f ≡ pos 0
floor_past f τ None past = refl
floor_past f τ (Some p) past = share_past τ.head τ.head_columns p.0 p.1 f past.0

module _ (test more : Feature → Bool) (τs : List Transition) (hs : List Group) (stuck : IsStuckAt test τs hs)
    (covered : (f : Feature) → more f ≡ true → (test f ≡ true) ⊎ AllByRecursion (IsPast f) τs) where
  -- the transitions of a group's points are those of the set
  others_past : (f : Feature) → AllByRecursion (IsPast f) τs → (ps : List Point) → AllByRecursion (λ (p : Point). IsAt p.of p.t p.w × SomeOf (λ (h : Group). h.first.of ≡ p.of) hs) ps
      → AllByRecursion (λ (p : Point). IsPast f p.of) ps
  others_past f past [] h = tt
  others_past f past (p ∷ ps) h =
      let at = some_place (λ (g : Group). g.first.of ≡ p.of) hs h.0.1 in
      let in_set = by_places (λ (g : Group). In g.first.of τs) hs stuck.of at.0 at.1 at.2 in
      (subst (IsPast f) at.3 (all_in (IsPast f) τs at.1.first.of past in_set), others_past f past ps h.1)

  more_group : (k : ℕ) (g : Group) → slice_get hs k ≡ Some g → IsGroup more hs g
  more_group k g e =
      let is = by_places (IsGroup test hs) hs stuck.groups k g e in
      record {
        some = is.some;
        here = is.here;
        others = is.others;
        floor = is.floor;
        balanced = λ f t. go f is (covered f t);
      }
    where
      go : (f : Feature) → IsGroup test hs g → (test f ≡ true) ⊎ AllByRecursion (IsPast f) τs → SomeOf (λ (h : Group). Lacks h.first.of f) hs ⊎ (group_sum g f ≡ pos 0)
      go f is (inl t) = is.balanced f t
      go f is (inr past) =
          let own = all_in (IsPast f) τs g.first.of past (by_places (λ (h : Group). In h.first.of τs) hs stuck.of k g e) in
          let sum = gains_past f (g.first ∷ g.others) (own, others_past f past g.others is.others) in
          let floor = floor_past f g.first.of g.floor own in
          inr (omega (arith, ints, sum, floor))

  pub more_stuck : IsStuckAt more τs hs
  more_stuck = record {
    some = stuck.some;
    of = stuck.of;
    groups = from_places (IsGroup more hs) hs more_group;
  }

pub sticks : GroupsStick
sticks fs τs gs test is covered = more_stuck (picks fs) test τs (groups_from τs 0 gs) is.stuck (λ f t. go f (covered f t))
  where
    go : (f : Feature) → In f fs ⊎ AllByRecursion (IsPast f) τs → (picks fs f ≡ true) ⊎ AllByRecursion (IsPast f) τs
    go f (inl i) = inl (picks_in fs f i)
    go f (inr past) = inr past
