-- What the search at a set of positions answers.
use Rattle.std.proofs.Common.{◌≡◌, ◌==◌, ◌||◌, ◌⊎◌, inl, inr, ℕ, zero, suc, Some, None, Option, map, ℤ, pos, Bool, true, false, if◌then◌else◌, List, [], ◌∷◌, length, refl, ap, sym, subst, ◌∙◌, arith, eqb-true, eq-eqb}
use Rattle.std.specs.Prelude.{nat_eq}
use Rattle.std.specs.List.{AllByRecursion, list_any}
use Rattle.std.proofs.lemmas.Int.{ints}
use Rattle.std.proofs.lemmas.List.{length-map}
use Rattle.exact128.specs.Sums.{entry}
use Rattle.linear_rows.specs.Members.{In}
use Rattle.termination_model.specs.claims.Claims.{SomeOf}
use Rattle.termination_model.specs.columns.ColumnClaims.{Mapping, difference}
use Rattle.termination_model.specs.columns.ColumnRows.{row_over}
use Rattle.termination_model.proofs.Sets.{Part, any_in, in_any, to_part}
use Rattle.transitions.specs.StuckSets.{Feature, Group, IsGroup, IsStuckAt, IsWithin, Point, floor_share, gain, gains, group_sum, number_of, share, values_at}
use Rattle.transitions.specs.Transitions.{Descends, HoldsThere, Transition, fall, head_level}
use Rattle.transitions.specs.Turns.{HasWidths, IsTurn, RefutedTurn, Turn, group_of, is_same}
use Rattle.transitions.proofs.StuckLaws.{none_descends}
use Rattle.transitions.proofs.TurnExcluded.{refuted_marks_exclude}
use Rattle.transitions.proofs.TurnRefuted.{refuted_turns_stick}
use Rattle.number_turns.specs.Recalled.{recalled}
use Rattle.number_turns.specs.declared.transition.Transition.{Transition as Held}
use Rattle.number_lists.specs.Coursing.{AreStuckOver, CannotLeave, IsEnded, IsGivenUpOver, IsListOver, IsMappingOver, IsOver, free, rest_of}
use Rattle.number_lists.specs.Features.{AreTransitions, features_of, has_column, is_picked, list_support_from, picked_from}
use Rattle.number_lists.specs.Found.{AreStuckIn, IsChosen, IsListIn, IsVoid, IsWithin as IsFoundWithin}
use Rattle.number_lists.specs.FoundLists.{IsGivenUpAt, IsShaped, IsUnmapped, all_marks}
use Rattle.number_lists.specs.Lists.{mappings_of, recalled_mapping}
use Rattle.number_lists.specs.declared.course.Within.{Within}
use Rattle.number_lists.specs.declared.course.Within.TheVariants as within
use Rattle.number_lists.specs.declared.group.Group.{Group as HeldGroup}
use Rattle.number_lists.specs.declared.mapping.Mapping.{Mapping as HeldMapping}
use Rattle.number_lists.specs.declared.measure_list.MeasureList.{MeasureList}
use Rattle.number_lists.specs.declared.position.Position.{Position}
use Rattle.number_lists.proofs.Lacking.{either, free_or, or_right}
use Rattle.number_lists.proofs.ListSupports.{any_of, at_set, column_there, features_once, features_sole, list_set, of_columns_or, of_picked, offset_there, part_of_set, picked_apart, picked_in, picked_of, within_over, zero_number}
use Rattle.number_lists.proofs.Numbers.{mapping_over}
use Rattle.number_lists.proofs.Tracked.{all_unmarked, by_in, in_unmarked, of_all}

-- ---- whether a number is among some
abbrev member_test : List Feature → Feature → Bool
member_test fs f = list_any (λ g. is_same g f) fs

pub same_is : (f g : Feature) → is_same f g ≡ true → f ≡ g
same_is f g e = go (g.0 == f.0) (g.1 == f.1) refl refl
  where
    go : (a b : Bool) → (g.0 == f.0) ≡ a → (g.1 == f.1) ≡ b → f ≡ g
    go true true ea eb =
        let first : f.0 ≡ g.0 = sym (eqb-true g.0 f.0 ea) in
        let second : f.1 ≡ g.1 = sym (eqb-true g.1 f.1 eb) in
        λ i. (first i, second i)
    go true false ea eb = cc
    go false b ea eb = cc

pub is_itself : (f g : Feature) → f ≡ g → is_same f g ≡ true
is_itself f g e = let a = eq-eqb g.0 f.0 (sym (ap (λ (h : Feature). h.0) e)) in let b = eq-eqb g.1 f.1 (sym (ap (λ (h : Feature). h.1) e)) in cc

test_in : (fs : List Feature) (f : Feature) → member_test fs f ≡ true → In f fs
test_in [] f e = cc
test_in (g ∷ fs) f e = elim (either (is_same g f) (member_test fs f) e) [
  | inl a ↦ inl (same_is g f a)
  | inr b ↦ inr (test_in fs f b)
]

in_test : (fs : List Feature) (f : Feature) → In f fs → member_test fs f ≡ true
in_test [] f i = absurd i
in_test (g ∷ fs) f (inl e) = ap (λ b. b || member_test fs f) (is_itself g f e)
in_test (g ∷ fs) f (inr i) = or_right (is_same g f) (member_test fs f) (in_test fs f i)

-- ---- offsets of what is no member
foreign_share : (q : ℕ) (es : List (Option (List ℤ))) (t : ℕ) (w : List ℕ) (f : Feature) → (q ≡ f.0 → ⊥) → share q es t w f ≡ pos 0
foreign_share q es t w f n = go (q == f.0) refl
  where
    go : (b : Bool) → (q == f.0) ≡ b → share q es t w f ≡ pos 0
    go true e = absurd (n (eqb-true q f.0 e))
    go false e = λ j. if e j then entry (values_at es t w) f.1 else pos 0

module _ (f : Feature) where
  abbrev IsForeign : Transition → Type 0
  IsForeign τ = (τ.head ≡ f.0 → ⊥) × (τ.call ≡ f.0 → ⊥)

  foreign_gain : (p : Point) → IsForeign p.of → gain f p ≡ pos 0
  foreign_gain p n =
      let a = foreign_share p.of.head p.of.head_columns p.t p.w f n.0 in
      let b = foreign_share p.of.call p.of.call_columns p.t p.w f n.1 in
      omega (arith, ints, a, b)

  foreign_gains : (ps : List Point) → AllByRecursion (λ (p : Point). IsForeign p.of) ps → gains f ps ≡ pos 0
  foreign_gains [] n = refl
  foreign_gains (p ∷ ps) n =
      let a = foreign_gain p n.0 in
      let b = foreign_gains ps n.1 in
      omega (arith, ints, a, b)

  foreign_floor : (τ : Transition) (o : Option (ℕ × List ℕ)) → IsForeign τ → floor_share τ o f ≡ pos 0
  foreign_floor τ None n = refl
  foreign_floor τ (Some p) n = foreign_share τ.head τ.head_columns p.0 p.1 f n.0

  foreign_sum : (g : Group) → IsForeign g.first.of → AllByRecursion (λ (p : Point). IsForeign p.of) g.others → group_sum g f ≡ pos 0
  foreign_sum g n ns =
      let a = foreign_gains (g.first ∷ g.others) (n, ns) in
      let b = foreign_floor g.first.of g.floor n in
      omega (arith, ints, a, b)

some_there : (gs : List Group) (p : Point) → SomeOf (λ (h : Group). h.first.of ≡ p.of) gs → (P : Transition → Type 0) → AllByRecursion (λ (g : Group). P g.first.of) gs → P p.of
some_there [] p s P all = absurd s
some_there (g ∷ gs) p (inl e) P all = subst P e all.0
some_there (g ∷ gs) p (inr s) P all = some_there gs p s P all.1

all_map : {X : Type 0} (P Q : X → Type 0) (xs : List X) → ((x : X) → P x → Q x) → AllByRecursion P xs → AllByRecursion Q xs
all_map P Q [] f h = tt
all_map P Q (x ∷ xs) f h = (f x h.0, all_map P Q xs f h.1)

-- a stuck set over more numbers, that are offsets of no member
more_stuck : (test more : Feature → Bool) (τs rest : List Transition) (gs : List Group) → ((τ : Transition) → In τ rest → In τ τs) → ((f : Feature) → more f ≡ true → (test f ≡ true) ⊎ ((τ : Transition) → In τ τs → IsForeign f τ))
    → IsStuckAt test rest gs → IsStuckAt more τs gs
more_stuck test more τs rest gs inside tells s =
    let of = all_map (λ (g : Group). In g.first.of rest) (λ (g : Group). In g.first.of τs) gs (λ g i. inside g.first.of i) s.of in
    record { some = s.some; of = of; groups = by_in (IsGroup more gs) gs (λ g i. one g (of_all (λ (h : Group). In h.first.of τs) gs g of i) of (of_all (IsGroup test gs) gs g s.groups i)) }
  where
    one : (g : Group) → In g.first.of τs → AllByRecursion (λ (h : Group). In h.first.of τs) gs → IsGroup test gs g → IsGroup more gs g
    one g own of h = record {
      some = h.some;
      here = h.here;
      others = h.others;
      floor = h.floor;
      balanced = λ f e. elim (tells f e) [
        | inl t ↦ h.balanced f t
        | inr foreign ↦ inr (foreign_sum f g (foreign g.first.of own)
            (all_map _ (λ (p : Point). IsForeign f p.of) g.others (λ p k. some_there gs p k.1 (IsForeign f) (all_map (λ (y : Group). In y.first.of τs) (λ (y : Group). IsForeign f y.first.of) gs (λ y i. foreign y.first.of i) of)) h.others))
      ];
    }

-- ---- a mapping without offsets of what is no member
abbrev trimmed : List ℕ → Mapping → Mapping
trimmed members l = record { coefficients = l.coefficients; offset = λ q. if list_any (λ x. nat_eq q x) members then l.offset q else pos 0 }

module _ (members : List ℕ) (l : Mapping) where
  same_offset : (q : ℕ) → In q members → (trimmed members l).offset q ≡ l.offset q
  same_offset q i = let e = in_any q members i in λ j. if e j then l.offset q else pos 0

  same_fall : (τ : Transition) (d : ℕ) → In τ.head members → In τ.call members → fall τ d (trimmed members l) ≡ fall τ d l
  same_fall τ d i k =
      λ j. difference d (row_over τ.vars τ.head_columns (same_offset τ.head i j ∷ l.coefficients τ.head)) (row_over τ.vars τ.call_columns (same_offset τ.call k j ∷ l.coefficients τ.call))

  same_head : (τ : Transition) → In τ.head members → head_level τ (trimmed members l) ≡ head_level τ l
  same_head τ i = λ j. row_over τ.vars τ.head_columns (same_offset τ.head i j ∷ l.coefficients τ.head)

  one_turn : (τs : List Transition) → AllByRecursion (λ (τ : Transition). In τ.head members × In τ.call members) τs → Descends τs (l ∷ []) → IsTurn τs (trimmed members l) (all_marks τs)
  one_turn [] inside d = tt
  one_turn (τ ∷ τs) inside ((zero, falls), d) =
      let (i, k) = inside.0 in (
        subst (HoldsThere τ) (sym (same_fall τ 1 i k)) falls.0,
        subst (HoldsThere τ) (sym (same_head τ i)) falls.1,
        one_turn τs inside.1 d,
      )
  one_turn (τ ∷ τs) inside ((suc i, falls), d) = absurd falls.1

  -- at the numbers of the positions of a set, and of members, alone
  trimmed_within : (ps : List Position) → IsWithin (is_picked ps) l → IsWithin (member_test (features_of members ps)) (trimmed members l)
  trimmed_within ps h f out = go f out (is_picked ps f) refl
    where
      offset : (q : ℕ) → member_test (features_of members ps) (q, 0) ≡ false → (b : Bool) → list_any (λ x. nat_eq q x) members ≡ b → (if b then l.offset q else pos 0) ≡ pos 0
      offset q out true e = let t = in_test (features_of members ps) (q, 0) (offset_there members ps (q, 0) refl (any_in q members e)) in cc
      offset q out false e = refl

      go : (f : Feature) → member_test (features_of members ps) f ≡ false → (b : Bool) → is_picked ps f ≡ b → number_of (trimmed members l) f ≡ pos 0
      go (q, zero) out b e = offset q out (list_any (λ x. nat_eq q x) members) refl
      go (q, suc i) out false e = h (q, suc i) e
      go (q, suc i) out true e = elim (of_picked ps (q, suc i) e) [
        | inl z ↦ absurd (omega (arith, z))
        | inr t ↦ let k = in_test (features_of members ps) (q, suc i) (column_there members ps (q, suc i) t.0 t.1 t.2) in cc
      ]

module _ (members : List ℕ) (positions : List Position) (hs : List Held) (width : ℕ → ℕ) (are : AreTransitions width members positions (map recalled hs)) (s : List ℕ) where
  abbrev τs : List Transition
  τs = map recalled hs

  abbrev ps : List Position
  ps = picked_from 1 positions s

  abbrev fs : List Feature
  fs = features_of members ps

  -- what is picked is among the numbers, or the offset of no member
  tells : (f : Feature) → is_picked ps f ≡ true → (member_test fs f ≡ true) ⊎ ((τ : Transition) → In τ τs → IsForeign f τ)
  tells f e = elim (of_picked ps f e) [
    | inl z ↦ go z (list_any (λ x. nat_eq f.0 x) members) refl
    | inr t ↦ inl (in_test fs f (column_there members ps f t.0 t.1 t.2))
  ]
    where
      go : f.1 ≡ 0 → (b : Bool) → list_any (λ x. nat_eq f.0 x) members ≡ b → (member_test fs f ≡ true) ⊎ ((τ : Transition) → In τ τs → IsForeign f τ)
      go z true i = inl (in_test fs f (offset_there members ps f z (any_in f.0 members i)))
      go z false i = inr (λ τ k.
          let inside = of_all (λ (σ : Transition). In σ.head members × In σ.call members) τs τ are.inside k in
          ((λ e. let t = in_any f.0 members (subst (λ q. In q members) e inside.0) in cc), (λ e. let t = in_any f.0 members (subst (λ q. In q members) e inside.1) in cc)))

  -- ---- no list
  firsts_there : (rs : List RefutedTurn) (τ : Transition) → In τ (map (λ (r : RefutedTurn). r.first) rs) → SomeOf (λ (r : RefutedTurn). r.first ≡ τ) rs
  firsts_there [] τ i = absurd i
  firsts_there (r ∷ rs) τ (inl e) = inl e
  firsts_there (r ∷ rs) τ (inr i) = inr (firsts_there rs τ i)

  pub stuck_in : (groups : List HeldGroup) → AreStuckOver fs hs groups → AreStuckIn members positions τs width s groups
  stuck_in groups h =
      let rest = rest_of hs h.gone in
      let turns = h.refuted.turns in
      let count : length turns ≡ length rest = sym (length-map turns (λ (r : RefutedTurn). r.first)) ∙ ap length h.refuted.firsts in
      let some = h.some in
      let stuck = refuted_turns_stick width (free fs rest) (member_test fs) rest turns (all_unmarked (HasWidths width) τs h.gone are.widths) (omega (arith, count, some)) h.refuted.are
      (by_in (λ (τ : Transition). SomeOf (λ (r : RefutedTurn). r.first ≡ τ) turns) rest (λ τ i. firsts_there turns τ (subst (In τ) (sym h.refuted.firsts) i)))
      (λ f e. free_or fs rest f (test_in fs f e)) in
      (map (group_of (free fs rest)) turns, h.refuted.groups, more_stuck (member_test fs) (is_picked ps) τs rest (map (group_of (free fs rest)) turns) (λ τ i. in_unmarked τs h.gone τ i) tells stuck)

  pub void_in : (groups : List HeldGroup) → AreStuckIn members positions τs width s groups → IsVoid members positions τs width s
  void_in groups (gs, held, stuck) u part has =
      let inside : Part (list_support_from 1 positions has.list) s = subst (λ (z : List ℕ). Part z s) (sym has.is) (to_part u s part) in
      none_descends (is_picked ps) τs gs has.list stuck (by_in (IsWithin (is_picked ps)) has.list (λ l i. at_set positions s has.list inside has.within l i)) has.descends

  -- ---- no mapping, as far as is known
  pub unmapped : CannotLeave (free fs τs) τs → IsUnmapped members positions τs s
  unmapped (inl blown) = inl blown
  unmapped (inr (ms, refuted)) = inr (λ u part has.
      let one = has.mapping in
      let inside : Part (list_support_from 1 positions (one ∷ [])) s = subst (λ (z : List ℕ). Part z s) (sym has.is) (to_part u s part) in
      let here = at_set positions s (one ∷ []) inside (has.within, tt) one (inl refl) in
      refuted_marks_exclude width (free fs τs) (member_test fs) τs (all_marks τs) refuted.multipliers (trimmed members one) are.widths are.points refuted.long refuted.refutes
      (λ f e. free_or fs τs f (test_in fs f e)) (trimmed_within members one ps here) (one_turn members one τs are.inside has.descends))

  -- ---- the search is given up
  pub given_up : IsGivenUpOver fs hs → IsGivenUpAt members positions τs s
  given_up h =
      let turns = h.turns width are.widths in
      record {
        turns = turns.turns;
        rest = rest_of hs h.gone;
        left = turns.leave;
        within = all_map (λ (u : Turn). IsOver fs u.mapping) (λ (u : Turn). IsWithin (is_picked ps) u.mapping) turns.turns (λ u o. within_over members ps u.mapping o) turns.over;
        place = h.blown.place;
        first = h.blown.first;
        marked = h.blown.marked;
        blown = h.blown.blown;
      }

  -- ---- a list
  shaped : (m : HeldMapping) → IsMappingOver fs m → IsShaped members positions τs width m
  shaped m h = record {
    long = h.long;
    fit = h.fit;
    once = h.once (features_once members ps (picked_apart positions 1 s are.apart));
    sole = λ once. h.sole (features_sole members ps (picked_apart positions 1 s are.apart) once);
    inside = λ f i. of_columns_or members positions width s f are.columns (h.among f i);
  }

  mappings_over : (ms : List HeldMapping) → AllByRecursion (IsMappingOver fs) ms → (P : Mapping → Type 0) → ((l : Mapping) → IsOver fs l → P l) → AllByRecursion P (map (recalled_mapping width) ms)
  mappings_over [] h P f = tt
  mappings_over (m ∷ ms) h P f = (f (recalled_mapping width m) (mapping_over width fs m h.0), mappings_over ms h.1 P f)

  picked_less : (l : Mapping) → IsWithin (is_picked ps) l → IsWithin (is_picked positions) l
  picked_less l h f out = h f (go (is_picked ps f) refl)
    where
      go : (b : Bool) → is_picked ps f ≡ b → b ≡ false
      go false e = refl
      go true e = elim (of_picked ps f e) [
        | inl z ↦ let t = zero_number f positions z in cc
        | inr t ↦ let k = or_right (f.1 == 0) (list_any (has_column f) positions) (any_of f positions t.0 (picked_in positions 1 s t.0 t.1) t.2) in cc
      ]

  pub list_in : (l : MeasureList) → IsListOver fs hs l → IsListIn members positions τs width s l
  list_in l h =
      let here = h.for width are.widths in
      let at = mappings_over l.mappings h.mappings (IsWithin (is_picked ps)) (λ k o. within_over members ps k o) in
      let all = all_map (IsWithin (is_picked ps)) (IsWithin (is_picked positions)) (mappings_of width l) picked_less at in
      let count = length-map l.mappings (recalled_mapping width) in
      let some = h.some in
      record {
        list = record {
          some = h.some;
          shaped = all_map (IsMappingOver fs) (IsShaped members positions τs width) l.mappings shaped h.mappings;
          within = all;
          places = here.places;
          needed = here.needed;
          descends = here.descends;
        };
        part = part_of_set positions are.apart s (mappings_of width l) at;
        has = record { list = mappings_of width l; some = omega (arith, count, some); within = all; descends = here.descends; is = refl };
      }

  pub within_of : (w : Within) → IsEnded fs hs w → IsFoundWithin members positions τs width s w
  within_of (within.List l) h = list_in l h
  within_of (within.Nothing groups) h = let stuck = stuck_in groups h in (stuck, void_in groups stuck)
  within_of within.GivenUp h = given_up h

  pub chosen_of : (w : Within) → IsEnded fs hs w → IsChosen members positions τs width s w
  chosen_of (within.List l) h = λ long. unmapped (h.chosen long)
  chosen_of (within.Nothing groups) h = tt
  chosen_of within.GivenUp h = unmapped h.chosen
