-- Where the turns of all transitions are refuted, these are stuck.
use Rattle.std.proofs.Common.{◌≡◌, ℕ, zero, suc, ◌*◌, ◌≤◌, ◌==◌, ℤ, pos, neg_ℤ, ◌+ℤ◌, Bool, true, false, if◌then◌else◌, ◌⊎◌, List, [], ◌∷◌, map, drop, length, Option, inl, inr, refl, ap, sym, subst, ◌∙◌, arith}
use Rattle.std.specs.Prelude.{slice_index_or}
use Rattle.std.specs.List.{AllByRecursion}
use Rattle.std.proofs.lemmas.Int.{ints}
use Rattle.exact128.specs.Sums.{dot, entry}
use Rattle.linear_rows.specs.Members.{In}
use Rattle.linear_rows.specs.Rows.{AllHold}
use Rattle.linear_rows.specs.RowSums.{added}
use Rattle.termination_model.specs.claims.Claims.{SomeOf}
use Rattle.termination_model.specs.columns.ColumnRows.{or_empty}
use Rattle.transitions.specs.Templates.{Target}
use Rattle.transitions.specs.TemplateLaws.{number_count, Pointed, pointed, IsPointed, feature_value, feature_sum, least_sum, IsBalanced}
use Rattle.transitions.specs.Transitions.{Transition}
use Rattle.transitions.specs.StuckSets.{Feature, values_at, share, Point, head_share, gain, Group, gains, group_sum, IsAt, Lacks, IsGroup}
use Rattle.transitions.specs.Turns.{unit_row, share_row, head_row, call_row, fall_target, level_target, targets, HasWidths, RefutedTurn, refuted_targets, IsRefutedTurn, points_with, group_with, group_of, RefutedTurnsStick}
use Rattle.transitions.proofs.TemplateValues.{dot_minus}
use Rattle.transitions.proofs.TemplateRefuted.{map_twice, refutations_balance}
use Rattle.transitions.proofs.TurnPoints.{all_features}
use Rattle.termination_model.proofs.SystemPoints.{dot_added}
use Rattle.termination_model.proofs.SystemPoints.{dot_zeros as dot_replicated}
use Rattle.termination_model.proofs.Totals.{dropped}

-- ---- shares at points
unit_value : (n t : ℕ) (ws : List ℤ) → dot (unit_row n) (pos t ∷ ws) ≡ pos t
unfolding dot
unit_value n t ws = let none = dot_replicated n ws in omega (arith, ints, none)

entry_dot : (es : List (List ℤ)) (vs : List ℤ) (i : ℕ) → entry (map (λ e. dot e vs) es) i ≡ dot (slice_index_or es i []) vs
unfolding dot
entry_dot [] vs i = refl
entry_dot (e ∷ es) vs zero = refl
entry_dot (e ∷ es) vs (suc i) = entry_dot es vs i

share_value : (n q : ℕ) (es : List (Option (List ℤ))) (f : Feature) (t : ℕ) (w : List ℕ) → dot (share_row n q es f) (pos t ∷ map pos w) ≡ share q es t w f
unfolding dot
share_value n q es f t w = go (q == f.0)
  where
    there : (j : ℕ) → dot (slice_index_or (unit_row n ∷ map or_empty es) j []) (pos t ∷ map pos w) ≡ entry (values_at es t w) j
    there zero = unit_value n t (map pos w)
    there (suc i) = sym (entry_dot (map or_empty es) (pos t ∷ map pos w) i)

    go : (b : Bool) → dot (if b then slice_index_or (unit_row n ∷ map or_empty es) f.1 [] else []) (pos t ∷ map pos w) ≡ (if b then entry (values_at es t w) f.1 else pos 0)
    go true = there f.1
    go false = refl

-- the place of a number among those of a turn
pub place_of : (fs : List Feature) (f : Feature) → In f fs → (j : ℕ) × ((g : Feature → ℤ) → entry (map g fs) j ≡ g f)
place_of [] f i = absurd i
place_of (x ∷ fs) f (inl e) = (0, λ g. ap g e)
place_of (x ∷ fs) f (inr i) = let rest = place_of fs f i in (suc rest.0, rest.1)

abbrev pub point_of : Transition → Pointed → Point
point_of τ p = record { of = τ; t = p.t; w = p.w }

module _ (fs : List Feature) (f : Feature) (j : ℕ) (at : (g : Feature → ℤ) → entry (map g fs) j ≡ g f) where
  pub fall_value : (least : ℕ) (τ : Transition) (p : Pointed) → p.target ≡ fall_target fs least τ → feature_value j p ≡ gain f (point_of τ p)
  fall_value least τ p e =
      let vs = pos p.t ∷ map pos p.w in
      let rows = λ (x : Feature). added (head_row τ x) (map neg_ℤ (call_row τ x)) in
      let own : feature_value j p ≡ entry (map (λ r. dot r vs) (map rows fs)) j = ap (λ (g : Target). entry (map (λ r. dot r vs) g.features) j) e in
      let twice = ap (λ xs. entry xs j) (map_twice (λ r. dot r vs) rows fs) in
      let there = at (λ x. dot (rows x) vs) in
      let split = dot_added (head_row τ f) (map neg_ℤ (call_row τ f)) vs in
      let turned = dot_minus (call_row τ f) vs in
      let head = share_value τ.vars τ.head τ.head_columns f p.t p.w in
      let call = share_value τ.vars τ.call τ.call_columns f p.t p.w in
      own ∙ twice ∙ there ∙ omega (arith, ints, split, turned, head, call)

  pub level_value : (τ : Transition) (p : Pointed) → p.target ≡ level_target fs τ → feature_value j p ≡ head_share τ p.t p.w f
  level_value τ p e =
      let vs = pos p.t ∷ map pos p.w in
      let own : feature_value j p ≡ entry (map (λ r. dot r vs) (map (head_row τ) fs)) j = ap (λ (g : Target). entry (map (λ r. dot r vs) g.features) j) e in
      let twice = ap (λ xs. entry xs j) (map_twice (λ r. dot r vs) (head_row τ) fs) in
      own ∙ twice ∙ at (λ x. dot (head_row τ x) vs) ∙ share_value τ.vars τ.head τ.head_columns f p.t p.w

  others_value : (τs : List Transition) (ps : List Pointed) → map (λ (p : Pointed). p.target) ps ≡ targets fs τs [] → feature_sum j ps ≡ gains f (points_with τs ps)
  others_value [] [] e = refl
  others_value [] (p ∷ ps) e = absurd (cc)
  others_value (τ ∷ τs) [] e = absurd (cc)
  others_value (τ ∷ τs) (p ∷ ps) e =
      let here = fall_value 0 τ p (cc) in
      let rest = others_value τs ps (cc) in
      λ i. here i +ℤ rest i

-- ---- the points of a refutation
pub targets_are : (gs : List Target) (vs : List ℕ) → length vs ≡ number_count gs → map (λ (p : Pointed). p.target) (pointed gs vs) ≡ gs
targets_are [] vs l = refl
targets_are (g ∷ gs) [] l = absurd (omega arith)
targets_are (g ∷ gs) (t ∷ vs) l = ap (λ xs. g ∷ xs) (targets_are gs (drop g.vars vs) (dropped g.vars vs (number_count gs) (omega arith)))

pub at_of : (τ : Transition) (p : Pointed) → p.target.vars ≡ τ.vars → p.target.rows ≡ τ.rows → IsPointed p → IsAt τ p.t p.w
at_of τ p ev er is = (is.0 ∙ ev, subst (λ (rows : List (List ℤ)). AllHold rows p.t p.w) er is.1)

no_least : (fs : List Feature) (τs : List Transition) (ps : List Pointed) → map (λ (p : Pointed). p.target) ps ≡ targets fs τs [] → least_sum ps ≡ 0
no_least fs [] [] e = refl
no_least fs [] (p ∷ ps) e = absurd (cc)
no_least fs (τ ∷ τs) [] e = absurd (cc)
no_least fs (τ ∷ τs) (p ∷ ps) e =
    let same : p.target ≡ fall_target fs 0 τ = cc in
    let none : p.target.least * p.t ≡ 0 * p.t = ap (λ (g : Target). g.least * p.t) same in
    let rest = no_least fs τs ps (cc) in
    omega (arith, none, rest)

first_is : (first : Transition) (others : List Transition) (ps : List Pointed) → (group_with first others ps).first.of ≡ first
first_is first others [] = refl
first_is first others (p ∷ []) = refl
first_is first others (p ∷ (h ∷ ps)) = refl

module _ (fs : List Feature) (test : Feature → Bool) (τs : List Transition) (gs : List Group)
    (covers : (τ : Transition) → In τ τs → SomeOf (λ (h : Group). h.first.of ≡ τ) gs)
    (picked : (f : Feature) → test f ≡ true → In f fs ⊎ SomeOf (λ (h : Group). Lacks h.first.of f) gs) where
  others_are : (others : List Transition) (ps : List Pointed) → map (λ (p : Pointed). p.target) ps ≡ targets fs others [] → AllByRecursion (λ (τ : Transition). In τ τs) others
      → AllByRecursion IsPointed ps → AllByRecursion (λ (p : Point). IsAt p.of p.t p.w × SomeOf (λ (h : Group). h.first.of ≡ p.of) gs) (points_with others ps)
  others_are [] ps e inside is = tt
  others_are (τ ∷ others) [] e inside is = tt
  others_are (τ ∷ others) (p ∷ ps) e inside is =
      let same : p.target ≡ fall_target fs 0 τ = cc in
      ((at_of τ p (ap (λ (g : Target). g.vars) same) (ap (λ (g : Target). g.rows) same) is.0, covers τ inside.0), others_are others ps (cc) inside.1 is.1)

  -- a refuted turn is a group
  is_group : (first : Transition) (others : List Transition) (ps : List Pointed) → map (λ (p : Pointed). p.target) ps ≡ targets fs (first ∷ others) (true ∷ [])
      → AllByRecursion (λ (τ : Transition). In τ τs) others → IsBalanced ps → IsGroup test gs (group_with first others ps)
  is_group first others [] e inside is = absurd (cc)
  is_group first others (p ∷ []) e inside is = absurd (cc)
  is_group first others (p ∷ (h ∷ ps)) e inside is =
      let own : p.target ≡ fall_target fs 1 first = cc in
      let level : h.target ≡ level_target fs first = cc in
      let rest : map (λ (p : Pointed). p.target) ps ≡ targets fs others [] = cc in
      let own_least : p.target.least * p.t ≡ 1 * p.t = ap (λ (g : Target). g.least * p.t) own in
      let level_least : h.target.least * h.t ≡ 0 * h.t = ap (λ (g : Target). g.least * h.t) level in
      let rest_least = no_least fs others ps rest in
      let some = is.some in
      record {
        some = omega (arith, some, own_least, level_least, rest_least);
        here = at_of first p (ap (λ (g : Target). g.vars) own) (ap (λ (g : Target). g.rows) own) is.points.0;
        others = others_are others ps rest inside is.points.1.1;
        floor = at_of first h (ap (λ (g : Target). g.vars) level) (ap (λ (g : Target). g.rows) level) is.points.1.0;
        balanced = λ f t. go f own level rest (picked f t);
      }
    where
      go : (f : Feature) → p.target ≡ fall_target fs 1 first → h.target ≡ level_target fs first → map (λ (p : Pointed). p.target) ps ≡ targets fs others []
          → In f fs ⊎ SomeOf (λ (h : Group). Lacks h.first.of f) gs
          → SomeOf (λ (h : Group). Lacks h.first.of f) gs ⊎ (group_sum (group_with first others (p ∷ (h ∷ ps))) f ≡ pos 0)
      go f own level rest (inr lack) = inl lack
      go f own level rest (inl inside) =
          let place = place_of fs f inside in
          let j = place.0 in
          let a = fall_value fs f j place.1 1 first p own in
          let b = level_value fs f j place.1 first h level in
          let c = others_value fs f j place.1 others ps rest in
          let none = is.features j in
          inr (omega (arith, ints, a, b, c, none))

-- ---- all groups
some_mapped : {X Y : Type 0} (g : X → Y) (P : Y → Type 0) (xs : List X) → SomeOf (λ x. P (g x)) xs → SomeOf P (map g xs)
some_mapped g P [] s = absurd s
some_mapped g P (x ∷ xs) (inl p) = inl p
some_mapped g P (x ∷ xs) (inr s) = inr (some_mapped g P xs s)

some_other : {X : Type 0} (P Q : X → Type 0) → ((x : X) → P x → Q x) → (xs : List X) → SomeOf P xs → SomeOf Q xs
some_other P Q h [] s = absurd s
some_other P Q h (x ∷ xs) (inl p) = inl (h x p)
some_other P Q h (x ∷ xs) (inr s) = inr (some_other P Q h xs s)

pub all_there : {X : Type 0} (P : X → Type 0) (xs : List X) → AllByRecursion P xs → (x : X) → In x xs → P x
all_there P [] h x i = absurd i
all_there P (y ∷ xs) h x (inl e) = subst P e h.0
all_there P (y ∷ xs) h x (inr i) = all_there P xs h.1 x i

-- some transition of the list lacks the number, and each one of it is in the set
pub some_in : (f : Feature) (τs : List Transition) → SomeOf (λ (τ : Transition). Lacks τ f) τs → (τ : Transition) × In τ τs × Lacks τ f
some_in f [] s = absurd s
some_in f (x ∷ τs) (inl l) = (x, inl refl, l)
some_in f (x ∷ τs) (inr s) = let r = some_in f τs s in (r.0, inr r.1, r.2)

module _ (width : ℕ → ℕ) (fs : List Feature) (test : Feature → Bool) (τs : List Transition) (has : AllByRecursion (HasWidths width) τs) where
  abbrev all_groups : List RefutedTurn → List Group
  all_groups rs = map (group_of fs) rs

  group_first : (r : RefutedTurn) → (group_of fs r).first.of ≡ r.first
  group_first r = first_is r.first r.others (pointed (refuted_targets fs r) r.multipliers)

  widths_of : (r : RefutedTurn) → IsRefutedTurn fs τs r → AllByRecursion (HasWidths width) (r.first ∷ r.others)
  widths_of r is = (all_there (HasWidths width) τs has r.first is.first, each r.others is.others)
    where
      each : (xs : List Transition) → AllByRecursion (λ (τ : Transition). In τ τs) xs → AllByRecursion (HasWidths width) xs
      each [] h = tt
      each (x ∷ xs) h = (all_there (HasWidths width) τs has x h.0, each xs h.1)

  all_of : (rs : List RefutedTurn) → AllByRecursion (IsRefutedTurn fs τs) rs → AllByRecursion (λ (g : Group). In g.first.of τs) (all_groups rs)
  all_of [] is = tt
  all_of (r ∷ rs) is = (subst (λ (τ : Transition). In τ τs) (sym (group_first r)) is.0.first, all_of rs is.1)

  module _ (whole : List RefutedTurn) (cover : AllByRecursion (λ (τ : Transition). SomeOf (λ (r : RefutedTurn). r.first ≡ τ) whole) τs)
      (picked : (f : Feature) → test f ≡ true → In f fs ⊎ SomeOf (λ (τ : Transition). Lacks τ f) τs) where
    covers : (τ : Transition) → In τ τs → SomeOf (λ (h : Group). h.first.of ≡ τ) (all_groups whole)
    covers τ i = some_mapped (group_of fs) (λ (h : Group). h.first.of ≡ τ) whole
        (some_other (λ (r : RefutedTurn). r.first ≡ τ) (λ r. (group_of fs r).first.of ≡ τ) (λ r e. group_first r ∙ e) whole
        (all_there (λ (τ : Transition). SomeOf (λ (r : RefutedTurn). r.first ≡ τ) whole) τs cover τ i))

    lacking : (f : Feature) → SomeOf (λ (τ : Transition). Lacks τ f) τs → SomeOf (λ (h : Group). Lacks h.first.of f) (all_groups whole)
    lacking f s =
        let found = some_in f τs s in
        some_other (λ (h : Group). h.first.of ≡ found.0) (λ (h : Group). Lacks h.first.of f) (λ h e. subst (λ (τ : Transition). Lacks τ f) (sym e) found.2) (all_groups whole) (covers found.0 found.1)

    picked_there : (f : Feature) → test f ≡ true → In f fs ⊎ SomeOf (λ (h : Group). Lacks h.first.of f) (all_groups whole)
    picked_there f t = go (picked f t)
      where
        go : In f fs ⊎ SomeOf (λ (τ : Transition). Lacks τ f) τs → In f fs ⊎ SomeOf (λ (h : Group). Lacks h.first.of f) (all_groups whole)
        go (inl i) = inl i
        go (inr s) = inr (lacking f s)

    all_are : (rs : List RefutedTurn) → AllByRecursion (IsRefutedTurn fs τs) rs → AllByRecursion (IsGroup test (all_groups whole)) (all_groups rs)
    all_are [] is = tt
    all_are (r ∷ rs) is =
        let gs = refuted_targets fs r in (
          is_group fs test τs (all_groups whole) covers picked_there r.first r.others (pointed gs r.multipliers) (targets_are gs r.multipliers is.0.long) is.0.others
              (refutations_balance (length fs) gs r.multipliers (all_features width fs (r.first ∷ r.others) (true ∷ []) (widths_of r is.0)) is.0.long is.0.refutes),
          all_are rs is.1,
        )

length_mapped : {X Y : Type 0} (g : X → Y) (xs : List X) → 1 ≤ length xs → 1 ≤ length (map g xs)
length_mapped g [] l = absurd (omega arith)
length_mapped g (x ∷ xs) l = omega arith

pub refuted_turns_stick : RefutedTurnsStick
refuted_turns_stick width fs test τs rs has some is cover picked = record {
  some = length_mapped (group_of fs) rs some;
  of = all_of width fs test τs has rs is;
  groups = all_are width fs test τs has rs cover picked rs is;
}
