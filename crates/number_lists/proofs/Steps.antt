-- What comes of a turn for the transitions that remain.
use Rattle.std.proofs.Common.{◌≡◌, ◌+◌, ◌<◌, ◌≤◌, slice_get, slice_set, ℕ, zero, suc, ℤ, pos, Bool, true, false, List, [], ◌∷◌, ◌++◌, map, drop, take, length, Option, Some, refl, ap, sym, subst, ◌∙◌, arith, append-nil}
use Rattle.std.specs.List.{AllByRecursion}
use Rattle.std.proofs.lemmas.List.{drop-map, length-map, take-map}
use Rattle.level_systems.specs.Subsequences.{AreOnce}
use Rattle.linear_rows.specs.Members.{In}
use Rattle.linear_rows.specs.Replacing.{row_fits}
use Rattle.termination_model.specs.columns.ColumnClaims.{Mapping}
use Rattle.termination_model.proofs.Lists.{append_assoc, map_push, mapped_place, one_element}
use Rattle.termination_model.proofs.Totals.{dropped, taken}
use Rattle.transitions.specs.StuckSets.{Feature, Group}
use Rattle.transitions.specs.Templates.{differences, row_count}
use Rattle.transitions.specs.Transitions.{Transition, fall, head_level}
use Rattle.transitions.specs.Turns.{AreShown, HasWidths, IsRefutedTurn, LacksNone, RefutedTurn, RowProved, group_of, mapping_of, targets}
use Rattle.number_turns.specs.Recalled.{recalled, spelled}
use Rattle.number_turns.specs.Turning.{IsRefuted}
use Rattle.number_turns.specs.declared.feature.Feature.{Feature as HeldFeature}
use Rattle.number_turns.specs.declared.found.Found.{Found}
use Rattle.number_turns.specs.declared.transition.Transition.{Transition as Held}
use Rattle.number_turns.proofs.Turnings.{refuted_is_turn}
use Rattle.number_lists.specs.Coursing.{AreRefuted, CannotLeave, IsAllMade, IsBlownAt, IsMadeAt, IsMappingOver, IsOneMade, IsSomeStep, IsStep, SomeRefuted, free, made_of, rest_of}
use Rattle.number_lists.specs.Features.{AreColumnsOnce}
use Rattle.number_lists.specs.FoundLists.{IsTurnBlown, all_marks}
use Rattle.number_lists.specs.Grouping.{group_at}
use Rattle.number_lists.specs.Lists.{AreGroupsOf, IsGroupOf, IsProvedBy}
use Rattle.number_lists.specs.Tracking.{AreShownBy, ShownBy, after_turn}
use Rattle.number_lists.specs.declared.course.Leaving.TheVariants.{One as LeaveOne}
use Rattle.number_lists.specs.declared.course.Made.{Made}
use Rattle.number_lists.specs.declared.course.Step.{Step}
use Rattle.number_lists.specs.declared.course.Step.TheVariants as step
use Rattle.number_lists.specs.declared.group.Group.{Group as HeldGroup}
use Rattle.number_lists.proofs.Grouped.{group_held}
use Rattle.number_lists.proofs.Lacking.{free_among, free_lacks, free_once, free_sole}
use Rattle.number_lists.proofs.Tracked.{all_unmarked, by_in, by_places_map, here_left, in_less, left_gone, left_here, place_in, set_long, unmarked_map}

-- ---- one transition after another
all_push : {X : Type 0} (P : X → Type 0) (xs : List X) (x : X) → AllByRecursion P xs → P x → AllByRecursion P (xs ++ x ∷ [])
all_push P [] x h p = (p, tt)
all_push P (y ∷ xs) x h p = (h.0, all_push P xs x h.1 p)

groups_push : (all : List Transition) (hs : List HeldGroup) (ks : List Group) (h : HeldGroup) (k : Group) → AreGroupsOf all hs ks → IsGroupOf all h k → AreGroupsOf all (hs ++ h ∷ []) (ks ++ k ∷ [])
groups_push all [] [] h k are is = (is, tt)
groups_push all [] (g ∷ ks) h k are is = absurd are
groups_push all (x ∷ hs) [] h k are is = absurd are
groups_push all (x ∷ hs) (g ∷ ks) h k are is = (are.0, groups_push all hs ks h k are.1 is)

rest_here : (τs : List Held) (gs : List Bool) (i : ℕ) (τ : Held) → slice_get τs i ≡ Some τ → slice_get gs i ≡ Some false → rest_of (drop i τs) (drop i gs) ≡ recalled τ ∷ rest_of (drop (i + 1) τs) (drop (i + 1) gs)
rest_here τs gs i τ at here =
    sym (unmarked_map recalled (drop i τs) (drop i gs)) ∙ ap (map recalled) (left_here τs gs i τ at here) ∙ ap (λ (s : List Transition). recalled τ ∷ s) (unmarked_map recalled (drop (i + 1) τs) (drop (i + 1) gs))

rest_gone : (τs : List Held) (gs : List Bool) (i : ℕ) → i < length τs → slice_get gs i ≡ Some true → rest_of (drop i τs) (drop i gs) ≡ rest_of (drop (i + 1) τs) (drop (i + 1) gs)
rest_gone τs gs i lt gone = sym (unmarked_map recalled (drop i τs) (drop i gs)) ∙ ap (map recalled) (left_gone τs gs i lt gone) ∙ unmarked_map recalled (drop (i + 1) τs) (drop (i + 1) gs)

drop_past : {X : Type 0} (xs : List X) (i : ℕ) → length xs ≤ i → drop i xs ≡ []
drop_past [] zero l = refl
drop_past [] (suc i) l = refl
drop_past (x ∷ xs) zero l = absurd (omega (arith, l))
drop_past (x ∷ xs) (suc i) l = drop_past xs i (omega (arith, l))

-- ---- what multipliers show
proved : (rows : List (List ℤ)) (row : Option (List ℤ)) (ms : List ℕ) → length rows ≤ length ms → RowProved rows (take (length rows) ms) row → IsProvedBy rows (take (length rows) (map pos ms)) row
proved rows row ms room p = (take (length rows) ms, take-map pos (length rows) ms, taken (length rows) ms room, p)

pub shown_all : (fs : List Feature) (l : Mapping) (τs : List Transition) (ms : List ℕ) → length ms ≡ row_count (targets fs τs (all_marks τs)) → AreShown l τs (all_marks τs) ms → AreShownBy true l τs (map pos ms)
shown_all fs l [] ms long h = tt
shown_all fs l (τ ∷ τs) ms long (h, (k, rest)) =
    let n = length τ.rows in
    let r = row_count (targets fs τs (all_marks τs)) in
    let once : drop n (map pos ms) ≡ map pos (drop n ms) = drop-map pos n ms in
    let less : length (drop n ms) ≡ n + r = dropped n ms (n + r) long in
    let twice : drop n (drop n (map pos ms)) ≡ map pos (drop n (drop n ms)) = ap (drop n) once ∙ drop-map pos n (drop n ms) in
    let later = shown_all fs l τs (drop n (drop n ms)) (dropped n (drop n ms) r less) rest in (
      (
        proved τ.rows (fall τ 1 l) ms (omega (arith, long)) h,
        subst (λ (zs : List ℤ). IsProvedBy τ.rows (take n zs) (head_level τ l)) (sym once) (proved τ.rows (head_level τ l) (drop n ms) (omega (arith, less)) k),
      ),
      subst (AreShownBy true l τs) (sym twice) later,
    )

pub shown_kept : (fs : List Feature) (l : Mapping) (τs : List Transition) (ms : List ℕ) → length ms ≡ row_count (targets fs τs []) → AreShown l τs [] ms → AreShownBy false l τs (map pos ms)
shown_kept fs l [] ms long h = tt
shown_kept fs l (τ ∷ τs) ms long h =
    let n = length τ.rows in
    let r = row_count (targets fs τs []) in
    let once : drop n (map pos ms) ≡ map pos (drop n ms) = drop-map pos n ms in
    let later = shown_kept fs l τs (drop n ms) (dropped n ms r long) h.1 in
    (proved τ.rows (fall τ 0 l) ms (omega (arith, long)) h.0, subst (AreShownBy false l τs) (sym once) later)

shown_first : (fs : List Feature) (l : Mapping) (τ : Transition) (τs : List Transition) (ms : List ℕ) → length ms ≡ row_count (targets fs (τ ∷ τs) (true ∷ [])) → AreShown l (τ ∷ τs) (true ∷ []) ms
    → ShownBy true l τ (map pos ms) × AreShownBy false l τs (after_turn true (length τ.rows) (map pos ms))
shown_first fs l τ τs ms long (h, (k, rest)) =
    let n = length τ.rows in
    let r = row_count (targets fs τs []) in
    let once : drop n (map pos ms) ≡ map pos (drop n ms) = drop-map pos n ms in
    let less : length (drop n ms) ≡ n + r = dropped n ms (n + r) long in
    let twice : drop n (drop n (map pos ms)) ≡ map pos (drop n (drop n ms)) = ap (drop n) once ∙ drop-map pos n (drop n ms) in
    let later = shown_kept fs l τs (drop n (drop n ms)) (dropped n (drop n ms) r less) rest in (
      (
        proved τ.rows (fall τ 1 l) ms (omega (arith, long)) h,
        subst (λ (zs : List ℤ). IsProvedBy τ.rows (take n zs) (head_level τ l)) (sym once) (proved τ.rows (head_level τ l) (drop n ms) (omega (arith, less)) k),
      ),
      subst (AreShownBy false l τs) (sym twice) later,
    )

differences_long : (cs ds : List ℕ) (n : ℕ) → length cs ≡ n → length ds ≡ n → length (differences cs ds) ≡ n
differences_long [] ds n e f = e
differences_long (c ∷ cs) [] n e f = absurd (omega (arith, e, f))
differences_long (c ∷ cs) (d ∷ ds) zero e f = absurd (omega (arith, e))
differences_long (c ∷ cs) (d ∷ ds) (suc n) e f = ap suc (differences_long cs ds n (omega (arith, e)) (omega (arith, f)))

module _ (features : List HeldFeature) (τs : List Held) (gs : List Bool) where
  abbrev fs : List Feature
  fs = map spelled features

  abbrev rest : List Transition
  rest = rest_of τs gs

  -- ---- turns that are refuted or blown
  pub refuted_more : (i : ℕ) (τ : Held) (ms : List ℤ) (hs : List HeldGroup) → length gs ≡ length τs → slice_get τs i ≡ Some τ → slice_get gs i ≡ Some false
      → IsRefuted fs (recalled τ ∷ rest_of τs (slice_set gs i true)) (true ∷ []) ms → SomeRefuted fs τs gs i hs
      → SomeRefuted fs τs gs (i + 1) (hs ++ group_at i τ τs (slice_set gs i true) ms ∷ [])
  refuted_more i τ ms hs long at here refuted before =
      let others = rest_of τs (slice_set gs i true) in
      let turn : RefutedTurn = record { first = recalled τ; others = others; multipliers = refuted.multipliers } in
      let in_rest = here_left (map recalled τs) gs i (recalled τ) (mapped_place recalled τs i τ at) here in
      let is : IsRefutedTurn fs rest turn = refuted_is_turn fs rest (recalled τ) others ms refuted in_rest (by_in (λ (σ : Transition). In σ rest) others (λ σ h. in_less (map recalled τs) gs i σ h)) in
      let held : IsGroupOf (map recalled τs) (group_at i τ τs (slice_set gs i true) ms) (group_of fs turn) =
      subst (λ (zs : List ℤ). IsGroupOf (map recalled τs) (group_at i τ τs (slice_set gs i true) zs) (group_of fs turn)) (sym refuted.multipliers_are)
      (group_held fs (map recalled τs) i τ τs (slice_set gs i true) refuted.multipliers (set_long gs i true ∙ long) refl at refuted.long) in
      let turns = before.are.turns in
      let later = rest_of (drop (i + 1) τs) (drop (i + 1) gs) in
      record {
        these = before.these ++ recalled τ ∷ [];
        are = record {
          turns = turns ++ turn ∷ [];
          are = all_push (IsRefutedTurn fs rest) turns turn before.are.are is;
          firsts = map_push (λ (r : RefutedTurn). r.first) turns turn ∙ ap (λ (s : List Transition). s ++ recalled τ ∷ []) before.are.firsts;
          groups = subst (AreGroupsOf (map recalled τs) (hs ++ group_at i τ τs (slice_set gs i true) ms ∷ [])) (sym (map_push (group_of fs) turns turn))
              (groups_push (map recalled τs) hs (map (group_of fs) turns) (group_at i τ τs (slice_set gs i true) ms) (group_of fs turn) before.are.groups held);
        };
        seen = append_assoc before.these (recalled τ ∷ []) later ∙ ap (λ (s : List Transition). before.these ++ s) (sym (rest_here τs gs i τ at here)) ∙ before.seen;
      }

  pub blown_here : (i : ℕ) (τ : Held) → slice_get τs i ≡ Some τ → slice_get gs i ≡ Some false → IsTurnBlown fs (recalled τ ∷ rest_of τs (slice_set gs i true)) (true ∷ []) → IsBlownAt fs rest
  blown_here i τ at here blown =
      let p = place_in (map recalled τs) gs i (recalled τ) (mapped_place recalled τs i τ at) here in
      record {
        place = p.0;
        first = recalled τ;
        marked = p.1;
        blown = subst (λ (s : List Transition). IsTurnBlown fs (recalled τ ∷ s) (true ∷ [])) p.2 blown;
      }

  pub refuted_skip : (i : ℕ) (hs : List HeldGroup) → i < length τs → slice_get gs i ≡ Some true → SomeRefuted fs τs gs i hs → SomeRefuted fs τs gs (i + 1) hs
  refuted_skip i hs lt gone before = record {
    these = before.these;
    are = before.are;
    seen = ap (λ (s : List Transition). before.these ++ s) (sym (rest_gone τs gs i lt gone)) ∙ before.seen;
  }

  pub refuted_first : SomeRefuted fs τs gs 0 []
  refuted_first = record { these = []; are = record { turns = []; are = tt; firsts = refl; groups = tt }; seen = refl }

  pub refuted_all : (i : ℕ) (hs : List HeldGroup) → length τs ≤ i → SomeRefuted fs τs gs i hs → AreRefuted fs τs rest rest hs
  refuted_all i hs past before =
      let none : rest_of (drop i τs) (drop i gs) ≡ [] = ap (λ (s : List Held). rest_of s (drop i gs)) (drop_past τs i past) in
      let same : before.these ≡ rest = sym (append-nil before.these) ∙ ap (λ (s : List Transition). before.these ++ s) (sym none) ∙ before.seen in
      subst (λ (s : List Transition). AreRefuted fs τs rest s hs) same before.are

  -- ---- turns that are made
  module _ (cs : List Feature) (had : fs ≡ free cs rest) where
    over : (f : Found) (n : ℕ) → length f.numbers ≡ length fs → row_fits f.numbers ≡ true → IsMappingOver cs (record { features = features; numbers = f.numbers })
    over f n long fit = record {
      among = λ g h. free_among cs rest g (subst (In g) had h);
      long = sym (length-map features spelled) ∙ sym long;
      fit = fit;
      once = λ h. subst AreColumnsOnce (sym had) (free_once cs rest h);
      sole = λ h. subst AreOnce (sym had) (free_sole cs rest h);
    }

    lacks_none : (σ : Transition) → In σ rest → LacksNone fs σ
    lacks_none σ h g i lack = free_lacks cs rest σ h g (subst (In g) had i) lack

    pub all_made : (m : Made) → IsAllMade features rest (Some m) → IsStep cs τs gs (step.Made m)
    all_made m (f, found, is) = subst (λ (k : Made). IsStep cs τs gs (step.Made k)) (sym is) (
      record {
        over = over f 0 (ap length found.at.numbers_are ∙ differences_long found.at.more found.at.less (length fs) found.at.more_long found.at.less_long) found.fit;
        here = tt;
        shown = λ width has.
            subst (AreShownBy true (mapping_of width fs f.numbers) rest) (sym found.at.multipliers_are)
            (shown_all fs (mapping_of width fs f.numbers) rest found.at.multipliers found.at.long (found.shown width (all_unmarked (HasWidths width) (map recalled τs) gs has) (by_in (LacksNone fs) rest lacks_none)));
      },
      tt,
    )

    pub none_made : CannotLeave fs rest → CannotLeave (free cs rest) rest
    none_made h = subst (λ (s : List Feature). CannotLeave s rest) had h

    one_made : (m : Made) → CannotLeave fs rest → IsOneMade features τs gs m → IsStep cs τs gs (step.Made m)
    one_made m fails made =
        let f = made.found in
        let i = made.place in
        let τ = made.first in
        let found = made.is in
        let others = rest_of τs (slice_set gs i true) in
        let own : In (recalled τ) rest = here_left (map recalled τs) gs i (recalled τ) (mapped_place recalled τs i τ made.there) made.here in
        let rows : length (recalled τ).rows ≡ length τ.rows.list = length-map τ.rows.list _ in
        subst (λ (k : Made). IsStep cs τs gs (step.Made k)) (sym made.made) (
          record {
            over = over f 0 (ap length found.at.numbers_are ∙ differences_long found.at.more found.at.less (length fs) found.at.more_long found.at.less_long) found.fit;
            here = (τ, made.there, made.here);
            shown = λ width has σ at.
                let l = mapping_of width fs f.numbers in
                let same : τ ≡ σ = one_element τs i τ σ made.there at in
                let all = found.shown width (by_places_map (HasWidths width) recalled τs i τ has made.there, all_unmarked (HasWidths width) (map recalled τs) (slice_set gs i true) has)
                (lacks_none (recalled τ) own, by_in (LacksNone fs) others (λ σ h. lacks_none σ (in_less (map recalled τs) gs i σ h))) in
                let both = shown_first fs l (recalled τ) others found.at.multipliers found.at.long all in
                let out : Made = made_of features (LeaveOne i) f in
                subst (λ (ρ : Held). IsMadeAt width τs gs i ρ out) same (record {
                  shown = subst (ShownBy true l (recalled τ)) (sym found.at.multipliers_are) both.0;
                  others = subst (λ (n : ℕ). AreShownBy false l others (after_turn true n f.multipliers)) rows
                      (subst (λ (zs : List ℤ). AreShownBy false l others (after_turn true (length (recalled τ).rows) zs)) (sym found.at.multipliers_are) both.1);
                });
          },
          none_made fails,
        )

    pub some_step : (s : Step) → CannotLeave fs rest → IsSomeStep features τs gs s → IsStep cs τs gs s
    some_step (step.Made m) fails h = one_made m fails h
    some_step (step.Refuted hs) fails h = (subst (λ (x : List Feature). AreRefuted x τs rest rest hs) had h, none_made fails)
    some_step step.Blown fails h = (subst (λ (x : List Feature). IsBlownAt x rest) had h, none_made fails)
