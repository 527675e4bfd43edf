-- What is found of lists, case by case.
use Rattle.std.proofs.Common.{◌≡◌, ◌↔◌, ◌⊎◌, inl, inr, ℕ, suc, ◌<◌, Bool, true, false, IsTrue, List, [], ◌∷◌, ◌++◌, map, None, Some, refl, sym, subst, arith}
use Rattle.transitions.specs.Transitions.{Transition}
use Rattle.number_lists.specs.declared.position.Position.{Position}
use Rattle.number_lists.specs.FoundLists.{AreFoundLists, HasList, IsStuckSetOf, MayBeMissing, count, full, support_of_list}
use Rattle.number_lists.specs.Walked.{IsAllWalked}
use Rattle.number_lists.specs.declared.group.Group.{Group}
use Rattle.number_lists.specs.declared.walking.Walked.{Walked}
use Rattle.linear_rows.specs.Members.{In}
use Rattle.linear_rows.proofs.Members.{in-left, of-append}
use Rattle.termination_model.specs.grounds.Minimal.{IsAbove, IsSet}
use Rattle.termination_model.specs.grounds.Modes.{chosen_up_to, is_part}
use Rattle.termination_model.proofs.Sets.{up_to_set}
use Rattle.level_systems.specs.Subsequences.{AreOnce, IsSubsequence}
use Rattle.level_dual.specs.Walked.{IsCompleted}
use Rattle.level_dual.proofs.FoundCases.{all_full, full_is_set, part_full}
use Rattle.level_dual.proofs.Subsequences.{in_whole}
use Rattle.level_dual.proofs.WalkSteps.{walk_steps}
use Rattle.number_lists.specs.Found.{IsVoid}
use Rattle.number_lists.specs.declared.found_lists.FoundLists.{FoundLists}
use Rattle.number_lists.specs.declared.measure_list.MeasureList.{MeasureList}
use Rattle.number_lists.proofs.ListSupports.{list_sets}

true_of : (b : Bool) → IsTrue b → b ≡ true
true_of true t = refl
true_of false t = cc

above_more : (sets more : List (List ℕ)) (s : List ℕ) → IsAbove sets s → IsAbove (sets ++ more) s
above_more sets more s h = (h.0, in-left sets more h.0 h.1, h.2)

both : (b : Bool) → b ≡ true → b ≡ false → ⊥
both b e f = cc

module _ (members : List ℕ) (positions : List Position) (τs : List Transition) (width : ℕ → ℕ) where
  abbrev all : List ℕ
  all = full members positions τs

  abbrev many : ℕ
  many = count members positions τs

  abbrev given_up_at : List ℕ → Type 0
  given_up_at = MayBeMissing members positions τs

  abbrev has : List ℕ → Type 0
  has = HasList members positions τs

  abbrev are_found : FoundLists → Type 0
  are_found = AreFoundLists members positions τs width

  full_sets : (t : List ℕ) → In t (all ∷ []) → IsSet 1 (suc many) t
  full_sets t i = elim i [ inl e ↦ subst (IsSet 1 (suc many)) e (full_is_set many) | inr none ↦ absurd none ]

  -- each support is part of the set of all positions
  pub none_at_all : IsVoid members positions τs width all → (s : List ℕ) → has s → ⊥
  none_at_all void s k = void s (part_full many s (list_sets members positions τs s k)) k

  -- no list descends, but the stuck set has a number that does not fit; or the search at all positions is given up in a
  -- large component
  pub wide_lists : (b : Bool) → IsTrue b ↔ (12 < many) → (b ≡ true) ⊎ ((s : List ℕ) → has s → ⊥) → given_up_at all → are_found (record { lists = []; stuck = None; blown = all ∷ []; large = b })
  wide_lists b large why given = record {
    large = large;
    lists = tt;
    small = λ few. record { minimal = λ s i. absurd i; within = λ s h. absurd (elim why [ inl same ↦ both b same few | inr none ↦ none s h ]); order = tt; single = tt; given_up = λ s i. given_one s i };
    more = λ _. record { few = omega arith; single = tt; spare = tt; decided = inr (inr (inl refl)); given_up = λ s i. given_one s i; left_out = λ s i. absurd i };
    stuck = ((λ h. absurd (h refl)), λ k. absurd (k.1 (inl refl)));
    shown = λ r e. cc;
    sets = full_sets;
    once = ((λ i. i), tt);
    apart = λ s i above. absurd above.1;
  }
    where
      given_one : (s : List ℕ) → In s (all ∷ []) → given_up_at s
      given_one s i = elim i [ inl e ↦ subst given_up_at e given | inr none ↦ absurd none ]

  pub stuck_lists : (b : Bool) → IsTrue b ↔ (12 < many) → ((s : List ℕ) → has s → ⊥) → (r : List Group) → IsStuckSetOf members positions τs r → are_found (record { lists = []; stuck = Some r; blown = []; large = b })
  stuck_lists b large none r is = record {
    large = large;
    lists = tt;
    small = λ _. record { minimal = λ s i. absurd i; within = λ s h. absurd (none s h); order = tt; single = tt; given_up = λ s i. absurd i };
    more = λ _. record { few = omega arith; single = tt; spare = tt; decided = inr (inl (λ e. cc)); given_up = λ s i. absurd i; left_out = λ s i. absurd i };
    stuck = ((λ h. (none, λ i. i)), λ k e. cc);
    shown = λ q e. let same : r ≡ q = cc in subst (IsStuckSetOf members positions τs) same is;
    sets = λ s i. absurd i;
    once = tt;
    apart = λ s i. absurd i;
  }

  -- the walk's sets, and perhaps one that was given up before
  walked_lists : IsTrue false ↔ (12 < many) → (w : Walked) → IsAllWalked members positions τs width w → (more : List (List ℕ)) → ((t : List ℕ) → In t more → all ≡ t) → ((t : List ℕ) → In t more → given_up_at t) → ((t : List ℕ) → In t more → w.lists ≡ [])
      → AreOnce (w.blown ++ more) → (((s : List ℕ) → has s → ⊥) → (In all (w.blown ++ more) → ⊥) → ⊥) → are_found (record { lists = w.lists; stuck = None; blown = w.blown ++ more; large = false })
  walked_lists large w h more fulls given empty once why = record {
    large = large;
    lists = h.lists;
    small = λ _. record {
      minimal = λ s i. h.walked.minimal s (subst (In s) h.supports i);
      within = λ s k. elim ((walk_steps many has (list_sets members positions τs)).within w.found w.blown h.walked s k) [
        | inl a ↦ inl (subst (λ (ss : List (List ℕ)). IsAbove ss s) (sym h.supports) a)
        | inr b ↦ inr (above_more w.blown more s b)
      ];
      order = subst (λ (ss : List (List ℕ)). IsSubsequence ss (chosen_up_to many many)) (sym h.supports) h.found_order;
      single = h.single;
      given_up = λ s i. elim (of-append w.blown more s i) [ inl old ↦ h.given_up s old | inr new ↦ given s new ];
    };
    more = λ e. cc;
    stuck = ((λ k. absurd (k refl)), λ k. absurd (why k.0 k.1));
    shown = λ r e. cc;
    sets = λ s i. elim (of-append w.blown more s i) [ inl old ↦ up_to_set many many s (in_whole w.blown (chosen_up_to many many) s h.blown_order old) | inr new ↦ subst (IsSet 1 (suc many)) (fulls s new) (full_is_set many) ];
    once = once;
    apart = λ s i. elim (of-append w.blown more s i) [
      | inl old ↦ subst (λ (ss : List (List ℕ)). IsAbove ss s → ⊥) (sym h.supports) (h.apart s old)
      | inr new ↦ subst (λ (ls : List MeasureList). IsAbove (map (support_of_list members positions τs width) ls) s → ⊥) (sym (empty s new)) (λ above. absurd above.1)
    ];
  }

  -- where a support was found, not all is excluded
  found_had : (w : Walked) → IsAllWalked members positions τs width w → (l : MeasureList) (ls : List MeasureList) → w.lists ≡ l ∷ ls → ((s : List ℕ) → has s → ⊥) → ⊥
  found_had w h l ls e none =
      let s = support_of_list members positions τs width l in
      let there : In s w.found = subst (In s) h.supports (subst (λ (xs : List MeasureList). In s (map (support_of_list members positions τs width) xs)) (sym e) (inl refl)) in
      let minimal = h.walked.minimal s there in
      none s minimal.had

  -- the walk's sets, with all positions among them where these were given up and nothing was found
  pub completed_lists : IsTrue false ↔ (12 < many) → (w : Walked) → IsAllWalked members positions τs width w
      → (given_up none : Bool) → (given_up ≡ true → given_up_at all) → (given_up ≡ false → ((s : List ℕ) → has s → ⊥) → ⊥) → IsTrue none ↔ (w.lists ≡ [])
      → (blown : List (List ℕ)) → IsCompleted given_up none all w.blown blown → are_found (record { lists = w.lists; stuck = None; blown = blown; large = false })
  completed_lists large w h given_up none given undone empty blown done =
      let found = walked_lists large w h done.more (λ t i. (done.full_only t i).1) (λ t i. let f = done.full_only t i in subst given_up_at f.1 (given f.0)) (λ t i. empty.0 (done.full_only t i).2) (subst AreOnce done.is (done.once h.once))
      (λ none_had out. why none_had (λ i. out (subst (In all) done.is i))) in
      subst (λ (b : List (List ℕ)). are_found (record { lists = w.lists; stuck = None; blown = b; large = false })) (sym done.is) found
    where
      is_full : (t : List ℕ) → In t blown → is_part all t ≡ true → all ≡ t
      is_full t i e = elim (of-append w.blown done.more t (subst (In t) done.is i)) [
        | inl old ↦ all_full many t (up_to_set many many t (in_whole w.blown (chosen_up_to many many) t h.blown_order old)) e
        | inr new ↦ (done.full_only t new).1
      ]

      there : given_up ≡ true → none ≡ true → In all blown
      there g n =
          let w = done.there g n in
          subst (λ (t : List ℕ). In t blown) (sym (is_full w.0 w.1 w.2)) w.1

      of_lists : (ls : List MeasureList) → w.lists ≡ ls → given_up ≡ true → ((s : List ℕ) → has s → ⊥) → (In all blown → ⊥) → ⊥
      of_lists [] e g none_had out = out (there g (true_of none (empty.1 e)))
      of_lists (l ∷ ls) e g none_had out = found_had w h l ls e none_had

      of_given : (b : Bool) → given_up ≡ b → ((s : List ℕ) → has s → ⊥) → (In all blown → ⊥) → ⊥
      of_given true e none_had out = of_lists w.lists refl e none_had out
      of_given false e none_had out = undone e none_had

      why : ((s : List ℕ) → has s → ⊥) → (In all blown → ⊥) → ⊥
      why none_had out = of_given given_up refl none_had out
