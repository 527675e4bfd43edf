-- What is found, case by case.
use Rattle.std.proofs.Common.{◌≡◌, ◌↔◌, ◌⊎◌, inl, inr, ℕ, zero, suc, ◌+◌, ◌<◌, ◌≤◌, ◌||◌, ℤ, Bool, true, false, IsTrue, List, [], ◌∷◌, ◌++◌, map, length, None, Some, refl, ap, sym, subst, arith}
use Rattle.std.specs.List.{list_any}
use Rattle.cti_terms.specs.Listing.{Listing}
use Rattle.cti_terms.specs.Tree.{Tree}
use Rattle.call_components.specs.Partition.{Partition}
use Rattle.linear_rows.specs.Members.{In}
use Rattle.linear_rows.specs.Step.{columns}
use Rattle.linear_rows.proofs.Members.{in-left, in-right, of-append}
use Rattle.number_tests.specs.declared.refutation.Refutation.{Refutation}
use Rattle.call_components.proofs.Lists.{all_map}
use Rattle.termination_model.specs.mappings.ComponentViews.{component_view, positions_in, HasSupportIn}
use Rattle.termination_model.specs.mappings.Excluding.{IsZeroOutside}
use Rattle.termination_model.specs.mappings.Refutation.{Decreases}
use Rattle.termination_model.specs.grounds.Minimal.{IsAbove, IsSet}
use Rattle.termination_model.specs.grounds.Modes.{chosen_up_to, is_part}
use Rattle.termination_model.proofs.Sets.{of_part, part_same, part_self, set_short, to_part, up_to_set}
use Rattle.level_dual.specs.Cases.{undecided}
use Rattle.level_systems.specs.Found.{IsBlownSet, IsFound, IsRefutationOf, count, full}
use Rattle.level_systems.specs.Mappings.{IsMappingOf, mapping_with, support_of}
use Rattle.level_systems.specs.Searched.{IsDecreasing}
use Rattle.level_systems.specs.Subsequences.{AreOnce, IsSubsequence}
use Rattle.level_dual.specs.Walked.{IsAllWalked, IsCompleted}
use Rattle.level_systems.specs.declared.found.Found.{Found}
use Rattle.level_systems.specs.declared.mapping.Mapping.{Mapping}
use Rattle.level_dual.specs.declared.walked.Walked.{Walked}
use Rattle.level_dual.proofs.Subsequences.{in_whole, once_push}
use Rattle.level_dual.proofs.WalkSteps.{walk_steps}

-- ---- the set of all numbers
full_set : (n lo : ℕ) → IsSet lo (lo + n) (columns lo n)
full_set zero lo = tt
full_set (suc n) lo =
    let more : suc lo + n ≡ lo + suc n = omega arith in
    (omega arith, omega arith, subst (λ (k : ℕ). IsSet (suc lo) k (columns (suc lo) n)) more (full_set n (suc lo)))

pub full_is_set : (n : ℕ) → IsSet 1 (suc n) (columns 1 n)
full_is_set n = let more : 1 + n ≡ suc n = omega arith in subst (λ (k : ℕ). IsSet 1 k (columns 1 n)) more (full_set n 1)

length_columns : (k n : ℕ) → length (columns k n) ≡ n
length_columns k zero = refl
length_columns k (suc n) = ap suc (length_columns (suc k) n)

eq_or_less : (m n : ℕ) → m ≤ n → (m ≡ n) ⊎ (m < n)
eq_or_less zero zero l = inl refl
eq_or_less zero (suc n) l = inr (omega arith)
eq_or_less (suc m) zero l = absurd (omega (arith, l))
eq_or_less (suc m) (suc n) l = elim (eq_or_less m n (omega (arith, l))) [ inl e ↦ inl (ap suc e) | inr lt ↦ inr (omega (arith, lt)) ]

pub in_columns : (n lo x : ℕ) → lo ≤ x → x < lo + n → In x (columns lo n)
in_columns zero lo x l u = absurd (omega (arith, l, u))
in_columns (suc n) lo x l u = elim (eq_or_less lo x l) [ inl e ↦ inl e | inr lt ↦ inr (in_columns n (suc lo) x (omega (arith, lt)) (omega (arith, u))) ]

set_below : (lo hi : ℕ) (s : List ℕ) → IsSet lo hi s → (x : ℕ) → In x s → (lo ≤ x) × (x < hi)
set_below lo hi [] h x i = absurd i
set_below lo hi (y ∷ s) h x (inl e) = let a = h.0 in let b = h.1 in (omega (arith, a, e), omega (arith, b, e))
set_below lo hi (y ∷ s) h x (inr i) = let r = set_below (suc y) hi s h.2 x i in let a = h.0 in (omega (arith, a, r.0), r.1)

-- each set of positions is part of that of all
pub part_full : (n : ℕ) (s : List ℕ) → IsSet 1 (suc n) s → is_part s (columns 1 n) ≡ true
part_full n s h = of_part s (columns 1 n) (λ x i. let b = set_below 1 (suc n) s h x i in in_columns n 1 x b.0 (omega (arith, b.1)))

-- a set that has all is that of all
pub all_full : (n : ℕ) (s : List ℕ) → IsSet 1 (suc n) s → is_part (columns 1 n) s ≡ true → columns 1 n ≡ s
all_full n s h e =
    let more : 1 + n ≡ suc n = omega arith in
    let set : IsSet 1 (1 + n) s = subst (λ (k : ℕ). IsSet 1 k s) (sym more) h in
    let short = set_short n 1 s set in
    part_same 1 (1 + n) 1 (suc n) (columns 1 n) s (full_set n 1) h (to_part (columns 1 n) s e) (omega (arith, short, length_columns 1 n))

module _ (expression : ℕ → Tree → List ℤ) (p : Listing) (comps : Partition) (rows : ℕ → List (List ℤ)) (c : ℕ) where
  abbrev all : List ℕ
  all = full expression p comps rows c

  abbrev many : ℕ
  many = count expression p comps rows c

  abbrev blown_set : List ℕ → Type 0
  blown_set = IsBlownSet expression p comps rows c

  abbrev has : List ℕ → Type 0
  has = HasSupportIn expression p comps rows c

  pub full_undecided : (s : List ℕ) → In s (undecided s)
  full_undecided [] = inl refl
  full_undecided (x ∷ s) = inr (inl refl)

  pub none_undecided : (s : List ℕ) → In [] (undecided s)
  none_undecided [] = inl refl
  none_undecided (x ∷ s) = inl refl

  pub sets_undecided : (s : List ℕ) → IsSet 1 (suc many) s → (t : List ℕ) → In t (undecided s) → IsSet 1 (suc many) t
  sets_undecided [] h t i = elim i [ inl e ↦ subst (IsSet 1 (suc many)) e tt | inr none ↦ absurd none ]
  sets_undecided (x ∷ s) h t i = elim i [ inl e ↦ subst (IsSet 1 (suc many)) e tt | inr (inl e) ↦ subst (IsSet 1 (suc many)) e h | inr (inr none) ↦ absurd none ]

  full_sets : (t : List ℕ) → In t (all ∷ []) → IsSet 1 (suc many) t
  full_sets t i = elim i [ inl e ↦ subst (IsSet 1 (suc many)) e (full_is_set many) | inr none ↦ absurd none ]

  pub once_undecided : (s : List ℕ) → AreOnce (undecided s)
  once_undecided [] = ((λ i. i), tt)
  once_undecided (x ∷ s) = ((λ i. elim i [ inl e ↦ cc | inr j ↦ j ]), ((λ i. i), tt))

  -- nothing is decided
  pub undecided_found : (b : Bool) → IsTrue b ↔ (12 < many) → ((s : List ℕ) → blown_set s) → IsFound expression p comps rows c (record { mappings = []; refutation = None; blown = undecided all; large = b })
  undecided_found b large blown = record {
    large = large;
    mappings = tt;
    at = tt;
    falling = tt;
    small = λ _. record { minimal = λ s i. absurd i; within = λ s h. inr ([], none_undecided all, refl); order = tt };
    more = λ _. record { few = omega arith; decreases = λ s i. absurd i; needed = λ s i. absurd i; left_out = λ s i. absurd i; decided = inr (inr (full_undecided all)) };
    refuted = ((λ h. absurd (h refl)), λ k. absurd (k.1 (full_undecided all)));
    shown = λ r e. cc;
    sets = sets_undecided all (full_is_set many);
    given_up = λ s i. blown s;
    once = once_undecided all;
    apart = λ s i above. absurd above.1;
  }

  -- no mapping decreases, but the refutation has a number that does not fit
  pub wide_found : (b : Bool) → IsTrue b ↔ (12 < many) → ((s : List ℕ) → has s → ⊥) → blown_set all → IsFound expression p comps rows c (record { mappings = []; refutation = None; blown = all ∷ []; large = b })
  wide_found b large none blown = record {
    large = large;
    mappings = tt;
    at = tt;
    falling = tt;
    small = λ _. record { minimal = λ s i. absurd i; within = λ s h. absurd (none s h); order = tt };
    more = λ _. record { few = omega arith; decreases = λ s i. absurd i; needed = λ s i. absurd i; left_out = λ s i. absurd i; decided = inr (inr (inl refl)) };
    refuted = ((λ h. absurd (h refl)), λ k. absurd (k.1 (inl refl)));
    shown = λ r e. cc;
    sets = full_sets;
    given_up = λ s i. elim i [ inl e ↦ subst blown_set e blown | inr nothing ↦ absurd nothing ];
    once = ((λ i. i), tt);
    apart = λ s i above. absurd above.1;
  }

  pub refuted_found : (b : Bool) → IsTrue b ↔ (12 < many) → ((s : List ℕ) → has s → ⊥) → (r : Refutation) → IsRefutationOf expression p comps rows c r
      → IsFound expression p comps rows c (record { mappings = []; refutation = Some r; blown = []; large = b })
  refuted_found b large none r is = record {
    large = large;
    mappings = tt;
    at = tt;
    falling = tt;
    small = λ _. record { minimal = λ s i. absurd i; within = λ s h. absurd (none s h); order = tt };
    more = λ _. record { few = omega arith; decreases = λ s i. absurd i; needed = λ s i. absurd i; left_out = λ s i. absurd i; decided = inr (inl (λ e. cc)) };
    refuted = ((λ h. (none, λ i. i)), λ k e. cc);
    shown = λ q e. let same : r ≡ q = cc in subst (IsRefutationOf expression p comps rows c) same is;
    sets = λ s i. absurd i;
    given_up = λ s i. absurd i;
    once = tt;
    apart = λ s i. absurd i;
  }

  -- all positions are given up in a large component
  pub given_up_found : IsTrue true ↔ (12 < many) → blown_set all → IsFound expression p comps rows c (record { mappings = []; refutation = None; blown = all ∷ []; large = true })
  given_up_found large blown = record {
    large = large;
    mappings = tt;
    at = tt;
    falling = tt;
    small = λ e. cc;
    more = λ _. record { few = omega arith; decreases = λ s i. absurd i; needed = λ s i. absurd i; left_out = λ s i. absurd i; decided = inr (inr (inl refl)) };
    refuted = ((λ h. absurd (h refl)), λ k. absurd (k.1 (inl refl)));
    shown = λ r e. cc;
    sets = full_sets;
    given_up = λ s i. elim i [ inl e ↦ subst blown_set e blown | inr nothing ↦ absurd nothing ];
    once = ((λ i. i), tt);
    apart = λ s i above. absurd above.1;
  }

  -- the same of what the code makes
  pub undecided_is : (b : Bool) → IsTrue b ↔ (12 < many) → ((t : List ℕ) → blown_set t) → (s : List ℕ) → s ≡ all → (f : Found) → f ≡ record { mappings = []; refutation = None; blown = undecided s; large = b } → IsFound expression p comps rows c f
  undecided_is b large blown s e f is =
      subst (IsFound expression p comps rows c) (sym is)
      (subst (λ (t : List ℕ). IsFound expression p comps rows c (record { mappings = []; refutation = None; blown = undecided t; large = b })) (sym e) (undecided_found b large blown))

  pub wide_is : (b : Bool) → IsTrue b ↔ (12 < many) → ((s : List ℕ) → has s → ⊥) → (s : List ℕ) → blown_set s → s ≡ all → (f : Found) → f ≡ record { mappings = []; refutation = None; blown = s ∷ []; large = b } → IsFound expression p comps rows c f
  wide_is b large none s blown e f is =
      subst (IsFound expression p comps rows c) (sym is)
      (subst (λ (t : List ℕ). IsFound expression p comps rows c (record { mappings = []; refutation = None; blown = t ∷ []; large = b })) (sym e) (wide_found b large none (subst blown_set e blown)))

  pub given_up_is : IsTrue true ↔ (12 < many) → (s : List ℕ) → blown_set s → s ≡ all → (f : Found) → f ≡ record { mappings = []; refutation = None; blown = s ∷ []; large = true } → IsFound expression p comps rows c f
  given_up_is large s blown e f is =
      subst (IsFound expression p comps rows c) (sym is)
      (subst (λ (t : List ℕ). IsFound expression p comps rows c (record { mappings = []; refutation = None; blown = t ∷ []; large = true })) (sym e) (given_up_found large (subst blown_set e blown)))

  pub above_more : (sets more : List (List ℕ)) (s : List ℕ) → IsAbove sets s → IsAbove (sets ++ more) s
  above_more sets more s (t, i, e) = (t, in-left sets more t i, e)

  -- the walk's sets, and perhaps one that was given up before
  pub walked_found : ((s : List ℕ) → has s → IsSet 1 (suc many) s) → IsTrue false ↔ (12 < many) → (w : Walked) → IsAllWalked expression p comps rows c w → (more : List (List ℕ)) → ((t : List ℕ) → In t more → all ≡ t) → ((t : List ℕ) → In t more → blown_set t) → ((t : List ℕ) → In t more → w.mappings ≡ []) → AreOnce (w.blown ++ more)
      → ((((s : List ℕ) → has s → ⊥) × (In all (w.blown ++ more) → ⊥)) → ⊥)
      → IsFound expression p comps rows c (record { mappings = w.mappings; refutation = None; blown = w.blown ++ more; large = false })
  walked_found sets large w h more fulls blown empty once why = record {
    large = large;
    mappings = all_map (IsDecreasing expression p comps rows c) (IsMappingOf expression p rows comps c) (λ m d. d.mapping) w.mappings h.mappings;
    at = all_map (IsDecreasing expression p comps rows c) (λ (m : Mapping). IsZeroOutside (positions_in p comps c) (mapping_with m.measures)) (λ m d. d.at) w.mappings h.mappings;
    falling = all_map (IsDecreasing expression p comps rows c) (λ (m : Mapping). Decreases expression (component_view expression p comps rows c) (mapping_with m.measures)) (λ m d. d.falling) w.mappings h.mappings;
    small = λ _. record {
      minimal = λ s i. h.walked.minimal s (subst (In s) h.supports i);
      within = λ s k. elim ((walk_steps many has sets).within w.found w.blown h.walked s k) [
        | inl a ↦ inl (subst (λ (ss : List (List ℕ)). IsAbove ss s) (sym h.supports) a)
        | inr b ↦ inr (above_more w.blown more s b)
      ];
      order = subst (λ (ss : List (List ℕ)). IsSubsequence ss (chosen_up_to many many)) (sym h.supports) h.found_order;
    };
    more = λ e. cc;
    refuted = ((λ k. absurd (k refl)), λ k. absurd (why k));
    shown = λ r e. cc;
    sets = λ s i. elim (of-append w.blown more s i) [ inl old ↦ up_to_set many many s (in_whole w.blown (chosen_up_to many many) s h.blown_order old) | inr new ↦ subst (IsSet 1 (suc many)) (fulls s new) (full_is_set many) ];
    given_up = λ s i. elim (of-append w.blown more s i) [ inl old ↦ h.given_up s old | inr new ↦ blown s new ];
    once = once;
    apart = λ s i. elim (of-append w.blown more s i) [
      | inl old ↦ subst (λ (ss : List (List ℕ)). IsAbove ss s → ⊥) (sym h.supports) (h.apart s old)
      | inr new ↦ subst (λ (ms : List Mapping). IsAbove (map (support_of (positions_in p comps c)) ms) s → ⊥) (sym (empty s new)) (λ above. absurd above.1)
    ];
  }

  -- where a support was found, not all is excluded
  pub found_had : (w : Walked) → IsAllWalked expression p comps rows c w → (m : Mapping) (ms : List Mapping) → w.mappings ≡ m ∷ ms → ((s : List ℕ) → has s → ⊥) → ⊥
  found_had w h m ms e none =
      let there : In (support_of (positions_in p comps c) m) w.found = subst (In (support_of (positions_in p comps c) m)) h.supports (subst (λ (xs : List Mapping). In (support_of (positions_in p comps c) m) (map (support_of (positions_in p comps c)) xs)) (sym e) (inl refl)) in
      let minimal = h.walked.minimal (support_of (positions_in p comps c) m) there in
      none (support_of (positions_in p comps c) m) minimal.had

  -- the walk's sets, with all positions among them where these were given up and nothing was found
  pub completed_found : ((s : List ℕ) → has s → IsSet 1 (suc many) s) → IsTrue false ↔ (12 < many) → (w : Walked) → IsAllWalked expression p comps rows c w
      → (given_up none : Bool) → (given_up ≡ true → blown_set all) → (given_up ≡ false → ((s : List ℕ) → has s → ⊥) → ⊥) → IsTrue none ↔ (w.mappings ≡ [])
      → (blown : List (List ℕ)) → IsCompleted given_up none all w.blown blown → IsFound expression p comps rows c (record { mappings = w.mappings; refutation = None; blown = blown; large = false })
  completed_found sets large w h given_up none given undone empty blown done =
      let found = walked_found sets large w h done.more (λ t i. (done.full_only t i).1) (λ t i. let f = done.full_only t i in subst blown_set f.1 (given f.0)) (λ t i. empty.0 (done.full_only t i).2) (subst AreOnce done.is (done.once h.once)) (λ k. why k.0 (λ i. k.1 (subst (In all) done.is i))) in
      subst (λ (b : List (List ℕ)). IsFound expression p comps rows c (record { mappings = w.mappings; refutation = None; blown = b; large = false })) (sym done.is) found
    where
      true_of : (b : Bool) → IsTrue b → b ≡ true
      true_of true t = refl
      true_of false t = cc

      is_full : (t : List ℕ) → In t blown → is_part all t ≡ true → all ≡ t
      is_full t i e = elim (of-append w.blown done.more t (subst (In t) done.is i)) [
        | inl old ↦ all_full many t (up_to_set many many t (in_whole w.blown (chosen_up_to many many) t h.blown_order old)) e
        | inr new ↦ (done.full_only t new).1
      ]

      there : given_up ≡ true → none ≡ true → In all blown
      there g n =
          let w = done.there g n in
          subst (λ (t : List ℕ). In t blown) (sym (is_full w.0 w.1 w.2)) w.1

      of_mappings : (ms : List Mapping) → w.mappings ≡ ms → given_up ≡ true → ((s : List ℕ) → has s → ⊥) → (In all blown → ⊥) → ⊥
      of_mappings [] e g none_had out = out (there g (true_of none (empty.1 e)))
      of_mappings (m ∷ ms) e g none_had out = found_had w h m ms e none_had

      of_given : (b : Bool) → given_up ≡ b → ((s : List ℕ) → has s → ⊥) → (In all blown → ⊥) → ⊥
      of_given true e none_had out = of_mappings w.mappings refl e none_had out
      of_given false e none_had out = undone e none_had

      why : ((s : List ℕ) → has s → ⊥) → (In all blown → ⊥) → ⊥
      why none_had out = of_given given_up refl none_had out

-- ---- the full set among the sets that were given up
append_none : {X : Type 0} (xs : List X) → xs ≡ xs ++ []
append_none [] = refl
append_none (x ∷ xs) = ap (λ s. x ∷ s) (append_none xs)

pub as_given_up : (given_up none : Bool) (all : List ℕ) (blown : List (List ℕ)) → ((given_up ≡ true) → (none ≡ true) → (t : List ℕ) × In t blown × (is_part all t ≡ true)) → IsCompleted given_up none all blown blown
as_given_up given_up none all blown there = record { more = []; is = append_none blown; full_only = λ t i. absurd i; once = λ o. o; there = there }

pub below_there : (all : List ℕ) (blown : List (List ℕ)) → list_any (λ t. is_part all t) blown ≡ true → (t : List ℕ) × In t blown × (is_part all t ≡ true)
below_there all [] e = cc
below_there all (t ∷ ts) e = go (is_part all t) refl e (below_there all ts)
  where
    go : (b : Bool) → is_part all t ≡ b → (b || list_any (λ u. is_part all u) ts) ≡ true → (list_any (λ u. is_part all u) ts ≡ true → (u : List ℕ) × In u ts × (is_part all u ≡ true)) → (u : List ℕ) × In u (t ∷ ts) × (is_part all u ≡ true)
    go true q k rec = (t, inl refl, q)
    go false q k rec = let r = rec k in (r.0, inr r.1, r.2)

not_below : (all : List ℕ) (blown : List (List ℕ)) → list_any (λ t. is_part all t) blown ≡ false → In all blown → ⊥
not_below all [] e i = i
not_below all (t ∷ ts) e i = go (is_part all t) refl e i (not_below all ts)
  where
    go : (b : Bool) → is_part all t ≡ b → (b || list_any (λ u. is_part all u) ts) ≡ false → (t ≡ all) ⊎ In all ts → (list_any (λ u. is_part all u) ts ≡ false → In all ts → ⊥) → ⊥
    go true q k j rec = cc
    go false q k (inl s) rec = let self : is_part all t ≡ true = subst (λ u. is_part all u ≡ true) (sym s) (part_self all) in cc
    go false q k (inr j) rec = rec k j

pub pushed_full : (given_up none : Bool) (all : List ℕ) (blown : List (List ℕ)) → given_up ≡ true → none ≡ true → list_any (λ t. is_part all t) blown ≡ false → IsCompleted given_up none all blown (blown ++ all ∷ [])
pushed_full given_up none all blown given empty e = record {
  more = all ∷ [];
  is = refl;
  full_only = λ t i. elim i [ inl same ↦ (given, same, empty) | inr nothing ↦ absurd nothing ];
  once = λ o. once_push blown all o (not_below all blown e);
  there = λ g n. (all, in-right blown (all ∷ []) all (inl refl), part_self all);
}
