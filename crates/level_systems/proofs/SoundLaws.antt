-- A collected component is sound: its members are apart, and its calls can be tested.
use Rattle.std.proofs.Common.{◌≡◌, ℕ, zero, suc, ◌+◌, ◌-◌, ◌<◌, ◌==◌, ◌&&◌, ◌||◌, ℤ, Bool, true, false, if◌then◌else◌, List, [], ◌∷◌, ◌++◌, map, filter, length, slice_get, Contains, Option, None, Some, inl, inr, refl, ap, sym, subst, ◌∙◌, arith, eq-eqb}
use Rattle.std.specs.Prelude.{All, IfSome, IsSomeAnd, option_map, unwrap_or}
use Rattle.std.specs.List.{AllByRecursion, list_any}
use Rattle.std.proofs.lemmas.List.{length-map}
use Rattle.exact128.specs.Fits.{fits}
use Rattle.exact128.specs.Sums.{entry}
use Rattle.cti_terms.specs.Listing.{IsAtom, IsClause, IsProgram, Listing}
use Rattle.cti_terms.specs.Tree.{Tree}
use Rattle.cti_terms.specs.declared.clauses.Clause.{Clause}
use Rattle.cti_terms.specs.declared.predicates.Pred.{Pred}
use Rattle.call_components.specs.Partition.{AreComponents, IsIn, Partition}
use Rattle.call_components.proofs.Lists.{all_append, contains_has, has_contains}
use Rattle.call_components.specs.Table.{Has}
use Rattle.linear_rows.specs.Members.{In}
use Rattle.linear_rows.specs.Plain.{HaveWidth, plain_row, plain_rows}
use Rattle.linear_rows.specs.Replacing.{row_fits}
use Rattle.linear_rows.specs.Showing.{AreMultipliers}
use Rattle.linear_rows.specs.declared.multipliers.Multipliers.{Multipliers}
use Rattle.linear_rows.specs.declared.row.Row.{Row}
use Rattle.number_tests.proofs.FallTargets.{long_columns}
use Rattle.termination_model.specs.mappings.ComponentViews.{members_in, rank_in}
use Rattle.termination_model.specs.mappings.OwnCalls.{Position}
use Rattle.termination_model.specs.mappings.Ready.{Apart, arity_in}
use Rattle.termination_model.specs.mappings.Supports.{AreDistinct}
use Rattle.termination_model.proofs.Lists.{by_places, indexed, place_below}
use Rattle.number_tests.proofs.Sized.{some_below}
use Rattle.level_systems.proofs.HeldCalls.{all_in}
use Rattle.termination_model.proofs.Readiness.{at_of}
use Rattle.linear_rows.proofs.Members.{of-append}
use Rattle.level_systems.specs.Collected.{IsHeldIn}
use Rattle.level_systems.specs.Held.{IsReach}
use Rattle.level_systems.specs.Ordered.{members_by_clauses, with_member}
use Rattle.level_systems.specs.Pairs.{call_at, clause_at}
use Rattle.level_systems.specs.Searched.{IsSoundCall}
use Rattle.level_systems.specs.declared.own_call.OwnCall.{OwnCall}

-- ---- members of lists
in_has : (xs : List ℕ) (q : ℕ) → In q xs → Has xs q
in_has [] q h = absurd h
in_has (x ∷ xs) q (inl e) = (zero, ap (λ z. Some z) e)
in_has (x ∷ xs) q (inr i) = let r = in_has xs q i in (suc r.0, r.1)

pub in_contains : (xs : List ℕ) (q : ℕ) → In q xs → Contains xs q
in_contains xs q i = has_contains xs q (in_has xs q i)

-- ---- members are apart
not_in : (xs : List ℕ) (q : ℕ) → list_any (λ m. m == q) xs ≡ false → In q xs → ⊥
not_in [] q e h = h
not_in (x ∷ xs) q e (inl s) = let yes : (x == q) ≡ true = eq-eqb x q s in go (x == q) (list_any (λ m. m == q) xs) yes e
  where
    go : (a b : Bool) → a ≡ true → (a || b) ≡ false → ⊥
    go true b h k = cc
    go false b h k = cc
not_in (x ∷ xs) q e (inr i) = not_in xs q (go (x == q) (list_any (λ m. m == q) xs) e) i
  where
    go : (a b : Bool) → (a || b) ≡ false → b ≡ false
    go true b h = cc
    go false b h = h

apart_push : (xs : List ℕ) (q : ℕ) → Apart xs → (In q xs → ⊥) → Apart (xs ++ q ∷ [])
apart_push [] q a n = ((λ i. i), tt)
apart_push (x ∷ xs) q a n = (
  (λ i. elim (of-append xs (q ∷ []) x i) [
    | inl old ↦ a.0 old
    | inr new ↦ elim new [ inl e ↦ n (inl (sym e)) | inr none ↦ none ]
  ]),
  apart_push xs q a.1 (λ i. n (inr i)),
)

member_apart : (comps : Partition) (c : ℕ) (ms : List ℕ) (q : ℕ) → Apart ms → Apart (with_member comps c ms q)
member_apart comps c ms q a = go (rank_in comps q == c) (list_any (λ m. m == q) ms) refl
  where
    go : (b d : Bool) → list_any (λ m. m == q) ms ≡ d → Apart (if b then (if d then ms else ms ++ q ∷ []) else ms)
    go true true e = a
    go true false e = apart_push ms q a (not_in ms q e)
    go false d e = a

pub members_apart : (comps : Partition) (c : ℕ) (ms : List ℕ) (ks : List Clause) → Apart ms → Apart (members_by_clauses comps c ms ks)
members_apart comps c ms [] a = a
members_apart comps c ms (k ∷ ks) a = members_apart comps c (with_member comps c ms k.head.pred.0) ks (member_apart comps c ms k.head.pred.0 a)

-- ---- distinct positions stay so
filter_in : {X : Type 0} (f : X → Bool) (xs : List X) (x : X) → In x (filter f xs) → In x xs
filter_in f [] x h = h
filter_in f (y ∷ xs) x h = go (f y) h (filter_in f xs x)
  where
    go : (b : Bool) → In x (if b then y ∷ filter f xs else filter f xs) → (In x (filter f xs) → In x xs) → In x (y ∷ xs)
    go true (inl e) rec = inl e
    go true (inr i) rec = inr (rec i)
    go false i rec = inr (rec i)

pub filter_distinct : (f : Position → Bool) (ps : List Position) → AreDistinct ps → AreDistinct (filter f ps)
filter_distinct f [] d = tt
filter_distinct f (x ∷ ps) d = go (f x) (filter_distinct f ps d.1)
  where
    go : (b : Bool) → AreDistinct (filter f ps) → AreDistinct (if b then x ∷ filter f ps else filter f ps)
    go true rest = ((λ i. d.0 (filter_in f ps x i)), rest)
    go false rest = rest

-- ---- calls
entry_fits : (r : List ℤ) (k : ℕ) → row_fits r ≡ true → fits (entry r k) ≡ true
entry_fits [] k e = refl
entry_fits (z ∷ zs) zero e = go (fits z) (row_fits zs) e
  where
    go : (a b : Bool) → (a && b) ≡ true → a ≡ true
    go true b h = refl
    go false b h = cc
entry_fits (z ∷ zs) (suc k) e = entry_fits zs k (go (fits z) (row_fits zs) e)
  where
    go : (a b : Bool) → (a && b) ≡ true → b ≡ true
    go true b h = h
    go false b h = cc

fits_all : (rs : List Row) (x : ℕ) → ((r : List ℤ) → In r (plain_rows rs) → row_fits r ≡ true) → All (λ (r : Row). fits (entry (plain_row r) x) ≡ true) rs
fits_all [] x h k d lt = absurd (omega arith)
fits_all (r ∷ rs) x h zero d lt = entry_fits (plain_row r) x (h (plain_row r) (inl refl))
fits_all (r ∷ rs) x h (suc k) d lt = fits_all rs x (λ s i. h s (inr i)) k d (omega arith)

pub some_arity : (o : Option Pred) (n : ℕ) → IsSomeAnd o (λ q. q.arity ≡ n) → unwrap_or (option_map (λ (d : Pred). d.arity) o) 0 ≡ n
some_arity None n h = absurd h
some_arity (Some d) n h = h

empty_multipliers : (n m : ℕ) (rows : List (List ℤ)) (o : Option Multipliers) → length rows ≡ m → IsReach n rows o → IfSome o (AreMultipliers m)
empty_multipliers n m rows None e h = tt
empty_multipliers n m rows (Some by) e h = let shown = h.0 in subst (λ (k : ℕ). AreMultipliers k by) e shown.multipliers

pub no_place : {X : Type 0} (xs : List X) (i : ℕ) → slice_get xs i ≡ None → i < length xs → ⊥
no_place [] i e lt = omega arith
no_place (x ∷ xs) zero e lt = cc
no_place (x ∷ xs) (suc i) e lt = no_place xs i e (omega (arith, lt))

module _ (expression : ℕ → Tree → List ℤ) (p : Listing) (prog : IsProgram p) (comps : Partition) (are : AreComponents p comps) (rows : ℕ → List (List ℤ)) (c : ℕ) where
  -- the predicates of the component are its members
  pub inside_member : (q : ℕ) → IsIn comps c q → In q (members_in comps c)
  inside_member q i = go (slice_get comps.members c) refl
    where
      go : (o : Option (List ℕ)) → slice_get comps.members c ≡ o → In q (members_in comps c)
      go None e = absurd (no_place comps.members c e (are.within c q i))
      go (Some ms) e = subst (In q) (sym (indexed comps.members c ms [] e)) (let has = contains_has ms q ((are.members c ms e q).1 i) in at_of ms has.0 q has.1)

  pub sound_call : (own : OwnCall) → IsHeldIn expression p rows comps c own → IsSoundCall p (members_in comps c) own
  sound_call own h =
      let held = h.0 in
      let k = clause_at p own.clause in
      let b = call_at p own.clause own.call in
      let clause = by_places (IsClause p.preds) p.clauses prog.clauses (own.clause - 1) k held.there in
      let atom = by_places (IsAtom p.preds k.vars) k.body clause.body (own.call - 1) b held.at in
      let head_arity = clause.head.arity in
      let call_arity = atom.arity in
      let caller_count : length own.caller_sizes.list ≡ length k.head.args = sym (length-map own.caller_sizes.list plain_row) ∙ ap length held.caller_sizes ∙ length-map k.head.args (expression k.vars) in
      let callee_count : length own.callee_sizes.list ≡ length b.args = sym (length-map own.callee_sizes.list plain_row) ∙ ap length held.callee_sizes ∙ length-map b.args (expression k.vars) in
      let rows_count : length (plain_rows own.rows.list) ≡ length own.rows.list = length-map own.rows.list plain_row in
      let width = held.width in
      let columns = held.columns in
      record {
        numbers = record {
          natural = λ x lt. held.natural x (omega (arith, lt, width));
          widths = subst (λ (n : ℕ). HaveWidth n own.rows.list) (sym width) held.widths;
          fit = λ x. fits_all own.rows.list x held.fit;
        };
        ready = record {
          widths = subst (λ (n : ℕ). HaveWidth n own.rows.list) (sym width) held.widths;
          columns = omega (arith, columns.count, width);
          long = long_columns (map (expression k.vars) k.head.args) (map (expression k.vars) b.args) k.vars (suc (length own.caller_sizes.list) + suc (length own.callee_sizes.list)) own.columns.items columns
              (omega (arith, caller_count, callee_count, length-map k.head.args (expression k.vars), length-map b.args (expression k.vars)));
          empty = empty_multipliers k.vars (length own.rows.list) (plain_rows own.rows.list) own.empty rows_count held.reach;
        };
        caller = inside_member own.caller.0 h.1;
        callee = inside_member own.callee.0 h.2;
        head = caller_count ∙ sym (some_arity (slice_get p.preds k.head.pred.0) (length k.head.args) head_arity) ∙ ap (arity_in p) (sym held.caller);
        call = callee_count ∙ sym (some_arity (slice_get p.preds b.pred.0) (length b.args) call_arity) ∙ ap (arity_in p) (sym held.callee);
      }

-- ---- members are predicates
members_below : (p : Listing) (comps : Partition) (c : ℕ) (ms : List ℕ) (ks : List Clause) → AllByRecursion (IsClause p.preds) ks → AllByRecursion (λ q. q < length p.preds) ms
    → AllByRecursion (λ q. q < length p.preds) (members_by_clauses comps c ms ks)
members_below p comps c ms [] sound below = below
members_below p comps c ms (k ∷ ks) sound below =
    let first = sound.0 in
    let arity = first.head.arity in
    members_below p comps c (with_member comps c ms k.head.pred.0) ks sound.1
    (go (rank_in comps k.head.pred.0 == c) (list_any (λ m. m == k.head.pred.0) ms) (some_below (λ (d : Pred). d.arity ≡ length k.head.args) p.preds k.head.pred.0 arity))
  where
    go : (b d : Bool) → k.head.pred.0 < length p.preds → AllByRecursion (λ q. q < length p.preds) (if b then (if d then ms else ms ++ k.head.pred.0 ∷ []) else ms)
    go true true lt = below
    go true false lt = all_append (λ q. q < length p.preds) ms (k.head.pred.0 ∷ []) below (lt, tt)
    go false d lt = below

pub clause_members_below : (p : Listing) (comps : Partition) (c : ℕ) → IsProgram p → AllByRecursion (λ q. q < length p.preds) (members_by_clauses comps c [] p.clauses)
clause_members_below p comps c prog = members_below p comps c [] p.clauses prog.clauses tt

pub are_below : (p : Listing) (comps : Partition) (c : ℕ) (ms : List ℕ) → AreComponents p comps → slice_get comps.members c ≡ Some ms → AllByRecursion (λ q. q < length p.preds) ms
are_below p comps c ms are e = all_in (λ q. q < length p.preds) ms (λ q i.
    let inside = (are.members c ms e q).0 (in_contains ms q i) in
    let below = place_below comps.of q c inside in
    omega (arith, below, are.each))
