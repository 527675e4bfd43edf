-- What is kept of the program of a list of definite clauses: what is kept of the list, and the clause of =/2.
use Rattle.std.proofs.Common.{◌≡◌, ◌≢◌, ℕ, zero, suc, ◌+◌, ◌-◌, ◌<◌, ◌≤◌, ◌⊎◌, inl, inr, Bool, true, false, if◌then◌else◌, List, [], ◌∷◌, ◌++◌, length, slice_get, Option, None, Some, refl, ap, sym, ◌∙◌, subst, arith, length-append}
use Rattle.std.specs.Prelude.{nat_lt, option_map}
use Rattle.std.specs.List.{AllPairs}
use Rattle.std.proofs.lemmas.Bool.{cases_lt, le-ltb, lt-ltb}
use Rattle.cti_terms.specs.Listing.{Listing}
use Rattle.cti_terms.specs.Tree.{Variable}
use Rattle.cti_terms.specs.declared.clauses.Clause.{Clause}
use Rattle.prolog_terms.specs.Clauses.{Clause as TextClause}
use Rattle.linear_rows.specs.Members.{In}
use Rattle.termination_model.proofs.Lists.{place_below}
use Rattle.clause_normal.specs.Rules.{Rule}
use Rattle.clause_normal.specs.Numbering.{empty_program, equality_clause}
use Rattle.clause_normal.specs.Definite.{AreDefinite, program_of, rules_of}
use Rattle.component_laws.specs.Untouched.{named}
use Rattle.solved_program.specs.Kept.{AreKept, IsKeptAs}
use Rattle.solved_program.proofs.Clauses.{in_at}
use Rattle.kept_clauses.specs.AllKept.{ListEditKeepsUntouched}
use Rattle.kept_clauses.specs.KeptLists.{AreKeptList, IsIncreasing, IsOnto, IsTotal}
use Rattle.kept_clauses.specs.KeptPrograms.{IsListEdit, equality_kept, kept_of_program}
use Rattle.kept_clauses.proofs.AllKeptLaws.{one_edit_keeps_untouched}
use Rattle.kept_clauses.proofs.ProgramNames.{HasEquality, HasNone, after_some, at_end, at_in, before_more, equality_if, equality_last, equality_or_none, how_many_rules, named_rule, one_equality, place_named, preds_from, preds_into, rule_at, rule_for, whole_few, whole_many}

-- ---- elements
of_mapped : {X Y : Type 0} (f : X → Y) (o : Option X) (y : Y) → option_map f o ≡ Some y → (x : X) × (o ≡ Some x) × (f x ≡ y)
of_mapped f None y e = cc
of_mapped f (Some x) y e = (x, refl, (let h = e in cc))

some_at : {X : Type 0} (xs : List X) (i : ℕ) → i < length xs → (x : X) × (slice_get xs i ≡ Some x)
some_at [] i lt = absurd (omega arith)
some_at (x ∷ xs) zero lt = (x, refl)
some_at (x ∷ xs) (suc i) lt = some_at xs i (omega (arith, lt))

only_one : (o : Option ℕ) (m j : ℕ) → slice_get (o ∷ []) m ≡ Some (Some j) → (m ≡ 0) × (o ≡ Some j)
only_one o zero j e = (refl, (let h = e in cc))
only_one o (suc m) j e = cc

module _ (names : List (List ℕ)) (cs ds : List TextClause) (n : ℕ) (kept : List (Option ℕ)) (distinct : AllPairs (λ (a b : List ℕ). a ≢ b) names) (before : AreDefinite names cs) (after : AreDefinite names ds)
    (many : length cs ≡ n) (are : AreKeptList cs ds kept) where
  abbrev p : Listing
  p = program_of names cs

  abbrev new : Listing
  new = program_of names ds

  abbrev result : List (Option ℕ)
  result = kept_of_program p new n kept

  abbrev last : List (Option ℕ)
  last = equality_kept p new n (length kept)

  abbrev Had : Type 0
  Had = HasEquality names cs before

  abbrev Has : Type 0
  Has = HasEquality names ds after

  -- ---- what is kept of the clause of =/2
  last_of : (a b : Bool) → nat_lt (length kept) (length new.clauses) ≡ a → nat_lt n (length p.clauses) ≡ b → last ≡ (if a then (if b then Some (length p.clauses) else None) ∷ [] else [])
  last_of a b e f = λ i. if e i then (if f i then Some (length p.clauses) else None) ∷ [] else []

  later : (has : Has) → nat_lt (length kept) (length new.clauses) ≡ true
  later has = lt-ltb (length kept) (length new.clauses) (omega (arith, are.each, whole_many names ds after has))

  last_none : HasNone names ds after → last ≡ []
  last_none none =
      last_of false (nat_lt n (length p.clauses)) (le-ltb (length kept) (length new.clauses) (omega (arith, are.each, whole_few names ds after none))) refl

  last_new : Has → HasNone names cs before → last ≡ None ∷ []
  last_new has none = last_of true false (later has) (le-ltb n (length p.clauses) (omega (arith, many, whole_few names cs before none)))

  last_kept : Has → Had → last ≡ Some (length p.clauses) ∷ []
  last_kept has had = last_of true true (later has) (lt-ltb n (length p.clauses) (omega (arith, many, whole_many names cs before had)))

  -- ---- elements of the result
  in_list : (i : ℕ) → i < length kept → slice_get result i ≡ slice_get kept i
  in_list i lt = before_more kept last i lt

  record IsLast (i j : ℕ) : Type 0 where
    place : i ≡ length kept
    number : j ≡ suc n
    had : Had
    has : Has

  past : (i j : ℕ) → length kept ≤ i → slice_get result i ≡ Some (Some j) → IsLast i j
  past i j le e =
      let m = i - length kept in
      let place : i ≡ length kept + m = omega arith in
      let at : slice_get last m ≡ Some (Some j) = sym (after_some kept last m) ∙ ap (slice_get result) (sym place) ∙ e in
      go m place (equality_or_none names ds after) (equality_or_none names cs before) at
    where
      go : (m : ℕ) → i ≡ length kept + m → HasEquality names ds after ⊎ HasNone names ds after → HasEquality names cs before ⊎ HasNone names cs before → slice_get last m ≡ Some (Some j) → IsLast i j
      go m place (inr none) other at = let at' : slice_get {X = Option ℕ} [] m ≡ Some (Some j) = ap (λ (os : List (Option ℕ)). slice_get os m) (sym (last_none none)) ∙ at in absurd (cc)
      go m place (inl has) (inr none) at =
          let one = only_one None m j (ap (λ (os : List (Option ℕ)). slice_get os m) (sym (last_new has none)) ∙ at) in
          absurd (let e = one.1 in cc)
      go m place (inl has) (inl had) at =
          let one = only_one (Some (length p.clauses)) m j (ap (λ (os : List (Option ℕ)). slice_get os m) (sym (last_kept has had)) ∙ at) in
          let first = one.0 in
          let same : length p.clauses ≡ j = (let e = one.1 in cc) in
          record { place = omega arith; number = omega (arith, many, whole_many names cs before had); had = had; has = has }

  each : length result ≡ length new.clauses
  each = go (equality_or_none names ds after) (equality_or_none names cs before)
    where
      go : HasEquality names ds after ⊎ HasNone names ds after → HasEquality names cs before ⊎ HasNone names cs before → length result ≡ length new.clauses
      go (inr none) other = omega (arith, length-append kept last, ap length (last_none none), are.each, whole_few names ds after none)
      go (inl has) (inr none) = omega (arith, length-append kept last, ap length (last_new has none), are.each, whole_many names ds after has)
      go (inl has) (inl had) = omega (arith, length-append kept last, ap length (last_kept has had), are.each, whole_many names ds after has)

  -- ---- they are the same clauses
  old_place : (i j : ℕ) → slice_get kept i ≡ Some (Some j) → (1 ≤ j) × (j ≤ n)
  old_place i j e =
      let same = are.same i j e in
      let first = same.0 in
      let lt : i < length ds = (let l = place_below kept i (Some j) e in omega (arith, are.each)) in
      let d = some_at ds i lt in
      let below = place_below cs (j - 1) d.0 (same.1 ∙ d.1) in
      (first, omega (arith, many))

  equality_named : (had : Had) (has : Has) → named p (equality_clause had.0) ≡ named new (equality_clause has.0)
  equality_named had has =
      let pred : slice_get p.preds had.0 ≡ slice_get new.preds has.0 = had.3 ∙ ap Some (one_equality names distinct had.1 has.1 had.4 has.4) ∙ sym has.3 in
      λ i. record { head = record { pred = pred i; args = Variable 0 ∷ Variable 0 ∷ [] }; body = []; vars = 1 }

  kept_in_list : (i j : ℕ) (y : Clause) → i < length kept → slice_get kept i ≡ Some (Some j) → slice_get new.clauses i ≡ Some y → IsKeptAs p new j y
  kept_in_list i j y lt e at =
      let same = are.same i j e in
      let place = old_place i j e in
      let first = place.0 in
      let end = place.1 in
      let old = place_named names cs before (j - 1) (omega (arith, many)) in
      let own = place_named names ds after i (omega (arith, are.each)) in
      let alike : option_map (named p) (slice_get p.clauses (j - 1)) ≡ Some (named new y) =
      old ∙ ap (λ (o : Option TextClause). option_map (named_rule names) (rule_for names o)) same.1 ∙ sym own ∙ ap (option_map (named new)) at in
      let found = of_mapped (named p) (slice_get p.clauses (j - 1)) (named new y) alike in
      record { clause = found.0; first = first; at = found.1; same = found.2 }

  kept_last : (i j : ℕ) (y : Clause) → IsLast i j → slice_get new.clauses i ≡ Some y → IsKeptAs p new j y
  kept_last i j y l at =
      let number = l.number in
      let back : j - 1 ≡ length cs = omega (arith, many) in
      let there : slice_get new.clauses i ≡ Some (equality_clause l.has.0) = ap (slice_get new.clauses) (l.place ∙ are.each) ∙ equality_last names ds after l.has in
      let is : equality_clause l.has.0 ≡ y = cc in
      record {
        clause = equality_clause l.had.0;
        first = omega arith;
        at = ap (slice_get p.clauses) back ∙ equality_last names cs before l.had;
        same = equality_named l.had l.has ∙ ap (named new) is;
      }

  kept_programs : AreKept p new result
  kept_programs = record {
    each = each;
    same = λ i j y e at. elim (cases_lt i (length kept)) [
      | inl lt ↦ kept_in_list i j y lt (sym (in_list i lt) ∙ e) at
      | inr le ↦ kept_last i j y (past i j le e) at
    ];
  }

  -- ---- their order
  kept_order : IsIncreasing kept → IsIncreasing result
  kept_order order i k j l lt e f = elim (cases_lt k (length kept)) [
    | inl k_lt ↦
        let i_lt : i < length kept = omega arith in
        order i k j l lt (sym (in_list i i_lt) ∙ e) (sym (in_list k k_lt) ∙ f)
    | inr k_le ↦
        let last_k = past k l k_le f in
        let k_is = last_k.place in
        let l_is = last_k.number in
        elim (cases_lt i (length kept)) [
          | inl i_lt ↦ let place = old_place i j (sym (in_list i i_lt) ∙ e) in let end = place.1 in omega arith
          | inr i_le ↦ let last_i = past i j i_le e in let i_is = last_i.place in absurd (omega arith)
        ]
  ]

  -- ---- where each clause of the new list is kept, =/2 was called where it is called
  rule_before : IsTotal kept → (r : Rule) → In r (rules_of names ds) → In r (rules_of names cs)
  rule_before total r h =
      let i = at_in (rules_of names ds) r h in
      let lt : i.0 < length kept = (let l = place_below (rules_of names ds) i.0 r i.1 in omega (arith, how_many_rules names ds after.each, are.each)) in
      let j = total i.0 lt in
      let same = are.same i.0 j.0 j.1 in
      in_at (rules_of names cs) (j.0 - 1) r (rule_at names cs before.each (j.0 - 1) ∙ ap (rule_for names) same.1 ∙ sym (rule_at names ds after.each i.0) ∙ i.1)

  had_equality : IsTotal kept → Has → Had
  had_equality total has =
      let x = has.1 in
      let there_is : In x new.preds = in_at new.preds has.0 x has.3 in
      elim (preds_from names (empty_program names) (rules_of names ds) x there_is) [
        | inl none ↦ absurd none
        | inr own ↦ equality_if names cs before x (preds_into names (empty_program names) (rules_of names cs) own.0 x (rule_before total own.0 own.1) own.2) has.4
      ]

  kept_total : IsTotal kept → IsTotal result
  kept_total total i lt = elim (cases_lt i (length kept)) [
    | inl i_lt ↦ let j = total i i_lt in (j.0, in_list i i_lt ∙ j.1)
    | inr i_le ↦ go i_le (equality_or_none names ds after)
  ]
    where
      go : length kept ≤ i → HasEquality names ds after ⊎ HasNone names ds after → (j : ℕ) × (slice_get result i ≡ Some (Some j))
      go i_le (inr none) = absurd (omega (arith, each, are.each, whole_few names ds after none))
      go i_le (inl has) =
          let is = last_kept has (had_equality total has) in
          let place : i ≡ length kept = omega (arith, each, are.each, whole_many names ds after has) in
          (length p.clauses, ap (slice_get result) place ∙ ap (λ (os : List (Option ℕ)). slice_get (kept ++ os) (length kept)) is ∙ at_end kept (Some (length p.clauses)))

  -- ---- where each clause of the old list is kept, =/2 is called where it was called
  rule_after : IsOnto n kept → (r : Rule) → In r (rules_of names cs) → In r (rules_of names ds)
  rule_after onto r h =
      let j = at_in (rules_of names cs) r h in
      let lt : j.0 < n = (let l = place_below (rules_of names cs) j.0 r j.1 in omega (arith, how_many_rules names cs before.each, many)) in
      let i = onto j.0 lt in
      let same = are.same i.0 (suc j.0) i.1 in
      let back : suc j.0 - 1 ≡ j.0 = omega arith in
      in_at (rules_of names ds) i.0 r (rule_at names ds after.each i.0 ∙ ap (rule_for names) (sym same.1 ∙ ap (slice_get cs) back) ∙ sym (rule_at names cs before.each j.0) ∙ j.1)

  has_equality : IsOnto n kept → Had → Has
  has_equality onto had =
      let x = had.1 in
      let there_is : In x p.preds = in_at p.preds had.0 x had.3 in
      elim (preds_from names (empty_program names) (rules_of names cs) x there_is) [
        | inl none ↦ absurd none
        | inr own ↦ equality_if names ds after x (preds_into names (empty_program names) (rules_of names ds) own.0 x (rule_after onto own.0 own.1) own.2) had.4
      ]

  kept_onto : IsOnto n kept → IsOnto (length p.clauses) result
  kept_onto onto j lt = elim (cases_lt j n) [
    | inl j_lt ↦ let i = onto j j_lt in (i.0, in_list i.0 (place_below kept i.0 (Some (suc j)) i.1) ∙ i.1)
    | inr j_le ↦ go j_le (equality_or_none names cs before)
  ]
    where
      go : n ≤ j → HasEquality names cs before ⊎ HasNone names cs before → (i : ℕ) × (slice_get result i ≡ Some (Some (suc j)))
      go j_le (inr none) = absurd (omega (arith, many, whole_few names cs before none))
      go j_le (inl had) =
          let is = last_kept (has_equality onto had) had in
          let number : length p.clauses ≡ suc j = omega (arith, many, whole_many names cs before had) in
          (length kept, ap (λ (os : List (Option ℕ)). slice_get (kept ++ os) (length kept)) is ∙ at_end kept (Some (length p.clauses)) ∙ ap (λ (m : ℕ). Some (Some m)) number)

-- ---- for programs and a list that are known to be these
module _ (names : List (List ℕ)) (cs ds : List TextClause) (n : ℕ) (kept : List (Option ℕ)) (q new : Listing) (h : IsListEdit names cs ds n kept q new) (ks : List (Option ℕ)) (is : ks ≡ kept_of_program q new n kept) where
  moved : (P : Listing → Listing → List (Option ℕ) → Type 0) → P (program_of names cs) (program_of names ds) (kept_of_program (program_of names cs) (program_of names ds) n kept) → P q new ks
  moved P x =
      subst (λ (os : List (Option ℕ)). P q new os) (sym is)
      (subst (λ (z : Listing). P z new (kept_of_program z new n kept)) (sym h.before)
      (subst (λ (w : Listing). P (program_of names cs) w (kept_of_program (program_of names cs) w n kept)) (sym h.after) x))

  pub programs_kept : AreKept q new ks
  programs_kept = moved (λ a b os. AreKept a b os) (kept_programs names cs ds n kept h.distinct h.definite_before h.definite h.many h.kept_list)

  pub programs_order : IsIncreasing kept → IsIncreasing ks
  programs_order o = moved (λ a b os. IsIncreasing os) (kept_order names cs ds n kept h.distinct h.definite_before h.definite h.many h.kept_list o)

  pub programs_total : IsTotal kept → IsTotal ks
  programs_total o = moved (λ a b os. IsTotal os) (kept_total names cs ds n kept h.distinct h.definite_before h.definite h.many h.kept_list o)

  pub programs_onto : IsOnto n kept → IsOnto (length q.clauses) ks
  programs_onto o = moved (λ a b os. IsOnto (length a.clauses) os) (kept_onto names cs ds n kept h.distinct h.definite_before h.definite h.many h.kept_list o)

-- ---- so all clauses of untouched predicates are kept
pub list_edit_keeps_untouched : ListEditKeepsUntouched
list_edit_keeps_untouched names cs ds n kept ks q new set h is order un (inl total) =
    one_edit_keeps_untouched q new set ks (programs_kept names cs ds n kept q new h ks is) (programs_order names cs ds n kept q new h ks is order) un (inl (programs_total names cs ds n kept q new h ks is total))
list_edit_keeps_untouched names cs ds n kept ks q new set h is order un (inr onto) =
    one_edit_keeps_untouched q new set ks (programs_kept names cs ds n kept q new h ks is) (programs_order names cs ds n kept q new h ks is order) un (inr (programs_onto names cs ds n kept q new h ks is onto))
