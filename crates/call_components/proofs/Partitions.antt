-- Numbers, members and answers make the components of a program.
use Rattle.std.proofs.Common.{◌≡◌, ℕ, ◌+◌, ◌<◌, ◌≤◌, ◌↔◌, Bool, true, IsTrue, List, [], length, slice_get, Contains, Some, ap, sym, subst, ◌∙◌, arith, le_trans, le_antisymm}
use Rattle.std.specs.List.Sorted.{IsStrictlyIncreasing}
use Rattle.std.proofs.lemmas.Option.{slice_get_within, get_or_from_slice_get}
use Rattle.cti_terms.specs.Listing.{Listing}
use Rattle.call_components.specs.Calls.{Calls, Reaches, itself, onward}
use Rattle.call_components.specs.Members.{places_of, AreMembers, CallsWithin}
use Rattle.call_components.specs.Partition.{AreComponents}
use Rattle.call_components.specs.Search.{AreNumbers}
use Rattle.call_components.specs.Table.{Has, HasCall, IsTable}
use Rattle.call_components.proofs.Lists.{has_contains, contains_has}
use Rattle.call_components.proofs.Paths.{mapped}
use Rattle.call_components.proofs.MemberLaws.{placed, place_is, places_increase}

module _ (p : Listing) (rows : List (List ℕ)) (numbers : List ℕ) (count : ℕ) (members : List (List ℕ)) (answers : List Bool)
    (table : IsTable p rows) (numbered : AreNumbers rows numbers count) (sorted : AreMembers numbers count members) (each : length answers ≡ count)
    (answered : (c : ℕ) → c < count → (slice_get answers c ≡ Some true) ↔ CallsWithin rows numbers c (length rows)) where
  -- whom a predicate reaches has no greater number
  reached : {a b : ℕ} (i : ℕ) → Reaches (HasCall rows) a b → slice_get numbers a ≡ Some i → (j : ℕ) × (slice_get numbers b ≡ Some j) × (j ≤ i)
  reached i itself e = (i, e, omega arith)
  reached i (onward {a} {b} call rest) e =
      let next = numbered.order a b i e call in
      let end = reached next.0 rest next.1 in
      (end.0, end.1, le_trans end.2 next.2)

  reached_at : (a b i j : ℕ) → Reaches (HasCall rows) a b → slice_get numbers a ≡ Some i → slice_get numbers b ≡ Some j → j ≤ i
  reached_at a b i j way ea eb =
      let end = reached i way ea in
      let same : end.0 ≡ j = (let both = sym end.1 ∙ eb in cc) in
      subst (λ (x : ℕ). x ≤ i) same end.2

  row_is : (c : ℕ) (ms : List ℕ) → slice_get members c ≡ Some ms → ms ≡ places_of c 0 numbers
  row_is c ms e =
      let within : c < length members = slice_get_within members c ms e in
      let all : length members ≡ count = sorted.each in
      sym (get_or_from_slice_get members c ms [] e) ∙ sorted.row c (omega arith)

  member : (c : ℕ) (ms : List ℕ) → slice_get members c ≡ Some ms → (a : ℕ) → Contains ms a ↔ (slice_get numbers a ≡ Some c)
  member c ms e a = (to, from)
    where
      to : Contains ms a → slice_get numbers a ≡ Some c
      to h =
          let place = place_is c 0 numbers a (subst (λ (xs : List ℕ). Has xs a) (row_is c ms e) (contains_has ms a h)) in
          let it : a ≡ place.0 = (let sum : a ≡ 0 + place.0 = place.1 in omega arith) in
          ap (slice_get numbers) it ∙ place.2

      from : slice_get numbers a ≡ Some c → Contains ms a
      from at =
          let there : Has (places_of c 0 numbers) a = subst (Has (places_of c 0 numbers)) (omega arith) (placed c 0 numbers a at) in
          has_contains ms a (subst (λ (xs : List ℕ). Has xs a) (sym (row_is c ms e)) there)

  in_order : (c : ℕ) (ms : List ℕ) → slice_get members c ≡ Some ms → IsStrictlyIncreasing ms × (0 < length ms)
  in_order c ms e =
      let within : c < length members = slice_get_within members c ms e in
      let all : length members ≡ count = sorted.each in
      let user = numbered.used c (omega arith) in
      let there = (member c ms e user.0).1 user.1 in
      (subst IsStrictlyIncreasing (sym (row_is c ms e)) (places_increase c 0 numbers), (let inside : there.0 < length ms = there.1 in omega arith))

  together : (a b c d : ℕ) → slice_get numbers a ≡ Some c → slice_get numbers b ≡ Some d → (c ≡ d) ↔ (Reaches (Calls p) a b × Reaches (Calls p) b a)
  together a b c d ea eb = (to, from)
    where
      to : c ≡ d → Reaches (Calls p) a b × Reaches (Calls p) b a
      to e =
          let eb' : slice_get numbers b ≡ Some c = eb ∙ ap Some (sym e) in
          (mapped (λ x y. (table.calls x y).0) (numbered.together a b c ea eb'), mapped (λ x y. (table.calls x y).0) (numbered.together b a c eb' ea))

      from : Reaches (Calls p) a b × Reaches (Calls p) b a → c ≡ d
      from (there, back) =
          le_antisymm (reached_at b a d c (mapped (λ x y. (table.calls x y).1) back) eb ea) (reached_at a b c d (mapped (λ x y. (table.calls x y).1) there) ea eb)

  recursive : (c : ℕ) (answer : Bool) → slice_get answers c ≡ Some answer
      → IsTrue answer ↔ ((a : ℕ) × (b : ℕ) × (slice_get numbers a ≡ Some c) × (slice_get numbers b ≡ Some c) × Calls p a b)
  recursive c answer e = (to, from)
    where
      within : c < count
      within = let inside : c < length answers = slice_get_within answers c answer e in omega (arith, each)

      to : IsTrue answer → (a : ℕ) × (b : ℕ) × (slice_get numbers a ≡ Some c) × (slice_get numbers b ≡ Some c) × Calls p a b
      to said =
          let call = (answered c within).0 (e ∙ ap Some said) in
          (call.0, call.1, call.3, call.4, (table.calls call.0 call.1).0 call.5)

      from : ((a : ℕ) × (b : ℕ) × (slice_get numbers a ≡ Some c) × (slice_get numbers b ≡ Some c) × Calls p a b) → IsTrue answer
      from (a, b, ea, eb, call) =
          let inside : a < length numbers = slice_get_within numbers a c ea in
          let told = (answered c within).1 (a, b, omega (arith, numbered.each), ea, eb, (table.calls a b).1 call) in
          (let both = sym e ∙ told in cc)

  pub are_components : AreComponents p (record { of = numbers; members = members; recursive = answers })
  are_components = record {
    each = numbered.each ∙ table.each;
    answers = each ∙ sym sorted.each;
    within = λ c a e. (let below : c < count = numbered.below a c e in omega (arith, sorted.each));
    members = member;
    ascending = in_order;
    together = together;
    callees_first = λ a b c d ea eb call. reached_at a b c d (onward ((table.calls a b).1 call) itself) ea eb;
    recursive = recursive;
  }
