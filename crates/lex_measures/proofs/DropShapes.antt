-- The printed drops have their shape, and show what they have to.
use Rattle.std.proofs.Common.{◌≡◌, ℕ, zero, suc, ◌+◌, ◌-◌, ◌<◌, ◌==◌, ℤ, Bool, true, false, if◌then◌else◌, List, [], ◌∷◌, length, map, take, slice_get, Some, Option, refl, ap, sym, subst, ◌∙◌, arith}
use Rattle.std.specs.List.{AllByRecursion}
use Rattle.std.proofs.lemmas.List.{length-map}
use Rattle.call_components.specs.Partition.{AreComponents, IsIn, Partition}
use Rattle.cert_assembly.proofs.ChainParts.{multipliers_of}
use Rattle.cert_assembly.proofs.ModeLaws.{there}
use Rattle.cert_assembly.proofs.PartShapes.{all_in, in_calls, in_pairs, list_is, together_in, together_is, unmapped}
use Rattle.cert_assembly.proofs.SetParts.{listed_at, mapped_at, mapped_count}
use Rattle.cert_assembly.specs.Parted.{part_or_zero}
use Rattle.cert_assembly.specs.Ranges.{AreMultipliersBelow}
use Rattle.cert_checker.specs.Shape.{AreTogether}
use Rattle.cert_structure.specs.Shape as shape
use Rattle.cert_structure.specs.Shape.{arity_in, body_of, head_of, is_own_call, is_together, items_of, rows_of_atoms}
use Rattle.cti_terms.specs.Listing.{IsClause, IsProgram, Listing}
use Rattle.cti_terms.specs.Tree.{Tree}
use Rattle.cti_terms.specs.declared.atom_list.Atom.{Atom}
use Rattle.cti_terms.specs.declared.clauses.Clause.{Clause}
use Rattle.fact_reading.specs.Numbered.{AreEach}
use Rattle.number_tests.specs.Drops.{drop_of, fall_number}
use Rattle.level_systems.specs.Mappings.{HasMeasures, level_in}
use Rattle.level_systems.specs.Pairs.{calls_from, pairs_of}
use Rattle.level_systems.specs.declared.measure.Measure.{Measure}
use Rattle.lex_certificate.specs.Shape.{ArePlaces, IsPlace, lists_of_call}
use Rattle.lex_checker.specs.Proved.{MeasuresDrop, drop_at}
use Rattle.lex_turns.specs.Descending.{HasPlace}
use Rattle.lex_turns.specs.FoundLists.{IsDescendingList}
use Rattle.lex_turns.specs.declared.call_drops.CallDrops.{CallDrops}
use Rattle.lex_turns.specs.declared.found_lists.FoundLists.{FoundLists}
use Rattle.lex_turns.specs.declared.measure_list.MeasureList.{MeasureList}
use Rattle.linear_rows.specs.Members.{In}
use Rattle.linear_rows.specs.Showing.{AreMultipliers, IsShown}
use Rattle.linear_rows.specs.declared.multipliers.Multipliers.{Multipliers}
use Rattle.linear_rows.specs.declared.row.Rows.{Rows}
use Rattle.number_tests.specs.Shape.{list_at, row_count}
use Rattle.number_tests.specs.declared.level_part.LevelPart.{LevelPart}
use Rattle.termination_model.proofs.Lists.{by_places, from_places, indexed, place_below}
use Rattle.termination_model.specs.mappings.ComponentViews.{members_in}
use Rattle.termination_model.specs.sizes.Sizes.{rows_of}
use Rattle.termination_model.specs.sizes.ShortSystems.{short_system}
use Rattle.lex_measures.proofs.ComponentLaws.{atom_counts, atom_in, body_is, clause_is, head_is, member_below, rank_is, recursive_at, recursive_here}
use Rattle.lex_measures.proofs.ListParts.{are_each, found_at, level_there, lists_are, printed_deep, printed_is}
use Rattle.lex_measures.proofs.PlaceParts.{deep_at, drops_there, mapped_list, place_at, place_few, place_some}
use Rattle.lex_measures.specs.Assembly.{AreFound}
use Rattle.lex_measures.specs.Exact.{place_in}
use Rattle.lex_measures.specs.Lists.{drops_at, drops_from, list_of, lists_at, place_of, place_or_none, printed_drops, printed_lists}

-- ---- drops by calls
drops_count : (p : Listing) (comps : Partition) (found : List FoundLists) (k i : ℕ) (bs : List Atom) → length (drops_from p comps found k i bs) ≡ length bs
drops_count p comps found k i [] = refl
drops_count p comps found k i (b ∷ bs) = ap suc (drops_count p comps found k (suc i) bs)

drops_at_place : (p : Listing) (comps : Partition) (found : List FoundLists) (k i : ℕ) (bs : List Atom) (j : ℕ) (b : Atom) → slice_get bs j ≡ Some b → slice_get (drops_from p comps found k i bs) j ≡ Some (drops_at p comps found k (i + j) (Some b))
drops_at_place p comps found k i [] j b e = cc
drops_at_place p comps found k i (x ∷ bs) zero b e =
    let same : x ≡ b = cc in
    let here : i ≡ i + 0 = omega arith in
    λ t. Some (drops_at p comps found k (here t) (Some (same t)))
drops_at_place p comps found k i (x ∷ bs) (suc j) b e =
    let next : suc i + j ≡ i + suc j = omega arith in
    drops_at_place p comps found k (suc i) bs j b e ∙ ap (λ n. Some (drops_at p comps found k n (Some b))) next

module _ (expression : ℕ → Tree → List ℤ) (p : Listing) (comps : Partition) (rows : List Rows) (found : List FoundLists)
    (program : IsProgram p) (components : AreComponents p comps) (founds : AreFound expression p comps rows found) where
  abbrev lists : List (List (List LevelPart))
  lists = printed_lists p comps found

  -- the place of an own call in a list
  pub own_place : (c k j : ℕ) (x : Clause) (b : Atom) (l : MeasureList) → slice_get p.clauses k ≡ Some x → slice_get x.body j ≡ Some b → IsIn comps c x.head.pred.0 → IsIn comps c b.pred.0 → IsDescendingList expression p comps (rows_of rows) c l
      → (bys : List Multipliers) × (place_in l.drops (suc k) (suc j) ≡ Some bys) × HasPlace expression p (rows_of rows) l.measures (suc k, suc j) bys
  own_place c k j x b l ek ej ih ib il =
      let zero_k : 0 + k ≡ k = omega arith in
      let zero_j : 0 + j ≡ j = omega arith in
      let pair : In {X = ℕ × ℕ} (suc k, suc j) (pairs_of p comps c) =
      in_pairs comps c 0 p.clauses k x (suc k, suc j) ek (rank_is p comps program components c x.head.pred.0 ih)
      (subst (λ (y : ℕ × ℕ). In y (calls_from comps c (suc (0 + k)) 0 x.body)) (λ i. (suc (zero_k i), suc (zero_j i))) (in_calls comps c (suc (0 + k)) 0 x.body j b ej (rank_is p comps program components c b.pred.0 ib))) in
      let (d, ind, found_by, ec, eb) = drops_there l.drops (suc k) (suc j) (subst (In {X = ℕ × ℕ} (suc k, suc j)) (sym il.pairs) pair) in
      let is = all_in (λ (d : CallDrops). HasPlace expression p (rows_of rows) l.measures (d.clause, d.call) d.by) l.drops d il.places ind in
      (d.by, found_by, subst (λ (y : ℕ × ℕ). HasPlace expression p (rows_of rows) l.measures y d.by) (λ i. (ec i, eb i)) is)

  -- what the multipliers at a measure of a list show
  pub drop_is_shown : (c k j : ℕ) (x : Clause) (b : Atom) (l : MeasureList) → slice_get p.clauses k ≡ Some x → slice_get x.body j ≡ Some b
      → (bys : List Multipliers) → HasPlace expression p (rows_of rows) l.measures (suc k, suc j) bys
      → (i : ℕ) (ms : List Measure) (by : Multipliers) → slice_get l.measures i ≡ Some ms → slice_get bys i ≡ Some by
      → (head call : LevelPart) → level_in ms x.head.pred.0 ≡ Some head → level_in ms b.pred.0 ≡ Some call
      → AreMultipliers (row_count (rows_of rows) (take j x.body)) by × IsShown (short_system expression (rows_of rows) x.vars (take j x.body)) (drop_of expression (fall_number (suc i == length bys)) x b head call) by
  drop_is_shown c k j x b l ek ej bys has i ms by em eb head call eh el =
      let is = place_at expression p (rows_of rows) (suc k, suc j) l.measures bys has i ms by em eb in
      let back_k : suc k - 1 ≡ k = omega arith in
      let back_j : suc j - 1 ≡ j = omega arith in
      subst (λ z. AreMultipliers (row_count (rows_of rows) (take z x.body)) by × IsShown (short_system expression (rows_of rows) x.vars (take z x.body)) (drop_of expression (fall_number (suc i == length bys)) x b head call) by) back_j
      (is x b head call (ap (slice_get p.clauses) back_k ∙ ek) (ap (slice_get x.body) back_j ∙ ej) eh el)

  -- the multipliers of an own call, by list
  pub drops_deep : (c k j : ℕ) (x : Clause) (b : Atom) (f : FoundLists) → slice_get p.clauses k ≡ Some x → IsIn comps c x.head.pred.0 → IsIn comps c b.pred.0 → slice_get found c ≡ Some f
      → drops_at p comps found k j (Some b) ≡ map (place_of (suc k) (suc j)) f.lists
  drops_deep c k j x b f ek ih ib at =
      let head = head_is p comps program components k x ek in
      let own : is_own_call comps (head_of p k) (Some b) ≡ true = ap (λ q. is_together comps q b.pred.0) head ∙ together_is comps c x.head.pred.0 b.pred.0 ih ib in
      let ls = ap (lists_at comps found) head ∙ lists_are expression p comps rows found program components founds c x.head.pred.0 f ih at in
      λ i. if own i then map (place_of (suc k) (suc j)) (ls i) else []

  drops_none : (k j : ℕ) (b : Atom) → is_own_call comps (head_of p k) (Some b) ≡ false → drops_at p comps found k j (Some b) ≡ []
  drops_none k j b e = λ i. if e i then map (place_of (suc k) (suc j)) (lists_at comps found (head_of p k)) else []

  -- the drops that are printed at a call
  pub printed_drops_at : (k j : ℕ) (x : Clause) (b : Atom) → slice_get p.clauses k ≡ Some x → slice_get x.body j ≡ Some b → list_at (list_at (printed_drops p comps found) k) j ≡ drops_at p comps found k j (Some b)
  printed_drops_at k j x b ek ej =
      let f = λ (k : ℕ). drops_from p comps found k 0 (body_of p k) in
      let less = place_below p.clauses k x ek in
      let first = sym (list_is (printed_drops p comps found) k) ∙ listed_at f (length p.clauses) k less ∙ ap (drops_from p comps found k 0) (body_is p comps program components k x ek) in
      let zero_j : 0 + j ≡ j = omega arith in
      ap (λ (xs : List (List (List Multipliers))). list_at xs j) first
      ∙ indexed (drops_from p comps found k 0 x.body) j (drops_at p comps found k (0 + j) (Some b)) [] (drops_at_place p comps found k 0 x.body j b ej)
      ∙ ap (λ i. drops_at p comps found k i (Some b)) zero_j

  -- ---- their shape
  module _ (below : AllByRecursion (AllByRecursion (AllByRecursion (AllByRecursion AreMultipliersBelow))) (printed_drops p comps found)) where
    -- the multipliers of an own call in a list
    place_is : (c k j : ℕ) (x : Clause) (b : Atom) (l : MeasureList) → slice_get p.clauses k ≡ Some x → slice_get x.body j ≡ Some b → IsIn comps c x.head.pred.0 → IsIn comps c b.pred.0 → IsDescendingList expression p comps (rows_of rows) c l
        → AllByRecursion AreMultipliersBelow (place_of (suc k) (suc j) l) → IsPlace (rows_of_atoms rows (take j x.body)) (length l.measures) (place_of (suc k) (suc j) l)
    place_is c k j x b l ek ej ih ib il bel =
        let (bys, at, has) = own_place c k j x b l ek ej ih ib il in
        let same : place_of (suc k) (suc j) l ≡ bys = ap place_or_none at in
        let few = place_few expression p (rows_of rows) (suc k, suc j) l.measures bys has in
        let bel2 = subst (AllByRecursion AreMultipliersBelow) same bel in
        subst (IsPlace (rows_of_atoms rows (take j x.body)) (length l.measures)) (sym same) (
          place_some expression p (rows_of rows) (suc k, suc j) l.measures bys has,
          few,
          from_places (shape.HaveMultipliers (rows_of_atoms rows (take j x.body))) bys
              (λ i by eb.
              let less = place_below bys i by eb in
              let (ms, em) = there l.measures i (omega (arith, less, few)) in
              let im = by_places (HasMeasures p (members_in comps c)) l.measures il.measures i ms em in
              let (head, eh) = level_there expression p comps rows found program components founds c x.head.pred.0 ms ih im in
              let (call, el) = level_there expression p comps rows found program components founds c b.pred.0 ms ib im in
              multipliers_of (row_count (rows_of rows) (take j x.body)) (rows_of_atoms rows (take j x.body)) by (atom_counts rows (take j x.body))
              (drop_is_shown c k j x b l ek ej bys has i ms by em eb head call eh el).0 (by_places AreMultipliersBelow bys bel2 i by eb)),
        )

    call_shape : (k j : ℕ) (x : Clause) (b : Atom) → slice_get p.clauses k ≡ Some x → slice_get x.body j ≡ Some b → AllByRecursion (AllByRecursion AreMultipliersBelow) (drops_at p comps found k j (Some b))
        → ArePlaces (rows_of_atoms rows (take j x.body)) (lists_of_call comps lists x.head.pred.0 (Some b)) (drops_at p comps found k j (Some b))
    call_shape k j x b ek ej bel = go (is_together comps x.head.pred.0 b.pred.0) refl
      where
        is : IsClause p.preds x
        is = clause_is p comps program components k x ek

        size : ℕ
        size = rows_of_atoms rows (take j x.body)

        go : (t : Bool) → is_together comps x.head.pred.0 b.pred.0 ≡ t → ArePlaces size (if is_together comps x.head.pred.0 b.pred.0 then items_of lists x.head.pred.0 else []) (drops_at p comps found k j (Some b))
        go false e =
            let none = drops_none k j b (ap (λ q. is_together comps q b.pred.0) (head_is p comps program components k x ek) ∙ e) in
            let no_lists : (if is_together comps x.head.pred.0 b.pred.0 then items_of lists x.head.pred.0 else []) ≡ [] = λ i. if e i then items_of lists x.head.pred.0 else [] in
            subst (λ (own : List (List LevelPart)). ArePlaces size own (drops_at p comps found k j (Some b))) (sym no_lists)
            (subst (ArePlaces size []) (sym none) (record { count = refl; each = tt }))
        go true e =
            let (c, ih) = atom_in p comps program components x.vars x.head is.head in
            let ib = together_in comps x.head.pred.0 b.pred.0 c ih e in
            let (f, at) = found_at expression p comps rows found program components founds c x.head.pred.0 ih in
            let answer = recursive_here p comps program components c k j x b ek ej ih ib in
            let deep = recursive_at p comps program components c x.head.pred.0 true ih answer in
            let found_f = founds.are c f at answer in
            let g = list_of (arity_in p x.head.pred.0) x.head.pred.0 in
            let own : (if is_together comps x.head.pred.0 b.pred.0 then items_of lists x.head.pred.0 else []) ≡ map g f.lists =
            (λ i. if e i then items_of lists x.head.pred.0 else []) ∙ printed_is expression p comps rows found program components founds x.head.pred.0 (member_below p comps program components c x.head.pred.0 ih)
            ∙ printed_deep expression p comps rows found program components founds c x.head.pred.0 f ih at deep in
            let all = drops_deep c k j x b f ek ih ib at in
            let bel2 = subst (AllByRecursion (AllByRecursion AreMultipliersBelow)) all bel in
            subst (λ (own : List (List LevelPart)). ArePlaces size own (drops_at p comps found k j (Some b))) (sym own)
            (subst (ArePlaces size (map g f.lists)) (sym all)
            (are_each (length (map g f.lists)) (λ m. IsPlace size (length (items_of (map g f.lists) m))) (map (place_of (suc k) (suc j)) f.lists)
            (length-map f.lists (place_of (suc k) (suc j)) ∙ sym (length-map f.lists g))
            (λ m bys em.
            let (l, el, same) = unmapped (place_of (suc k) (suc j)) f.lists m bys em in
            let il = by_places (IsDescendingList expression p comps (rows_of rows) c) f.lists found_f.lists m l el in
            let long : length l.measures ≡ length (items_of (map g f.lists) m) =
            sym (length-map l.measures (λ (ms : List Measure). part_or_zero (arity_in p x.head.pred.0) (level_in ms x.head.pred.0))) ∙ sym (ap length (list_is (map g f.lists) m ∙ mapped_list g f.lists m l el)) in
            subst (IsPlace size (length (items_of (map g f.lists) m))) same
            (subst (λ (z : ℕ). IsPlace size z (place_of (suc k) (suc j) l)) long
            (place_is c k j x b l ek ej ih ib il (subst (AllByRecursion AreMultipliersBelow) (sym same) (by_places (AllByRecursion AreMultipliersBelow) (map (place_of (suc k) (suc j)) f.lists) bel2 m bys em)))))))

    body_shape : (k : ℕ) (x : Clause) → slice_get p.clauses k ≡ Some x → AllByRecursion (AllByRecursion (AllByRecursion AreMultipliersBelow)) (drops_from p comps found k 0 x.body)
        → AreEach (length x.body) (λ j. ArePlaces (rows_of_atoms rows (take j x.body)) (lists_of_call comps lists x.head.pred.0 (slice_get x.body j))) (drops_from p comps found k 0 x.body)
    body_shape k x ek bel =
        are_each (length x.body) (λ j. ArePlaces (rows_of_atoms rows (take j x.body)) (lists_of_call comps lists x.head.pred.0 (slice_get x.body j))) (drops_from p comps found k 0 x.body)
        (drops_count p comps found k 0 x.body)
        (λ j ms ej.
        let less = place_below (drops_from p comps found k 0 x.body) j ms ej in
        let count = drops_count p comps found k 0 x.body in
        let (b, eb) = there x.body j (omega arith) in
        let zero_j : 0 + j ≡ j = omega arith in
        let made = drops_at_place p comps found k 0 x.body j b eb ∙ ap (λ i. Some (drops_at p comps found k i (Some b))) zero_j in
        let same : drops_at p comps found k j (Some b) ≡ ms = cc in
        subst (λ (o : Option Atom). ArePlaces (rows_of_atoms rows (take j x.body)) (lists_of_call comps lists x.head.pred.0 o) ms) (sym eb)
        (subst (ArePlaces (rows_of_atoms rows (take j x.body)) (lists_of_call comps lists x.head.pred.0 (Some b))) same
        (call_shape k j x b ek eb (subst (AllByRecursion (AllByRecursion AreMultipliersBelow)) (sym same) (by_places (AllByRecursion (AllByRecursion AreMultipliersBelow)) (drops_from p comps found k 0 x.body) bel j ms ej)))))

    clause_shape : (k : ℕ) (mss : List (List (List Multipliers))) → slice_get (printed_drops p comps found) k ≡ Some mss
        → AreEach (length (body_of p k)) (λ j. ArePlaces (rows_of_atoms rows (take j (body_of p k))) (lists_of_call comps lists (head_of p k) (slice_get (body_of p k) j))) mss
    clause_shape k mss e =
        let f = λ (k : ℕ). drops_from p comps found k 0 (body_of p k) in
        let l = place_below (printed_drops p comps found) k mss e in
        let count = mapped_count f (length p.clauses) in
        let less : k < length p.clauses = omega arith in
        let at = mapped_at f (length p.clauses) k less in
        let same : drops_from p comps found k 0 (body_of p k) ≡ mss = cc in
        let (x, ek) = there p.clauses k less in
        let head = sym (head_is p comps program components k x ek) in
        let body = sym (body_is p comps program components k x ek) in
        subst (AreEach (length (body_of p k)) (λ j. ArePlaces (rows_of_atoms rows (take j (body_of p k))) (lists_of_call comps lists (head_of p k) (slice_get (body_of p k) j)))) same
        (subst (λ (h : ℕ). AreEach (length (body_of p k)) (λ j. ArePlaces (rows_of_atoms rows (take j (body_of p k))) (lists_of_call comps lists h (slice_get (body_of p k) j))) (drops_from p comps found k 0 (body_of p k))) head
        (subst (λ (bs : List Atom). AreEach (length bs) (λ j. ArePlaces (rows_of_atoms rows (take j bs)) (lists_of_call comps lists x.head.pred.0 (slice_get bs j))) (drops_from p comps found k 0 bs)) body
        (body_shape k x ek (subst (λ (bs : List Atom). AllByRecursion (AllByRecursion (AllByRecursion AreMultipliersBelow)) (drops_from p comps found k 0 bs)) (sym body)
        (subst (AllByRecursion (AllByRecursion (AllByRecursion AreMultipliersBelow))) (sym same) (by_places (AllByRecursion (AllByRecursion (AllByRecursion AreMultipliersBelow))) (printed_drops p comps found) below k mss e))))))

    pub drops_shape : AreEach (length p.clauses)
        (λ k. AreEach (length (body_of p k)) (λ j. ArePlaces (rows_of_atoms rows (take j (body_of p k))) (lists_of_call comps lists (head_of p k) (slice_get (body_of p k) j))))
        (printed_drops p comps found)
    drops_shape =
        are_each (length p.clauses) (λ k. AreEach (length (body_of p k)) (λ j. ArePlaces (rows_of_atoms rows (take j (body_of p k))) (lists_of_call comps lists (head_of p k) (slice_get (body_of p k) j))))
        (printed_drops p comps found) (mapped_count (λ k. drops_from p comps found k 0 (body_of p k)) (length p.clauses)) clause_shape

  -- ---- what they show
  pub drops_are_shown : (k : ℕ) (x : Clause) → slice_get p.clauses k ≡ Some x → (j : ℕ) (b : Atom) → slice_get x.body j ≡ Some b → AreTogether comps x.head.pred.0 b.pred.0
      → (m : ℕ) → MeasuresDrop expression (short_system expression (rows_of rows) x.vars (take j x.body)) x b (list_at (list_at lists x.head.pred.0) m) (list_at (list_at lists b.pred.0) m) (list_at (list_at (list_at (printed_drops p comps found) k) j) m)
  drops_are_shown k x ek j b ej together m i head call by eh ec eb =
      let is = clause_is p comps program components k x ek in
      let (c, ih) = atom_in p comps program components x.vars x.head is.head in
      let ib : IsIn comps c b.pred.0 = sym together ∙ ih in
      let (f, at) = found_at expression p comps rows found program components founds c x.head.pred.0 ih in
      let answer = recursive_here p comps program components c k j x b ek ej ih ib in
      let found_f = founds.are c f at answer in
      let gh = list_of (arity_in p x.head.pred.0) x.head.pred.0 in
      let gb = list_of (arity_in p b.pred.0) b.pred.0 in
      let g = place_of (suc k) (suc j) in
      let heads = sym (list_is lists x.head.pred.0) ∙ printed_is expression p comps rows found program components founds x.head.pred.0 (member_below p comps program components c x.head.pred.0 ih)
      ∙ printed_deep expression p comps rows found program components founds c x.head.pred.0 f ih at (recursive_at p comps program components c x.head.pred.0 true ih answer) in
      let calls = sym (list_is lists b.pred.0) ∙ printed_is expression p comps rows found program components founds b.pred.0 (member_below p comps program components c b.pred.0 ib)
      ∙ printed_deep expression p comps rows found program components founds c b.pred.0 f ib at (recursive_at p comps program components c b.pred.0 true ib answer) in
      let bys = printed_drops_at k j x b ek ej ∙ drops_deep c k j x b f ek ih ib at in
      let (l, el, here) = deep_at gh f.lists m i head (ap (λ (ls : List (List LevelPart)). slice_get (list_at ls m) i) (sym heads) ∙ eh) in
      let (lc, elc, there_c) = deep_at gb f.lists m i call (ap (λ (ls : List (List LevelPart)). slice_get (list_at ls m) i) (sym calls) ∙ ec) in
      let (lb, elb, there_b) = deep_at g f.lists m i by (ap (λ (ls : List (List Multipliers)). slice_get (list_at ls m) i) (sym bys) ∙ eb) in
      let one : lc ≡ l = cc in
      let two : lb ≡ l = cc in
      let (ms, em, same_h) = unmapped (λ (ms : List Measure). part_or_zero (arity_in p x.head.pred.0) (level_in ms x.head.pred.0)) l.measures i head here in
      let (mc, emc, same_c) = unmapped (λ (ms : List Measure). part_or_zero (arity_in p b.pred.0) (level_in ms b.pred.0)) l.measures i call (ap (λ (z : MeasureList). slice_get (gb z) i) (sym one) ∙ there_c) in
      let three : mc ≡ ms = cc in
      let il = by_places (IsDescendingList expression p comps (rows_of rows) c) f.lists found_f.lists m l el in
      let im = by_places (HasMeasures p (members_in comps c)) l.measures il.measures i ms em in
      let (own, eo, has) = own_place c k j x b l ek ej ih ib il in
      let own_by : g l ≡ own = ap place_or_none eo in
      let all : list_at (list_at (list_at (printed_drops p comps found) k) j) m ≡ own = ap (λ (ls : List (List Multipliers)). list_at ls m) bys ∙ mapped_list g f.lists m l el ∙ own_by in
      let (hl, ehl) = level_there expression p comps rows found program components founds c x.head.pred.0 ms ih im in
      let (cl, ecl) = level_there expression p comps rows found program components founds c b.pred.0 ms ib im in
      let head_is : hl ≡ head = sym (ap (part_or_zero (arity_in p x.head.pred.0)) ehl) ∙ same_h in
      let call_is : cl ≡ call = sym (ap (part_or_zero (arity_in p b.pred.0)) ecl) ∙ sym (ap (λ (z : List Measure). part_or_zero (arity_in p b.pred.0) (level_in z b.pred.0)) three) ∙ same_c in
      let eby : slice_get own i ≡ Some by = ap (λ (z : List Multipliers). slice_get z i) (sym own_by ∙ sym (ap g two)) ∙ there_b in
      let s = (drop_is_shown c k j x b l ek ej own has i ms by em eby hl cl ehl ecl).1 in
      let system = short_system expression (rows_of rows) x.vars (take j x.body) in
      subst (λ (z : List Multipliers). IsShown system (drop_of expression (drop_at i (length z)) x b head call) by) (sym all)
      (subst (λ (y : LevelPart). IsShown system (drop_of expression (drop_at i (length own)) x b head y) by) call_is
      (subst (λ (y : LevelPart). IsShown system (drop_of expression (drop_at i (length own)) x b y cl) by) head_is s))
