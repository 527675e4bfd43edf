-- The parts that mappings give have their shape, and their numbers hold.
use Rattle.std.proofs.Common.{◌≡◌, ℕ, zero, suc, ◌+◌, ◌-◌, ◌<◌, ◌==◌, ◌&&◌, ℤ, Bool, true, false, if◌then◌else◌, List, [], ◌∷◌, length, map, take, slice_get, Any, Some, Option, inl, inr, refl, ap, sym, subst, ◌∙◌, arith, eq-eqb, eqb-true}
use Rattle.std.specs.Prelude.{option_and_then, option_map, unwrap_or}
use Rattle.std.specs.List.{AllByRecursion}
use Rattle.std.proofs.lemmas.Bool.{and_parts}
use Rattle.std.proofs.lemmas.List.{length-map}
use Rattle.std.proofs.lemmas.List.Sums.{sum_by-cons}
use Rattle.call_components.specs.Partition.{AreComponents, IsIn, Partition}
use Rattle.call_components.proofs.Lists.{some_within}
use Rattle.cert_checker.specs.Proved.{IsZero}
use Rattle.cert_checker.specs.Shape.{AreTogether}
use Rattle.cert_structure.specs.Numbered.{AreEach}
use Rattle.cert_structure.specs.Shape as shape
use Rattle.cert_structure.specs.Shape.{arity_in, body_of, first_of, head_of, is_own_call, is_recursive, is_same, is_together, items_of, mappings_of, proofs_of_call, rows_of_atoms}
use Rattle.cti_terms.specs.Listing.{IsAtom, IsClause, IsProgram, Listing}
use Rattle.cti_terms.specs.Tree.{Tree}
use Rattle.cti_terms.specs.declared.atom_list.Atom.{Atom}
use Rattle.cti_terms.specs.declared.clauses.Clause.{Clause}
use Rattle.cti_terms.specs.declared.predicates.Pred.{Pred}
use Rattle.level_systems.specs.Found.{IsFound}
use Rattle.level_systems.specs.Mappings.{IsFall, IsMappingOf, level_in}
use Rattle.level_systems.specs.Pairs.{calls_from, pairs_of}
use Rattle.level_systems.specs.declared.fall.Fall.{Fall}
use Rattle.level_systems.specs.declared.found.Found.{Found}
use Rattle.level_systems.specs.declared.mapping.Mapping.{Mapping}
use Rattle.linear_rows.specs.Members.{In}
use Rattle.linear_rows.specs.Showing.{AreMultipliers, IsShown}
use Rattle.linear_rows.specs.declared.multipliers.Multipliers.{Multipliers}
use Rattle.linear_rows.specs.declared.row.Rows.{Rows}
use Rattle.number_tests.specs.Proved.{MappingsFall, fall_of}
use Rattle.number_tests.specs.Shape.{IsLevelPart, list_at, row_count}
use Rattle.number_tests.specs.declared.level_part.LevelPart.{LevelPart}
use Rattle.precond_fixpoint.specs.Solving.{AreLevels}
use Rattle.termination_model.proofs.Lists.{by_places, indexed, place_below}
use Rattle.termination_model.specs.mappings.ComponentViews.{members_in, rank_in}
use Rattle.termination_model.specs.sizes.Sizes.{rows_of}
use Rattle.termination_model.specs.sizes.ShortSystems.{short_system}
use Rattle.cert_assembly.proofs.ChainParts.{are_each, multipliers_of, row_count_is}
use Rattle.cert_assembly.proofs.ModeLaws.{there}
use Rattle.cert_assembly.proofs.PartShapes.{all_mapped, all_weaker, all_in, unmapped, in_contains, list_is, zeros_zero, zero_is, part_is, level_is, measured, measure_there, in_calls, in_pairs, together_in}
use Rattle.cert_assembly.proofs.SetParts.{listed_at, mapped_at, mapped_count}
use Rattle.report.specs.Assembly.{AreFound}
use Rattle.report.specs.Levels.{by_or_none, fall_in, fall_list, falls_at, falls_from, level_list, levels_at, mappings_at, mappings_of_component}
use Rattle.cert_assembly.specs.Parted.{part_or_zero, zero_part}
use Rattle.cert_assembly.specs.Ranges.{AreMultipliersBelow, IsPartBelow}
use Rattle.cert_checker.proofs.Claims.{any_at}

-- ---- falls
fall_there : (fs : List Fall) (k j : ℕ) → In {X = ℕ × ℕ} (k, j) (map (λ (f : Fall). (f.clause, f.call)) fs) → (f : Fall) × In f fs × (fall_in fs k j ≡ Some f.by) × (f.clause ≡ k) × (f.call ≡ j)
fall_there [] k j h = absurd h
fall_there (f ∷ fs) k j h = go ((f.clause == k) && (f.call == j)) refl h (λ i. fall_there fs k j i)
  where
    yes : (f.clause ≡ k) → (f.call ≡ j) → ((f.clause == k) && (f.call == j)) ≡ true
    yes e g = let a = eq-eqb f.clause k e in let b = eq-eqb f.call j g in λ i. a i && b i

    go : (b : Bool) → ((f.clause == k) && (f.call == j)) ≡ b → In {X = ℕ × ℕ} (k, j) ((f.clause, f.call) ∷ map (λ (f : Fall). (f.clause, f.call)) fs)
        → (In {X = ℕ × ℕ} (k, j) (map (λ (f : Fall). (f.clause, f.call)) fs) → (g : Fall) × In g fs × (fall_in fs k j ≡ Some g.by) × (g.clause ≡ k) × (g.call ≡ j))
        → (g : Fall) × In g (f ∷ fs) × ((if b then Some f.by else fall_in fs k j) ≡ Some g.by) × (g.clause ≡ k) × (g.call ≡ j)
    go true t i later = let (a, b) = and_parts (f.clause == k) (f.call == j) t in (f, inl refl, refl, eqb-true f.clause k a, eqb-true f.call j b)
    go false t (inl e) later = let same = yes (ap (λ (x : ℕ × ℕ). x.0) e) (ap (λ (x : ℕ × ℕ). x.1) e) in cc
    go false t (inr i) later = let r = later i in (r.0, inr r.1, r.2, r.3, r.4)

-- ---- falls by calls
falls_count : (p : Listing) (comps : Partition) (found : List Found) (k i : ℕ) (bs : List Atom) → length (falls_from p comps found k i bs) ≡ length bs
falls_count p comps found k i [] = refl
falls_count p comps found k i (b ∷ bs) = ap suc (falls_count p comps found k (suc i) bs)

falls_there : (p : Listing) (comps : Partition) (found : List Found) (k i : ℕ) (bs : List Atom) (j : ℕ) (b : Atom) → slice_get bs j ≡ Some b → slice_get (falls_from p comps found k i bs) j ≡ Some (falls_at p comps found k (i + j) (Some b))
falls_there p comps found k i [] j b e = cc
falls_there p comps found k i (x ∷ bs) zero b e =
    let same : x ≡ b = cc in
    let here : i ≡ i + 0 = omega arith in
    λ t. Some (falls_at p comps found k (here t) (Some (same t)))
falls_there p comps found k i (x ∷ bs) (suc j) b e =
    let next : suc i + j ≡ i + suc j = omega arith in
    falls_there p comps found k (suc i) bs j b e ∙ ap (λ n. Some (falls_at p comps found k n (Some b))) next

module _ (expression : ℕ → Tree → List ℤ) (p : Listing) (comps : Partition) (rows : List Rows) (found : List Found)
    (program : IsProgram p) (components : AreComponents p comps) (founds : AreFound expression p comps rows found) where
  abbrev n : ℕ
  n = length p.preds

  abbrev levels : List (List LevelPart)
  levels = level_list p comps found

  pub found_at : (c q : ℕ) → IsIn comps c q → (f : Found) × (slice_get found c ≡ Some f)
  found_at c q inside = let below = components.within c q inside in let each = founds.each in there found c (omega arith)

  pub recursive_at : (c q : ℕ) (b : Bool) → IsIn comps c q → slice_get comps.recursive c ≡ Some b → is_recursive comps q ≡ b
  recursive_at c q b inside e = ap (λ (o : Option ℕ). unwrap_or (option_and_then (slice_get comps.recursive) o) false) inside ∙ ap (λ (o : Option Bool). unwrap_or o false) e

  pub answer_at : (c q : ℕ) (b : Bool) → IsIn comps c q → is_recursive comps q ≡ b → slice_get comps.recursive c ≡ Some b
  answer_at c q b inside e =
      let below = components.within c q inside in
      let answers = components.answers in
      let (d, at) = there comps.recursive c (omega arith) in
      at ∙ ap Some (sym (recursive_at c q d inside at) ∙ e)

  pub member_below : (c q : ℕ) → IsIn comps c q → q < n
  member_below c q inside = let l = place_below comps.of q c inside in let each = components.each in omega arith

  pub in_some : (q : ℕ) → q < n → (c : ℕ) × IsIn comps c q
  in_some q less = let each = components.each in there comps.of q (omega arith)

  pub mappings_are : (c q : ℕ) (f : Found) → IsIn comps c q → slice_get found c ≡ Some f → mappings_at comps found q ≡ f.mappings
  mappings_are c q f inside e = ap (mappings_of_component found) inside ∙ ap (λ (o : Option Found). unwrap_or (option_map (λ (x : Found). x.mappings) o) []) e

  pub levels_is : (q : ℕ) → q < n → items_of levels q ≡ levels_at p comps found q
  levels_is q less = listed_at (levels_at p comps found) n q less

  pub levels_flat : (q : ℕ) → is_recursive comps q ≡ false → levels_at p comps found q ≡ zero_part (arity_in p q) ∷ []
  levels_flat q e = λ i. if e i then map (λ (m : Mapping). part_or_zero (arity_in p q) (level_in m.measures q)) (mappings_at comps found q) else zero_part (arity_in p q) ∷ []

  pub levels_deep : (c q : ℕ) (f : Found) → IsIn comps c q → slice_get found c ≡ Some f → is_recursive comps q ≡ true → levels_at p comps found q ≡ map (λ (m : Mapping). part_or_zero (arity_in p q) (level_in m.measures q)) f.mappings
  levels_deep c q f inside at e =
      let ms = mappings_are c q f inside at in
      λ i. if e i then map (λ (m : Mapping). part_or_zero (arity_in p q) (level_in m.measures q)) (ms i) else zero_part (arity_in p q) ∷ []

  found_is : (c q : ℕ) (f : Found) → IsIn comps c q → slice_get found c ≡ Some f → is_recursive comps q ≡ true → IsFound expression p comps (rows_of rows) c f
  found_is c q f inside at e = founds.are c f at (answer_at c q true inside e)

  parts_are : (q : ℕ) → q < n → AllByRecursion (IsLevelPart (arity_in p q)) (levels_at p comps found q)
  parts_are q less = go (is_recursive comps q) refl
    where
      go : (b : Bool) → is_recursive comps q ≡ b → AllByRecursion (IsLevelPart (arity_in p q)) (levels_at p comps found q)
      go false e = subst (AllByRecursion (IsLevelPart (arity_in p q))) (sym (levels_flat q e)) (zero_is (arity_in p q), tt)
      go true e =
          let (c, inside) = in_some q less in
          let (f, at) = found_at c q inside in
          let is = found_is c q f inside at e in
          subst (AllByRecursion (IsLevelPart (arity_in p q))) (sym (levels_deep c q f inside at e))
          (all_mapped (IsLevelPart (arity_in p q)) (λ (m : Mapping). part_or_zero (arity_in p q) (level_in m.measures q)) f.mappings
          (all_weaker (IsMappingOf expression p (rows_of rows) comps c) (λ (m : Mapping). IsLevelPart (arity_in p q) (part_or_zero (arity_in p q) (level_in m.measures q)))
          (λ m im. part_is (arity_in p q) (level_in m.measures q) (λ l el. measured (λ (x : ℕ) (l : LevelPart). IsLevelPart (arity_in p x) l) m.measures q l im.measures.parts el)) f.mappings is.mappings))

  -- how many mappings a predicate has
  count_flat : (q : ℕ) → q < n → is_recursive comps q ≡ false → length (items_of levels q) ≡ 1
  count_flat q less e = ap length (levels_is q less ∙ levels_flat q e)

  pub count_deep : (c q : ℕ) (f : Found) → IsIn comps c q → slice_get found c ≡ Some f → is_recursive comps q ≡ true → length (items_of levels q) ≡ length f.mappings
  count_deep c q f inside at e = ap length (levels_is q (member_below c q inside) ∙ levels_deep c q f inside at e) ∙ length-map f.mappings (λ (m : Mapping). part_or_zero (arity_in p q) (level_in m.measures q))

  same_count : (c a b : ℕ) → IsIn comps c a → IsIn comps c b → length (items_of levels a) ≡ length (items_of levels b)
  same_count c a b ia ib = go (is_recursive comps a) refl
    where
      go : (t : Bool) → is_recursive comps a ≡ t → length (items_of levels a) ≡ length (items_of levels b)
      go false e = count_flat a (member_below c a ia) e ∙ sym (count_flat b (member_below c b ib) (recursive_at c b false ib (answer_at c a false ia e)))
      go true e =
          let (f, at) = found_at c a ia in
          count_deep c a f ia at e ∙ sym (count_deep c b f ib at (recursive_at c b true ib (answer_at c a true ia e)))

  arity_there : (q : ℕ) (x : Pred) → slice_get p.preds q ≡ Some x → arity_in p q ≡ x.arity
  arity_there q x e = ap (λ (o : Option Pred). unwrap_or (option_map (λ (d : Pred). d.arity) o) 0) e

  pub levels_are : AreLevels p comps levels
  levels_are = record {
    parts = record {
      each = mapped_count (levels_at p comps found) n;
      wide = λ q m x part e at.
          let less = place_below p.preds q x e in
          let own : slice_get (levels_at p comps found q) m ≡ Some part = ap (λ (ls : List LevelPart). slice_get ls m) (sym (levels_is q less)) ∙ at in
          (by_places (IsLevelPart (arity_in p q)) (levels_at p comps found q) (parts_are q less) m part own).each ∙ arity_there q x e;
    };
    together = same_count;
  }

  -- ---- the shape of levels
  first_in : (c q : ℕ) → IsIn comps c q → (m : ℕ) × (first_of comps q ≡ m) × IsIn comps c m
  first_in c q inside =
      let (ms, row) = there comps.members c (components.within c q inside) in
      let some = (components.ascending c ms row).1 in
      let (m, front) = there ms 0 some in (
        m,
        ap (λ (o : Option ℕ). unwrap_or (option_and_then (λ (xs : List ℕ). slice_get xs 0) (option_and_then (slice_get comps.members) o)) q) inside
            ∙ ap (λ (o : Option (List ℕ)). unwrap_or (option_and_then (λ (xs : List ℕ). slice_get xs 0) o) q) row
            ∙ ap (λ (o : Option ℕ). unwrap_or o q) front,
        (components.members c ms row m).0 (0, some, indexed ms 0 m m front),
      )

  mappings_count : (q : ℕ) → q < n → length (items_of levels q) ≡ mappings_of comps levels q
  mappings_count q less = go (is_recursive comps q) refl
    where
      inside : (c : ℕ) × IsIn comps c q
      inside = in_some q less

      go : (b : Bool) → is_recursive comps q ≡ b → length (items_of levels q) ≡ (if b then length (items_of levels (first_of comps q)) else 1)
      go false e = count_flat q less e
      go true e = let (m, first, im) = first_in inside.0 q inside.1 in same_count inside.0 q m inside.1 im ∙ ap (λ x. length (items_of levels x)) (sym first)

  module _ (below : AllByRecursion (AllByRecursion IsPartBelow) levels) where
    levels_at_place : (q : ℕ) (ls : List LevelPart) → slice_get levels q ≡ Some ls → (q < n) × (levels_at p comps found q ≡ ls)
    levels_at_place q ls e =
        let l = place_below levels q ls e in
        let count = mapped_count (levels_at p comps found) n in
        let less : q < n = omega arith in
        let at = mapped_at (levels_at p comps found) n q less in
        (less, let same : levels_at p comps found q ≡ ls = cc in same)

    both : (k : ℕ) (ls : List LevelPart) → AllByRecursion (IsLevelPart k) ls → AllByRecursion IsPartBelow ls → AllByRecursion (shape.IsLevel k) ls
    both k [] h b = tt
    both k (l ∷ ls) h b = (level_is k l h.0 b.0, both k ls h.1 b.1)

    level_shape : (q : ℕ) (ls : List LevelPart) → slice_get levels q ≡ Some ls → (length ls ≡ mappings_of comps levels q) × AllByRecursion (shape.IsLevel (arity_in p q)) ls
    level_shape q ls e =
        let (less, same) = levels_at_place q ls e in
        (ap length (sym same ∙ sym (levels_is q less)) ∙ mappings_count q less, both (arity_in p q) ls (subst (AllByRecursion (IsLevelPart (arity_in p q))) same (parts_are q less)) (by_places (AllByRecursion IsPartBelow) levels below q ls e))

    pub levels_shape : AreEach (length p.preds) (λ a ls. (length ls ≡ mappings_of comps levels a) × AllByRecursion (shape.IsLevel (arity_in p a)) ls) levels
    levels_shape = are_each n (λ a ls. (length ls ≡ mappings_of comps levels a) × AllByRecursion (shape.IsLevel (arity_in p a)) ls) levels (mapped_count (levels_at p comps found) n) level_shape

  pub measures_zero : (c q : ℕ) → IsIn comps c q → slice_get comps.recursive c ≡ Some false → AllByRecursion IsZero (list_at levels q)
  measures_zero c q inside e =
      let flat = recursive_at c q false inside e in
      subst (AllByRecursion IsZero) (sym (levels_flat q flat) ∙ sym (levels_is q (member_below c q inside)) ∙ list_is levels q) ((refl, zeros_zero (arity_in p q)), tt)

  -- ---- falls
  pub level_there : (c q : ℕ) (m : Mapping) → IsIn comps c q → IsMappingOf expression p (rows_of rows) comps c m → (l : LevelPart) × (level_in m.measures q ≡ Some l)
  level_there c q m inside im =
      let (ms, row) = there comps.members c (components.within c q inside) in
      let member = in_contains ms q ((components.members c ms row q).1 inside) in
      let all : members_in comps c ≡ ms = indexed comps.members c ms [] row in
      measure_there m.measures q (subst (In q) (sym (im.measures.each ∙ all)) member)

  rank_is : (c q : ℕ) → IsIn comps c q → (rank_in comps q == c) ≡ true
  rank_is c q inside = eq-eqb (rank_in comps q) c (indexed comps.of q c (length comps.members) inside)

  pub own_fall : (c k j : ℕ) (x : Clause) (b : Atom) (m : Mapping) → slice_get p.clauses k ≡ Some x → slice_get x.body j ≡ Some b → IsIn comps c x.head.pred.0 → IsIn comps c b.pred.0 → IsMappingOf expression p (rows_of rows) comps c m
      → (by : Multipliers) × (fall_in m.falls (suc k) (suc j) ≡ Some by)
      × ((head call : LevelPart) → level_in m.measures x.head.pred.0 ≡ Some head → level_in m.measures b.pred.0 ≡ Some call
      → AreMultipliers (row_count (rows_of rows) (take j x.body)) by × IsShown (short_system expression (rows_of rows) x.vars (take j x.body)) (fall_of expression x b head call) by)
  own_fall c k j x b m ek ej ih ib im =
      let zero_k : 0 + k ≡ k = omega arith in
      let zero_j : 0 + j ≡ j = omega arith in
      let pair : In {X = ℕ × ℕ} (suc k, suc j) (pairs_of p comps c) =
      in_pairs comps c 0 p.clauses k x (suc k, suc j) ek (rank_is c x.head.pred.0 ih)
      (subst (λ (y : ℕ × ℕ). In y (calls_from comps c (suc (0 + k)) 0 x.body)) (λ i. (suc (zero_k i), suc (zero_j i))) (in_calls comps c (suc (0 + k)) 0 x.body j b ej (rank_is c b.pred.0 ib))) in
      let (f, inf, found_by, ec, eb) = fall_there m.falls (suc k) (suc j) (subst (In {X = ℕ × ℕ} (suc k, suc j)) (sym im.pairs) pair) in
      let is = all_in (IsFall expression p (rows_of rows) m.measures) m.falls f im.falls inf in
      let back_k : suc k - 1 ≡ k = omega arith in
      let back_j : suc j - 1 ≡ j = omega arith in
      let at_k : f.clause - 1 ≡ k = ap (λ z. z - 1) ec ∙ back_k in
      let at_j : f.call - 1 ≡ j = ap (λ z. z - 1) eb ∙ back_j in (
        f.by,
        found_by,
        λ head call eh el.
            subst (λ z. AreMultipliers (row_count (rows_of rows) (take z x.body)) f.by × IsShown (short_system expression (rows_of rows) x.vars (take z x.body)) (fall_of expression x b head call) f.by) at_j
            (is x b head call (ap (slice_get p.clauses) at_k ∙ ek) (ap (slice_get x.body) at_j ∙ ej) eh el),
      )

  clause_is : (k : ℕ) (x : Clause) → slice_get p.clauses k ≡ Some x → IsClause p.preds x
  clause_is = by_places (IsClause p.preds) p.clauses program.clauses

  atom_in : (vars : ℕ) (a : Atom) → IsAtom p.preds vars a → (c : ℕ) × IsIn comps c a.pred.0
  atom_in vars a is = in_some a.pred.0 (some_within (λ (d : Pred). d.arity ≡ length a.args) p.preds a.pred.0 is.arity)

  head_is : (k : ℕ) (x : Clause) → slice_get p.clauses k ≡ Some x → head_of p k ≡ x.head.pred.0
  head_is k x e = ap (λ (o : Option Clause). unwrap_or (option_map (λ (c : Clause). c.head.pred.0) o) 0) e

  body_is : (k : ℕ) (x : Clause) → slice_get p.clauses k ≡ Some x → body_of p k ≡ x.body
  body_is k x e = ap (λ (o : Option Clause). unwrap_or (option_map (λ (c : Clause). c.body) o) []) e

  -- a component with such a call is recursive
  recursive_here : (c k j : ℕ) (x : Clause) (b : Atom) → slice_get p.clauses k ≡ Some x → slice_get x.body j ≡ Some b → IsIn comps c x.head.pred.0 → IsIn comps c b.pred.0 → slice_get comps.recursive c ≡ Some true
  recursive_here c k j x b ek ej ih ib =
      let below = components.within c x.head.pred.0 ih in
      let answers = components.answers in
      let (d, at) = there comps.recursive c (omega arith) in
      let yes = (components.recursive c d at).1 (x.head.pred.0, b.pred.0, ih, ib, any_at (λ (y : Clause). (y.head.pred.0 ≡ x.head.pred.0) × Any (λ (a : Atom). a.pred.0 ≡ b.pred.0) y.body) p.clauses k x ek (refl, any_at (λ (a : Atom). a.pred.0 ≡ b.pred.0) x.body j b ej refl)) in
      at ∙ ap Some yes

  -- the multipliers of an own call, by mapping
  falls_deep : (c k j : ℕ) (x : Clause) (b : Atom) (f : Found) → slice_get p.clauses k ≡ Some x → IsIn comps c x.head.pred.0 → IsIn comps c b.pred.0 → slice_get found c ≡ Some f
      → falls_at p comps found k j (Some b) ≡ map (λ (m : Mapping). by_or_none (fall_in m.falls (suc k) (suc j))) f.mappings
  falls_deep c k j x b f ek ih ib at =
      let head = head_is k x ek in
      let own : is_own_call comps (head_of p k) (Some b) ≡ true = ap (λ q. is_together comps q b.pred.0) head ∙ same_in c x.head.pred.0 b.pred.0 ih ib in
      let ms = ap (mappings_at comps found) head ∙ mappings_are c x.head.pred.0 f ih at in
      λ i. if own i then map (λ (m : Mapping). by_or_none (fall_in m.falls (suc k) (suc j))) (ms i) else []
    where
      self : (z : ℕ) → (z == z) ≡ true
      self z = eq-eqb z z refl

      same_in : (c a b : ℕ) → IsIn comps c a → IsIn comps c b → is_together comps a b ≡ true
      same_in c a b ia ib = (λ i. is_same (ia i) (ib i)) ∙ self c

  falls_none : (k j : ℕ) (b : Atom) → is_own_call comps (head_of p k) (Some b) ≡ false → falls_at p comps found k j (Some b) ≡ []
  falls_none k j b e = λ i. if e i then map (λ (m : Mapping). by_or_none (fall_in m.falls (suc k) (suc j))) (mappings_at comps found (head_of p k)) else []

  atom_counts : (bs : List Atom) → row_count (rows_of rows) bs ≡ rows_of_atoms rows bs
  atom_counts [] = refl
  atom_counts (b ∷ bs) = omega (arith, sum_by-cons (λ (a : Atom). shape.rows_of rows a.pred.0) b bs, row_count_is rows b.pred.0, atom_counts bs)

  module _ (below : AllByRecursion (AllByRecursion (AllByRecursion AreMultipliersBelow)) (fall_list p comps found)) where
    call_shape : (k j : ℕ) (x : Clause) (b : Atom) → slice_get p.clauses k ≡ Some x → slice_get x.body j ≡ Some b → AllByRecursion AreMultipliersBelow (falls_at p comps found k j (Some b))
        → AreEach (proofs_of_call comps levels x.head.pred.0 (Some b)) (λ _. shape.HaveMultipliers (rows_of_atoms rows (take j x.body))) (falls_at p comps found k j (Some b))
    call_shape k j x b ek ej bel = go (is_together comps x.head.pred.0 b.pred.0) refl
      where
        is : IsClause p.preds x
        is = clause_is k x ek

        go : (t : Bool) → is_together comps x.head.pred.0 b.pred.0 ≡ t → AreEach (if is_together comps x.head.pred.0 b.pred.0 then length (items_of levels x.head.pred.0) else 0) (λ _. shape.HaveMultipliers (rows_of_atoms rows (take j x.body))) (falls_at p comps found k j (Some b))
        go false e =
            let none = falls_none k j b (ap (λ q. is_together comps q b.pred.0) (head_is k x ek) ∙ e) in
            are_each (if is_together comps x.head.pred.0 b.pred.0 then length (items_of levels x.head.pred.0) else 0) (λ _. shape.HaveMultipliers (rows_of_atoms rows (take j x.body))) (falls_at p comps found k j (Some b))
            (ap length none ∙ sym (λ i. if e i then length (items_of levels x.head.pred.0) else 0))
            (λ m by at. let gone : slice_get {X = Multipliers} [] m ≡ Some by = ap (λ (ms : List Multipliers). slice_get ms m) (sym none) ∙ at in absurd (empty m by gone))
          where
            empty : (m : ℕ) (by : Multipliers) → slice_get {X = Multipliers} [] m ≡ Some by → ⊥
            empty m by g = cc
        go true e =
            let (c, ih) = atom_in x.vars x.head is.head in
            let ib = together_in comps x.head.pred.0 b.pred.0 c ih e in
            let (f, at) = found_at c x.head.pred.0 ih in
            let answer = recursive_here c k j x b ek ej ih ib in
            let deep = recursive_at c x.head.pred.0 true ih answer in
            let found_f = founds.are c f at answer in
            let all = falls_deep c k j x b f ek ih ib at in
            let g = λ (m : Mapping). by_or_none (fall_in m.falls (suc k) (suc j)) in
            are_each (if is_together comps x.head.pred.0 b.pred.0 then length (items_of levels x.head.pred.0) else 0) (λ _. shape.HaveMultipliers (rows_of_atoms rows (take j x.body))) (falls_at p comps found k j (Some b))
            (ap length all ∙ length-map f.mappings g ∙ sym (count_deep c x.head.pred.0 f ih at deep) ∙ sym (λ i. if e i then length (items_of levels x.head.pred.0) else 0))
            (λ m by eb.
            let (mm, em, same) = unmapped g f.mappings m by (ap (λ (ms : List Multipliers). slice_get ms m) (sym all) ∙ eb) in
            let im = by_places (IsMappingOf expression p (rows_of rows) comps c) f.mappings found_f.mappings m mm em in
            let (real, ef, shown) = own_fall c k j x b mm ek ej ih ib im in
            let (head, eh) = level_there c x.head.pred.0 mm ih im in
            let (call, el) = level_there c b.pred.0 mm ib im in
            let is_real : by ≡ real = sym same ∙ ap by_or_none ef in
            multipliers_of (row_count (rows_of rows) (take j x.body)) (rows_of_atoms rows (take j x.body)) by (atom_counts (take j x.body))
            (subst (AreMultipliers (row_count (rows_of rows) (take j x.body))) (sym is_real) (shown head call eh el).0)
            (by_places AreMultipliersBelow (falls_at p comps found k j (Some b)) bel m by eb))

    body_shape : (k : ℕ) (x : Clause) → slice_get p.clauses k ≡ Some x → AllByRecursion (AllByRecursion AreMultipliersBelow) (falls_from p comps found k 0 x.body)
        → AreEach (length x.body) (λ j. AreEach (proofs_of_call comps levels x.head.pred.0 (slice_get x.body j)) (λ _. shape.HaveMultipliers (rows_of_atoms rows (take j x.body)))) (falls_from p comps found k 0 x.body)
    body_shape k x ek bel =
        are_each (length x.body) (λ j. AreEach (proofs_of_call comps levels x.head.pred.0 (slice_get x.body j)) (λ _. shape.HaveMultipliers (rows_of_atoms rows (take j x.body)))) (falls_from p comps found k 0 x.body)
        (falls_count p comps found k 0 x.body)
        (λ j ms ej.
        let less = place_below (falls_from p comps found k 0 x.body) j ms ej in
        let count = falls_count p comps found k 0 x.body in
        let (b, eb) = there x.body j (omega arith) in
        let zero_j : 0 + j ≡ j = omega arith in
        let made = falls_there p comps found k 0 x.body j b eb ∙ ap (λ i. Some (falls_at p comps found k i (Some b))) zero_j in
        let same : falls_at p comps found k j (Some b) ≡ ms = cc in
        subst (λ (o : Option Atom). AreEach (proofs_of_call comps levels x.head.pred.0 o) (λ _. shape.HaveMultipliers (rows_of_atoms rows (take j x.body))) ms) (sym eb)
        (subst (AreEach (proofs_of_call comps levels x.head.pred.0 (Some b)) (λ _. shape.HaveMultipliers (rows_of_atoms rows (take j x.body)))) same
        (call_shape k j x b ek eb (subst (AllByRecursion AreMultipliersBelow) (sym same) (by_places (AllByRecursion AreMultipliersBelow) (falls_from p comps found k 0 x.body) bel j ms ej)))))

    clause_shape : (k : ℕ) (mss : List (List Multipliers)) → slice_get (fall_list p comps found) k ≡ Some mss
        → AreEach (length (body_of p k)) (λ j. AreEach (proofs_of_call comps levels (head_of p k) (slice_get (body_of p k) j)) (λ _. shape.HaveMultipliers (rows_of_atoms rows (take j (body_of p k))))) mss
    clause_shape k mss e =
        let f = λ (k : ℕ). falls_from p comps found k 0 (body_of p k) in
        let l = place_below (fall_list p comps found) k mss e in
        let count = mapped_count f (length p.clauses) in
        let less : k < length p.clauses = omega arith in
        let at = mapped_at f (length p.clauses) k less in
        let same : falls_from p comps found k 0 (body_of p k) ≡ mss = cc in
        let (x, ek) = there p.clauses k less in
        let head = sym (head_is k x ek) in
        let body = sym (body_is k x ek) in
        subst (AreEach (length (body_of p k)) (λ j. AreEach (proofs_of_call comps levels (head_of p k) (slice_get (body_of p k) j)) (λ _. shape.HaveMultipliers (rows_of_atoms rows (take j (body_of p k)))))) same
        (subst (λ (h : ℕ). AreEach (length (body_of p k)) (λ j. AreEach (proofs_of_call comps levels h (slice_get (body_of p k) j)) (λ _. shape.HaveMultipliers (rows_of_atoms rows (take j (body_of p k))))) (falls_from p comps found k 0 (body_of p k))) head
        (subst (λ (bs : List Atom). AreEach (length bs) (λ j. AreEach (proofs_of_call comps levels x.head.pred.0 (slice_get bs j)) (λ _. shape.HaveMultipliers (rows_of_atoms rows (take j bs)))) (falls_from p comps found k 0 bs)) body
        (body_shape k x ek (subst (λ (bs : List Atom). AllByRecursion (AllByRecursion AreMultipliersBelow) (falls_from p comps found k 0 bs)) (sym body) (subst (AllByRecursion (AllByRecursion AreMultipliersBelow)) (sym same) (by_places (AllByRecursion (AllByRecursion AreMultipliersBelow)) (fall_list p comps found) below k mss e))))))

    pub falls_shape : AreEach (length p.clauses)
        (λ k. AreEach (length (body_of p k)) (λ j. AreEach (proofs_of_call comps levels (head_of p k) (slice_get (body_of p k) j)) (λ _. shape.HaveMultipliers (rows_of_atoms rows (take j (body_of p k))))))
        (fall_list p comps found)
    falls_shape =
        are_each (length p.clauses) (λ k. AreEach (length (body_of p k)) (λ j. AreEach (proofs_of_call comps levels (head_of p k) (slice_get (body_of p k) j)) (λ _. shape.HaveMultipliers (rows_of_atoms rows (take j (body_of p k))))))
        (fall_list p comps found) (mapped_count (λ k. falls_from p comps found k 0 (body_of p k)) (length p.clauses)) clause_shape

  -- the falls that are listed at a call
  listed_falls : (k j : ℕ) (x : Clause) (b : Atom) → slice_get p.clauses k ≡ Some x → slice_get x.body j ≡ Some b → list_at (list_at (fall_list p comps found) k) j ≡ falls_at p comps found k j (Some b)
  listed_falls k j x b ek ej =
      let f = λ (k : ℕ). falls_from p comps found k 0 (body_of p k) in
      let less = place_below p.clauses k x ek in
      let first = sym (list_is (fall_list p comps found) k) ∙ listed_at f (length p.clauses) k less ∙ ap (falls_from p comps found k 0) (body_is k x ek) in
      let zero_j : 0 + j ≡ j = omega arith in
      ap (λ (xs : List (List Multipliers)). list_at xs j) first
      ∙ indexed (falls_from p comps found k 0 x.body) j (falls_at p comps found k (0 + j) (Some b)) [] (falls_there p comps found k 0 x.body j b ej)
      ∙ ap (λ i. falls_at p comps found k i (Some b)) zero_j

  pub falls_are_shown : (k : ℕ) (x : Clause) → slice_get p.clauses k ≡ Some x → (j : ℕ) (b : Atom) → slice_get x.body j ≡ Some b → AreTogether comps x.head.pred.0 b.pred.0
      → MappingsFall expression (short_system expression (rows_of rows) x.vars (take j x.body)) x b (list_at levels x.head.pred.0) (list_at levels b.pred.0) (list_at (list_at (fall_list p comps found) k) j)
  falls_are_shown k x ek j b ej together m head call by eh ec eb =
      let is = clause_is k x ek in
      let (c, ih) = atom_in x.vars x.head is.head in
      let ib : IsIn comps c b.pred.0 = sym together ∙ ih in
      let (f, at) = found_at c x.head.pred.0 ih in
      let answer = recursive_here c k j x b ek ej ih ib in
      let found_f = founds.are c f at answer in
      let gh = λ (m : Mapping). part_or_zero (arity_in p x.head.pred.0) (level_in m.measures x.head.pred.0) in
      let gb = λ (m : Mapping). part_or_zero (arity_in p b.pred.0) (level_in m.measures b.pred.0) in
      let g = λ (m : Mapping). by_or_none (fall_in m.falls (suc k) (suc j)) in
      let heads = sym (list_is levels x.head.pred.0) ∙ levels_is x.head.pred.0 (member_below c x.head.pred.0 ih) ∙ levels_deep c x.head.pred.0 f ih at (recursive_at c x.head.pred.0 true ih answer) in
      let calls = sym (list_is levels b.pred.0) ∙ levels_is b.pred.0 (member_below c b.pred.0 ib) ∙ levels_deep c b.pred.0 f ib at (recursive_at c b.pred.0 true ib answer) in
      let bys = listed_falls k j x b ek ej ∙ falls_deep c k j x b f ek ih ib at in
      let (mm, em, same_h) = unmapped gh f.mappings m head (ap (λ (ls : List LevelPart). slice_get ls m) (sym heads) ∙ eh) in
      let (mc, emc, same_c) = unmapped gb f.mappings m call (ap (λ (ls : List LevelPart). slice_get ls m) (sym calls) ∙ ec) in
      let (mb, emb, same_b) = unmapped g f.mappings m by (ap (λ (ls : List Multipliers). slice_get ls m) (sym bys) ∙ eb) in
      let one : mc ≡ mm = cc in
      let two : mb ≡ mm = cc in
      let im = by_places (IsMappingOf expression p (rows_of rows) comps c) f.mappings found_f.mappings m mm em in
      let (real, ef, shown) = own_fall c k j x b mm ek ej ih ib im in
      let (hl, ehl) = level_there c x.head.pred.0 mm ih im in
      let (cl, ecl) = level_there c b.pred.0 mm ib im in
      let head_is : hl ≡ head = sym (ap (part_or_zero (arity_in p x.head.pred.0)) ehl) ∙ same_h in
      let call_is : cl ≡ call = sym (ap (part_or_zero (arity_in p b.pred.0)) ecl) ∙ sym (ap gb one) ∙ same_c in
      let by_is : real ≡ by = sym (ap by_or_none ef) ∙ sym (ap g two) ∙ same_b in
      let s = (shown hl cl ehl ecl).1 in
      subst (λ (y : Multipliers). IsShown (short_system expression (rows_of rows) x.vars (take j x.body)) (fall_of expression x b head call) y) by_is
      (subst (λ (y : LevelPart). IsShown (short_system expression (rows_of rows) x.vars (take j x.body)) (fall_of expression x b head y) real) call_is
      (subst (λ (y : LevelPart). IsShown (short_system expression (rows_of rows) x.vars (take j x.body)) (fall_of expression x b y cl) real) head_is s))
