-- The mappings of a program after an edit, component by component.
use Rattle.std.proofs.Common.{◌≡◌, ℕ, suc, ◌+◌, ◌-◌, ◌<◌, ℤ, Bool, true, false, inl, List, [], ◌∷◌, ◌++◌, map, length, slice_get, slice_index_or, Bor, Option, None, Some, Ok, Err, refl, ap, sym, subst, ◌∙◌, arith}
use Rattle.std.specs.Prelude.{IfOk, IfSome, Result, option_map}
use Rattle.std.specs.List.{AllByRecursion}
use Rattle.call_components.specs.Partition.{Partition, AreComponents, IsIn}
use Rattle.cti_terms.specs.Listing.{Listing, IsProgram}
use Rattle.cti_terms.specs.declared.clauses.Clause.{Clause}
use Rattle.linear_rows.specs.Members.{In}
use Rattle.cti_terms.specs.Tree.{Tree}
use Rattle.component_clauses.specs.Numbered.{AreOwnClauses}
use Rattle.termination_model.specs.chains.Chain.{clauses_of}
use Rattle.termination_model.specs.mappings.ComponentViews.{members_in}
use Rattle.termination_model.specs.sizes.Sizes.{rows_of}
use Rattle.termination_model.proofs.Lists.{place_below, there}
use Rattle.level_systems.specs.Found.{nothing}
use Rattle.level_systems.specs.Mappings.{IsMappingOf}
use Rattle.level_systems.specs.declared.found.Found.{Found}
use Rattle.level_systems.specs.declared.mapping.Mapping.{Mapping}
use Rattle.level_systems.specs.declared.measure.Measure.{Measure}
use Rattle.solved_program.specs.Resolving.{Stands}
use Rattle.solved_program.specs.Standing.{AreSameClauses, StandsFor}
use Rattle.solved_program.specs.Kept.{AreKept}
use Rattle.solved_program.specs.declared.edit.Edit.{Edit}
use Rattle.solved_program.proofs.Pairs.{pair_back}
use Rattle.solved_program.proofs.Clauses.{own_at, own_component}
use Rattle.solved_program.proofs.Resolved.{each_more, one_longer}
use Rattle.carried_mappings.specs.Carrying.{AreClauseNumbers, CarriesOver, IsStanding, new_number}
use Rattle.carried_mappings.specs.Moved.{moved, moved_found, moved_refutation}
use Rattle.carried_mappings.specs.Order.{AreSameMappings, HaveSameMembers, HaveSameOrder}
use Rattle.carried_mappings.specs.FoundMappings.{AreFound, AreFoundTo, AreKeptFound, AreMappingSources, IsCarriedAt, IsFoundAt, IsKept, IsKeptFrom, number_in}
use Rattle.carried_mappings.specs.declared.resolving.MappingSources.{MappingSources}
use Rattle.carried_mappings.specs.declared.standing.Standing.{Standing}
use Rattle.carried_mappings.proofs.Carries.{own_numbers}
use Rattle.carried_mappings.proofs.Members.{recursive_alike, same_members}
use Rattle.carried_mappings.proofs.Numbers.{Numbered, numbers_of}

pub own_of : (p : Listing) (comps : Partition) (lists : List (List ℕ)) → AreOwnClauses p comps lists → (c : ℕ) (own : List ℕ) → slice_get lists c ≡ Some own → AreClauseNumbers p comps c own
own_of p comps lists are c own at = record { within = are.within c own at; clauses = are.clauses c own at }

pub if_some_is : {X : Type 0} (o : Option X) (P Q : X → Type 0) → ((x : X) → P x → Q x) → IfSome o P → IfSome o Q
if_some_is None P Q h i = i
if_some_is (Some x) P Q h i = h x i

-- clauses that are the same are as many
as_many : {X : Type 0} (comps new_comps : Partition) (b c : ℕ) (old now : ℕ → X) (kept : List (Option ℕ)) (ks ls : List Numbered) → AreSameClauses comps new_comps b c old now kept ks ls
    → length (numbers_of ks) ≡ length (numbers_of ls)
as_many comps new_comps b c old now kept [] [] h = refl
as_many comps new_comps b c old now kept [] (l ∷ ls) h = absurd h
as_many comps new_comps b c old now kept (k ∷ ks) [] h = absurd h
as_many comps new_comps b c old now kept (k ∷ ks) (l ∷ ls) h = ap suc (as_many comps new_comps b c old now kept ks ls h.1)

-- a component that stands, as it is carried
abbrev pub standing_at : MappingSources → ℕ → ℕ → Bor (List ℕ) → Bor (List ℕ) → Standing
standing_at s b c own_before own = record {
  edit = s.sources.edit;
  before = b;
  after = c;
  own_before = own_before;
  own = own;
}

-- ---- a component stands for one old component at most
one_before : (p new : Listing) (comps new_comps : Partition) (prog : IsProgram p) (new_prog : IsProgram new) (are : AreComponents p comps) (new_are : AreComponents new new_comps)
    (kept : List (Option ℕ)) (are_kept : AreKept p new kept) (b d c : ℕ) (old now : ℕ → List (List ℤ)) → StandsFor comps new_comps b c old now p new kept → StandsFor comps new_comps d c old now p new kept → b ≡ d
one_before p new comps new_comps prog new_prog are new_are kept are_kept b d c old now x y = go (clauses_of new new_comps c) refl
  where
    go : (ls : List Numbered) → clauses_of new new_comps c ≡ ls → b ≡ d
    go [] e = absurd (x.some e)
    go (l ∷ ls) e =
        let i : In l (clauses_of new new_comps c) = subst (In l) (sym e) (inl refl) in
        let k = pair_back p new comps new_comps prog new_prog are new_are kept are_kept b c old now (clauses_of p comps b) (clauses_of new new_comps c) x.clauses l i in
        let j = pair_back p new comps new_comps prog new_prog are new_are kept are_kept d c old now (clauses_of p comps d) (clauses_of new new_comps c) y.clauses l i in
        let first = k.2.kept_as in
        let second = j.2.kept_as in
        let number : k.0.0 ≡ j.0.0 = cc in
        let at = own_at p comps prog are b k.0 k.1 in
        let there : slice_get p.clauses (k.0.0 - 1) ≡ Some j.0.1 = ap (λ (n : ℕ). slice_get p.clauses (n - 1)) number ∙ own_at p comps prog are d j.0 j.1 in
        let clause : k.0.1 ≡ j.0.1 = cc in
        let here = own_component p comps prog are b k.0 k.1 in
        let also : IsIn comps d k.0.1.head.pred.0 = ap (λ (z : Clause). slice_get comps.of z.head.pred.0) clause ∙ own_component p comps prog are d j.0 j.1 in
        cc

module _ (s : MappingSources) (are : AreMappingSources s) (b c : ℕ) (stands : Stands s.sources s.sizes.now.rows b c)
    (prog : IsProgram s.sources.edit.now.before.now) (new_prog : IsProgram s.sources.edit.now.after.now) where
  one_standing : (d : ℕ) → Stands s.sources s.sizes.now.rows d c → d ≡ b
  one_standing d other =
      let e = s.sources.edit.now in
      one_before e.before.now e.after.now e.components_before.now e.components.now prog new_prog are.sources.edit.components_before are.sources.edit.components e.kept.now are.sources.edit.kept d b c
      (rows_of s.sources.old.now.sizes.rows) (rows_of s.sizes.now.rows) other stands

-- where the component is not recursive, nothing was found of the old one
pub nothing_kept : (s : MappingSources) → AreMappingSources s → IsProgram s.sources.edit.now.before.now → IsProgram s.sources.edit.now.after.now
    → (c : ℕ) → slice_get s.sources.edit.now.components.now.recursive c ≡ Some false → IsKept s c nothing
nothing_kept s are prog new_prog c not_so b x stands found =
    let e = s.sources.edit.now in
    let inner = place_below s.found.now b x found in
    let before = there e.components_before.now.recursive b true (let l = are.sources.edit.components_before.answers in let k = are.each in omega arith) in
    let alike = recursive_alike e.before.now e.after.now e.components_before.now e.components.now prog new_prog are.sources.edit.components_before are.sources.edit.components e.kept.now are.sources.edit.kept b c
    (rows_of s.sources.old.now.sizes.rows) (rows_of s.sizes.now.rows) stands (slice_index_or e.components_before.now.recursive b true) false before not_so in
    let none : x ≡ nothing = are.others b x found (before ∙ ap Some alike) in
    subst (λ (y : Found). IsKeptFrom e b c y nothing) (sym none) (record {
      mappings = record { there = λ y i. absurd i; before = λ y i. absurd i };
      refutation = refl;
      moved = λ order. refl;
    })

module _ (s : MappingSources) (are : AreMappingSources s) (b c : ℕ) (inner_before : b < length s.sources.edit.now.components_before.now.members) (inner : c < length s.sources.edit.now.components.now.members)
    (stands : Stands s.sources s.sizes.now.rows b c) (own_before own : Bor (List ℕ)) (at_before : slice_get s.sources.own_before.now b ≡ Some own_before.now) (at : slice_get s.sources.own.now c ≡ Some own.now) where
  abbrev p : Listing
  p = s.sources.edit.now.before.now

  abbrev new : Listing
  new = s.sources.edit.now.after.now

  abbrev comps : Partition
  comps = s.sources.edit.now.components_before.now

  abbrev new_comps : Partition
  new_comps = s.sources.edit.now.components.now

  pub standing_is : IsStanding (standing_at s b c own_before own)
  standing_is =
      let old_own = own_of p comps s.sources.own_before.now are.sources.own_before b own_before.now at_before in
      let new_own = own_of new new_comps s.sources.own.now are.sources.own c own.now at in
      record {
        edit = are.sources.edit;
        before = inner_before;
        after = inner;
        own_before = old_own;
        own = new_own;
        each = ap length (own_numbers p comps b own_before.now old_own)
            ∙ as_many comps new_comps b c (rows_of s.sources.old.now.sizes.rows) (rows_of s.sizes.now.rows) s.sources.edit.now.kept.now (clauses_of p comps b) (clauses_of new new_comps c) stands.clauses
            ∙ sym (ap length (own_numbers new new_comps c own.now new_own));
      }

  pub carried_is : IsProgram p → IsProgram new → slice_get new_comps.recursive c ≡ Some true → (x y : Found) → slice_get s.found.now b ≡ Some x
      → CarriesOver (standing_at s b c own_before own) x y → IsCarriedAt s c y
  carried_is prog new_prog so x y found over expression old kept =
      let before = there comps.recursive b true (let l = are.sources.edit.components_before.answers in omega arith) in
      let alike = recursive_alike p new comps new_comps prog new_prog are.sources.edit.components_before are.sources.edit.components s.sources.edit.now.kept.now are.sources.edit.kept b c
      (rows_of s.sources.old.now.sizes.rows) (rows_of s.sizes.now.rows) stands (slice_index_or comps.recursive b true) true before so in
      over expression (rows_of s.sources.old.now.sizes.rows) (rows_of s.sizes.now.rows) stands (kept b c inner stands) ((old.found b x found).recursive (before ∙ ap Some alike))

  -- ---- what is kept
  module _ (prog : IsProgram p) (new_prog : IsProgram new) where
    abbrev e : Edit
    e = s.sources.edit.now

    one : (d : ℕ) → Stands s.sources s.sizes.now.rows d c → d ≡ b
    one d other = one_standing s are b c stands prog new_prog d other

    numbers_same : number_in e b c ≡ new_number (standing_at s b c own_before own)
    numbers_same =
        let old_own = own_of p comps s.sources.own_before.now are.sources.own_before b own_before.now at_before in
        let new_own = own_of new new_comps s.sources.own.now are.sources.own c own.now at in
        let first = own_numbers p comps b own_before.now old_own in
        let second = own_numbers new new_comps c own.now new_own in
        (λ i n. moved (sym first i) (sym second i) n)

    pub carry_kept : {E : Type 0} (y : Found) → slice_get s.found.now b ≡ Some y → (r : Result Found E)
        → (HaveSameOrder e b c → IfOk r (λ z. z ≡ moved_found (new_number (standing_at s b c own_before own)) (members_in new_comps c) y))
        → IfOk r (λ z. AreSameMappings e b y.mappings z.mappings)
        → IfOk r (λ z. z.refutation ≡ option_map (moved_refutation (new_number (standing_at s b c own_before own))) y.refutation) → IfOk r (IsKept s c)
    carry_kept y at_y (Ok z) moves same refuted = λ d x other found.
        let one_only = one d other in
        let here : slice_get s.found.now b ≡ Some x = ap (slice_get s.found.now) (sym one_only) ∙ found in
        let equal : y ≡ x = cc in
        let kept : IsKeptFrom e b c y z = record {
          mappings = same;
          refutation = refuted ∙ ap (λ (g : ℕ → ℕ). option_map (moved_refutation g) y.refutation) (sym numbers_same);
          moved = λ order. moves order ∙ ap (λ (g : ℕ → ℕ). moved_found g (members_in new_comps c) y) (sym numbers_same);
        } in
        subst (λ (n : ℕ). IsKeptFrom e n c x z) (sym one_only) (subst (λ (w : Found). IsKeptFrom e b c w z) equal kept)
    carry_kept y at_y (Err f) moves same refuted = tt

    pub members_same : HaveSameMembers e b c
    members_same =
        same_members p new comps new_comps prog new_prog are.sources.edit.components_before are.sources.edit.components e.kept.now are.sources.edit.kept b c
        (rows_of s.sources.old.now.sizes.rows) (rows_of s.sizes.now.rows) stands

pub if_ok_to : {X E : Type 0} (P Q : X → Type 0) → ((x : X) → P x → Q x) → (r : Result X E) → IfOk r P → IfOk r Q
if_ok_to P Q to (Ok x) h = to x h
if_ok_to P Q to (Err e) h = tt

pub if_ok_is : {X E : Type 0} (P : X → Type 0) → ((x : X) → P x) → (r : Result X E) → IfOk r P
if_ok_is P all (Ok x) = all x
if_ok_is P all (Err e) = tt

-- ---- one more component
module _ (expression : ℕ → Tree → List ℤ) (p : Listing) (comps : Partition) (rows : ℕ → List (List ℤ)) where
  pub none_found : AreFoundTo expression p comps rows 0 []
  none_found = record { each = refl; found = λ c o at. cc }

  pub found_more : (n : ℕ) (fs : List Found) (o : Found) → AreFoundTo expression p comps rows n fs → IsFoundAt expression p comps rows n o → AreFoundTo expression p comps rows (n + 1) (fs ++ o ∷ [])
  found_more n fs o are is = record {
    each = one_longer fs o ∙ (let e = are.each in omega arith);
    found = each_more (IsFoundAt expression p comps rows) fs o are.found (subst (λ (z : ℕ). IsFoundAt expression p comps rows z o) (sym are.each) is);
  }

-- ---- parts for each member
module _ (expression : ℕ → Tree → List ℤ) (p : Listing) (comps : Partition) (rows : ℕ → List (List ℤ)) (c : ℕ) where
  parts_of : (ms : List Mapping) → AllByRecursion (IsMappingOf expression p rows comps c) ms → AllByRecursion (λ (m : Mapping). map (λ (y : Measure). y.pred.0) m.measures ≡ members_in comps c) ms
  parts_of [] h = tt
  parts_of (m ∷ ms) h = (h.0.measures.each, parts_of ms h.1)

pub parts_at : (expression : ℕ → Tree → List ℤ) (p : Listing) (comps : Partition) (rows : ℕ → List (List ℤ)) → AreComponents p comps → (fs : List Found) → AreFound expression p comps rows fs
    → (c : ℕ) (x : Found) → slice_get fs c ≡ Some x → AllByRecursion (λ (m : Mapping). map (λ (y : Measure). y.pred.0) m.measures ≡ members_in comps c) x.mappings
parts_at expression p comps rows are fs found c x at = go (slice_index_or comps.recursive c true) (there comps.recursive c true (let l = place_below fs c x at in let k = found.each in let n = are.answers in omega arith))
  where
    go : (t : Bool) → slice_get comps.recursive c ≡ Some t → AllByRecursion (λ (m : Mapping). map (λ (y : Measure). y.pred.0) m.measures ≡ members_in comps c) x.mappings
    go true is = parts_of expression p comps rows c x.mappings ((found.found c x at).recursive is).mappings
    go false is = subst (λ (z : Found). AllByRecursion (λ (m : Mapping). map (λ (y : Measure). y.pred.0) m.measures ≡ members_in comps c) z.mappings) (sym ((found.found c x at).other is)) tt

pub kept_none : (s : MappingSources) → AreKeptFound s []
kept_none s c o at = cc

pub kept_more : (s : MappingSources) (n : ℕ) (fs : List Found) (o : Found) → length fs ≡ n → AreKeptFound s fs → IsKept s n o → AreKeptFound s (fs ++ o ∷ [])
kept_more s n fs o l are is = each_more (IsKept s) fs o are (subst (λ (z : ℕ). IsKept s z o) (sym l) is)
