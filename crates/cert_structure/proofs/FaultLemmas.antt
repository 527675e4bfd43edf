-- The fault that reading finds is the first one of the certificate.
use Rattle.std.proofs.Common.{◌≡◌, ◌≢◌, ℕ, zero, suc, ◌+◌, ◌-◌, ◌<◌, ◌≤◌, ◌⊎◌, inl, inr, Bool, true, false, nat_lt, if◌then◌else◌, List, [], ◌∷◌, ◌++◌, length, slice_get, slice_index_or, Option, Some, None, option_and_then, unwrap_or, Ok, Err, refl, ap, sym, ◌∙◌, subst, arith, eq-eqb, lt-ltb, ltb-true, ltb-false, append_assoc, append-nil, length-append, ap₂, Result}
use Rattle.std.proofs.lemmas.Bool.{false≢true}
use Rattle.std.proofs.lemmas.Bool.Decides.{Decides-int_eq}
use Rattle.std.specs.Prelude.{ℤ, pos}
use Rattle.std.specs.Ordering.{int_eq}
use Rattle.std.specs.List.{AllByRecursion, prefix_len}
use Rattle.call_components.specs.Partition.{Partition, AreComponents}
use Rattle.certificate.specs.declared.fact.Fact.{Fact}
use Rattle.certificate.specs.declared.fact.Fact.TheVariants as fact
use Rattle.certificate.specs.declared.norm.CertNorm.{CertNorm}
use Rattle.certificate.specs.declared.norm.CertNorm.TheVariants.{Term}
use Rattle.cti_terms.specs.Listing.{Listing}
use Rattle.linear_rows.specs.declared.row.Rows.{Rows}
use Rattle.linear_rows.specs.declared.point.Point.{Point}
use Rattle.number_tests.specs.declared.pair_point.PairPoint.{PairPoint}
use Rattle.number_tests.specs.declared.refutation.Refutation.{Refutation}
use Rattle.fact_reading.specs.declared.stop.StructureReason.{StructureReason}
use Rattle.fact_reading.specs.declared.stop.StructureReason.TheVariants as reason
use Rattle.cert_structure.specs.declared.parts.Parts.{Parts}
use Rattle.fact_reading.specs.Numbered.{facts_from, EachFrom, AreEach}
use Rattle.cert_structure.specs.Order.{pred_text, head_facts, mode_facts, size_facts, proof_facts, ground_facts, level_facts, fall_facts, pre_facts, refuted_facts, refutation_facts, point_facts, at_facts, listed, is_note}
use Rattle.cert_structure.specs.Shape.{IsPairPoint, PairsAscend, place_of_pair, arity_in, mappings_of, is_recursive, is_pair, IsLevel, IsRefutation, HaveShape}
use Rattle.cert_structure.specs.Structure.{IsStructured, AreNotes}
use Rattle.cert_structure.specs.StructureFault.{HaveOnePlace, content_fault, IsBeginning, whole, short, IsStructureFault, missing, extra, content}
use Rattle.cert_structure.specs.StructureFault as place
use Rattle.cert_structure.specs.Walk.{take_refuted, is_open, read_point, read_points, take_norm, named_norm, by_version, read_head, read_modes, read_rows, read_proofs, read_grounds, read_levels, read_falls, read_pre, read_refutation, read_parts, with_notes, read_whole, shared_refuted, group_by, refutation_by}
use Rattle.fact_reading.specs.Walk.{◌>>=◌, Wrong, Read, result_map, wrong_at, with_first, item_of, read_each}
use Rattle.cert_structure.proofs.KindLemmas.{kind, IsVersion, split_version, IsNorm, split_norm}
use Rattle.fact_reading.proofs.SectionLemmas.{err_ok, all_both, all_from, others_from, all_weaker}
use Rattle.cert_structure.proofs.TakeLemmas.{refuted_given}
use Rattle.cert_structure.proofs.GroupLemmas.{open_back}
use Rattle.cert_structure.proofs.PointLemmas.{point_given, refutation_given}
use Rattle.cert_structure.proofs.ComponentLemmas.{first_le, shape, structure}
use Rattle.cert_structure.proofs.ContentLemmas.{not_same}
use Rattle.cert_structure.proofs.LevelLemmas.{IsLevels, NoLevel, levels_sound, levels_back}
use Rattle.cert_structure.proofs.StructureLemmas.{AreLater, proofs_later, grounds_later, levels_later, falls_later, pre_later, refuted_later, no_level, modes_section, modes_listed, rows_section, rows_listed, proofs_section, proofs_listed, grounds_section, grounds_listed, falls_section, falls_listed, pre_section, pre_listed}
use Rattle.cert_structure.proofs.WholeLemmas.{noted, head_sound, head_back, parts_sound, whole_back}
use Rattle.cert_structure.proofs.LocalLemmas.{same_err, bound_err, Fails, MayReplace, with_made, same_head, Modes, Proofs, Grounds, Levels, Falls, Cubes, Refutations, made, from_refutations, from_cubes, from_falls, from_levels, from_grounds, from_proofs, from_rows, from_modes, parts_are, local_parts}
use Rattle.cert_structure.proofs.EndLemmas.{IsBad, shows_more, Ends, ends_weaker, after_read, levels_fill, levels_ends, AreModes, modes_fill, modes_ends, AreRows, rows_fill, rows_ends, AreProofs, proofs_fill, proofs_ends, AreGrounds, grounds_fill, grounds_ends, AreFalls, falls_fill, falls_ends, AreCubes, cubes_fill, cubes_ends}
use Rattle.cert_structure.proofs.PointEnds.{HaveClaimed, refutations_ends}

ends_with : (P Q : List Fact → Type 0) (s : List Fact) (w : Wrong) (e : Ends P s w) (tail : List Fact) → Q ((e.done ++ e.may) ++ tail) → Ends Q s w
ends_with P Q s w e tail h = record {
  done = e.done;
  stands = e.stands;
  may = e.may ++ tail;
  split = e.split;
  left = e.left;
  end = subst Q (append_assoc e.done e.may tail) h;
  why = shows_more w.1 e.stands e.may tail e.why;
}

same_cons : {A : Type 0} (x y : A) (xs ys : List A) → x ∷ xs ≡ y ∷ ys → (x ≡ y) × (xs ≡ ys)
same_cons x y xs ys e = (cc, cc)

-- how many facts there are
at_line : {A : Type 0} (xs us all : List A) → all ≡ xs ++ us → length all ≡ length xs + length us
at_line xs us all e = ap (λ z. length z) e ∙ length-append xs us

-- two splits of a list that leave equally many are one
same_split : {A : Type 0} (xs ys us vs : List A) → xs ++ us ≡ ys ++ vs → length us ≡ length vs → (xs ≡ ys) × (us ≡ vs)
same_split [] [] us vs e size = (refl, e)
same_split [] (y ∷ ys) us vs e size =
    let long : length us ≡ suc (length (ys ++ vs)) = ap (λ z. length z) e in
    let more = at_line ys vs (ys ++ vs) refl in
    absurd (omega (arith, long, more, size))
same_split (x ∷ xs) [] us vs e size =
    let long : suc (length (xs ++ us)) ≡ length vs = ap (λ z. length z) e in
    let more = at_line xs us (xs ++ us) refl in
    absurd (omega (arith, long, more, size))
same_split (x ∷ xs) (y ∷ ys) us vs e size =
    let both = same_cons x y (xs ++ us) (ys ++ vs) e in
    let rest = same_split xs ys us vs both.1 size in
    (ap₂ (λ z zs. z ∷ zs) both.0 rest.0, rest.1)

-- what a beginning begins with is one
module _ (p : Listing) (names : List (List ℕ)) (comps : Partition) where
  begun_front : (xs ys : List Fact) → IsBeginning p names comps (xs ++ ys) → IsBeginning p names comps xs
  begun_front xs ys (whole parts notes rest shape are is) = whole parts notes (ys ++ rest) shape are (sym (append_assoc xs ys rest) ∙ is)
  begun_front xs ys (short parts before later r count rest shape same enough is) = short parts before later r count (ys ++ rest) shape same enough (sym (append_assoc xs ys rest) ∙ is)

  -- a beginning goes past each of its facts
  beyond : (facts before after : List Fact) (f : Fact) → facts ≡ before ++ f ∷ after → IsBeginning p names comps facts → IsBeginning p names comps (before ++ f ∷ [])
  beyond facts before after f split begun = begun_front (before ++ f ∷ []) after (subst (λ z. IsBeginning p names comps z) (split ∙ sym (append_assoc before (f ∷ []) after)) begun)

  shorter : (xs ys us : List Fact) (f : Fact) (vs : List Fact) → xs ++ f ∷ vs ≡ ys ++ us → length xs < length ys → (more : List Fact) × (ys ≡ (xs ++ f ∷ []) ++ more)
  shorter xs [] us f vs e less = absurd (omega (arith, less))
  shorter [] (y ∷ ys) us f vs e less = (ys, ap (λ z. z ∷ ys) (sym (same_cons f y vs (ys ++ us) e).0))
  shorter (x ∷ xs) (y ∷ ys) us f vs e less =
      let both = same_cons x y (xs ++ f ∷ vs) (ys ++ us) e in
      let (more, is) = shorter xs ys us f vs both.1 (omega (arith, less)) in
      (more, ap₂ (λ z zs. z ∷ zs) (sym both.0) is)

  not_shorter : (xs ys : List Fact) (f g : Fact) (us vs : List Fact) → xs ++ f ∷ us ≡ ys ++ g ∷ vs → ¬ IsBeginning p names comps (xs ++ f ∷ []) → IsBeginning p names comps ys → length ys ≤ length xs
  not_shorter xs ys f g us vs e none begun = go (nat_lt (length xs) (length ys)) refl
    where
      go : (b : Bool) → nat_lt (length xs) (length ys) ≡ b → length ys ≤ length xs
      go true test =
          let (more, is) = shorter xs ys (g ∷ vs) f us e (ltb-true (length xs) (length ys) test) in
          absurd (none (begun_front (xs ++ f ∷ []) more (subst (λ z. IsBeginning p names comps z) is begun)))
      go false test = ltb-false (length xs) (length ys) test

  -- two facts with which a beginning is none are one
  one_place_only : (facts xs ys : List Fact) (f g : Fact) (us vs : List Fact) → facts ≡ xs ++ f ∷ us → facts ≡ ys ++ g ∷ vs → IsBeginning p names comps xs → IsBeginning p names comps ys
      → ¬ IsBeginning p names comps (xs ++ f ∷ []) → ¬ IsBeginning p names comps (ys ++ g ∷ []) → (xs ≡ ys) × (f ≡ g)
  one_place_only facts xs ys f g us vs left right begun also none nor =
      let e : xs ++ f ∷ us ≡ ys ++ g ∷ vs = sym left ∙ right in
      let low = not_shorter xs ys f g us vs e none also in
      let high = not_shorter ys xs g f vs us (sym e) nor begun in
      let all = at_line xs (f ∷ us) facts left in
      let also_all = at_line ys (g ∷ vs) facts right in
      let both = same_split xs ys (f ∷ us) (g ∷ vs) e (omega (arith, low, high, all, also_all)) in
      (both.0, same_head f g us vs both.1)

  pub one_fault : (facts : List Fact) (l m : ℕ) (why other : StructureReason) → IsStructureFault p names comps facts l why → IsStructureFault p names comps facts m other → (l ≡ m) × (why ≡ other)
  one_fault facts _ _ _ _ (missing b n) (missing c k) = (refl, refl)
  one_fault facts _ _ _ _ (missing b n) (extra before after f split c none) = absurd (none f place.itself (beyond facts before after f split b))
  one_fault facts _ _ _ _ (missing b n) (content before after f g split none same c) = absurd (none (beyond facts before after f split b))
  one_fault facts _ _ _ _ (extra before after f split c none) (missing b n) = absurd (none f place.itself (beyond facts before after f split b))
  one_fault facts _ _ _ _ (content before after f g split none same c) (missing b n) = absurd (none (beyond facts before after f split b))
  one_fault facts _ _ _ _ (extra xs us f left b none) (extra ys vs g right c nor) =
      let both = one_place_only facts xs ys f g us vs left right b c (none f place.itself) (nor g place.itself) in
      (ap (λ z. suc (length z)) both.0, refl)
  one_fault facts _ _ _ _ (extra xs us f left b none) (content ys vs g good right nor same c) =
      let both = one_place_only facts xs ys f g us vs left right b (begun_front ys (good ∷ []) c) (none f place.itself) nor in
      absurd (none good (subst (λ z. HaveOnePlace z good) (sym both.1) same) (subst (λ z. IsBeginning p names comps (z ++ good ∷ [])) (sym both.0) c))
  one_fault facts _ _ _ _ (content ys vs g good right nor same c) (extra xs us f left b none) =
      let both = one_place_only facts xs ys f g us vs left right b (begun_front ys (good ∷ []) c) (none f place.itself) nor in
      absurd (none good (subst (λ z. HaveOnePlace z good) (sym both.1) same) (subst (λ z. IsBeginning p names comps (z ++ good ∷ [])) (sym both.0) c))
  one_fault facts _ _ _ _ (content xs us f good left none same b) (content ys vs g well right nor alike c) =
      let both = one_place_only facts xs ys f g us vs left right (begun_front xs (good ∷ []) b) (begun_front ys (well ∷ []) c) none nor in
      (ap (λ z. suc (length z)) both.0, ap (λ z. content_fault z) both.1)

  -- where there are parts, there is none
  pub no_fault : (facts : List Fact) (parts : Parts) (line : ℕ) (why : StructureReason) → IsStructured p names comps parts facts → ¬ IsStructureFault p names comps facts line why
  no_fault facts parts _ _ is (missing b n) = n parts is
  no_fault facts parts _ _ is (extra before after f split c none) = none f place.itself (beyond facts before after f split (whole parts is.notes [] is.shape is.are_notes (append-nil facts ∙ is.is)))
  no_fault facts parts _ _ is (content before after f g split none same c) = none (beyond facts before after f split (whole parts is.notes [] is.shape is.are_notes (append-nil facts ∙ is.is)))

-- the numbers of the components do not matter
module _ (p : Listing) (one other : Partition) (h : AreComponents p one) (k : AreComponents p other) (names : List (List ℕ)) where
  begun_moved : (facts : List Fact) → IsBeginning p names one facts → IsBeginning p names other facts
  begun_moved facts (whole parts notes rest right are is) = whole parts notes rest (shape p one other h k parts right) are is
  begun_moved facts (short parts before later r count rest right same enough is) = short parts before later r count rest (shape p one other h k parts right) same enough is

module _ (p : Listing) (one other : Partition) (h : AreComponents p one) (k : AreComponents p other) (names : List (List ℕ)) where
  pub fault_moved : (facts : List Fact) (line : ℕ) (why : StructureReason) → IsStructureFault p names one facts line why → IsStructureFault p names other facts line why
  fault_moved facts _ _ (missing b n) = missing (begun_moved p one other h k names facts b) (λ parts is. n parts (structure p other one k h names parts facts is))
  fault_moved facts _ _ (extra before after f split b none) =
      extra before after f split (begun_moved p one other h k names before b) (λ g same c. none g same (begun_moved p other one k h names (before ++ g ∷ []) c))
  fault_moved facts _ _ (content before after f g split none same b) =
      content before after f g split (λ c. none (begun_moved p other one k h names (before ++ f ∷ []) c)) same (begun_moved p one other h k names (before ++ g ∷ []) b)

-- a recursive component has a pair
found_at : {A : Type 0} (xs : List A) (k : ℕ) (x : A) → k < length xs → slice_index_or xs k x ≡ x → slice_get xs k ≡ Some x
found_at [] k x fits same = absurd (omega (arith, fits))
found_at (y ∷ ys) zero x fits same = ap (λ z. Some z) same
found_at (y ∷ ys) (suc k) x fits same = found_at ys k x (omega (arith, fits)) same

module _ (p : Listing) (comps : Partition) (h : AreComponents p comps) where
  recursive_pair : (a : ℕ) → is_recursive comps a ≡ true → (clause : ℕ) × (call : ℕ) × (is_pair p comps a (suc clause) (suc call) ≡ true)
  recursive_pair a e = go (slice_get comps.of a) refl e
    where
      inner : (c : ℕ) (o : Option Bool) → slice_get comps.of a ≡ Some c → slice_get comps.recursive c ≡ o → unwrap_or o false ≡ true
          → (clause : ℕ) × (call : ℕ) × (is_pair p comps a (suc clause) (suc call) ≡ true)
      inner c None here row e = absurd (false≢true e)
      inner c (Some answer) here row e =
          let (x, y, left, right, calls) = (h.recursive c answer row).0 e in
          let (k, clause, below, at, both) = calls in
          let head = both.0 in
          let (j, atom, few, there, pred) = both.1 in
          let own : slice_get p.clauses k ≡ Some clause = found_at p.clauses k clause below at in
          let call : slice_get clause.body j ≡ Some atom = found_at clause.body j atom few there in
          (k, j, rw (own, call, head, pred, here, left, right, eq-eqb c c refl) refl)

      go : (o : Option ℕ) → slice_get comps.of a ≡ o → unwrap_or (option_and_then (slice_get comps.recursive) o) false ≡ true
          → (clause : ℕ) × (call : ℕ) × (is_pair p comps a (suc clause) (suc call) ≡ true)
      go None here e = absurd (false≢true e)
      go (Some c) here e = inner c (slice_get comps.recursive c) here refl e

-- no refutation of any predicate
nones : ℕ → List (Option Refutation)
nones zero = []
nones (suc n) = None ∷ nones n

module _ (p : Listing) (names : List (List ℕ)) (comps : Partition) (h : AreComponents p comps) where
  nones_each : (levels : Levels) (i n : ℕ) → (length (nones n) ≡ n) × EachFrom i (IsRefutation p comps levels) (nones n)
  unfolding nones
  nones_each levels i zero = (refl, tt)
  nones_each levels i (suc n) = let (count, each) = nones_each levels (suc i) n in (ap suc count, (tt, each))

  nones_right : (levels : Levels) → AreEach (length p.preds) (IsRefutation p comps levels) (nones (length p.preds))
  nones_right levels = let (count, each) = nones_each levels 0 (length p.preds) in record { count = count; each = each }

  abbrev AreLevels : Levels → Type 0
  AreLevels levels = AreEach (length p.preds) (λ a ls. (length ls ≡ mappings_of comps levels a) × AllByRecursion (IsLevel (arity_in p a)) ls) levels

  level_shape : (levels xs : Levels) → (levels ≡ [] ++ xs) → length xs ≡ length p.preds → EachFrom 0 (IsLevels p names comps (first_le p comps h) levels) xs → AreLevels levels
  level_shape levels xs all count each =
      let own : levels ≡ xs = all in
      record { count = ap length own ∙ count; each = subst (λ z. EachFrom 0 (IsLevels p names comps (first_le p comps h) levels) z) (sym own) each }

  levels_some : (x : Levels) × AreLevels x
  levels_some =
      let (levels, xs, are) = levels_fill p names comps (first_le p comps h) (length p.preds) [] 0 refl (omega arith) in
      (levels, level_shape levels xs are.0 are.1 are.2)

  levels_end : (s : List Fact) (w : Wrong) → read_levels p names comps [] 0 (length p.preds) s ≡ Err w → Ends (λ l. (x : Levels) × (l ≡ level_facts p names x) × AreLevels x) s w
  levels_end s w e =
      ends_weaker _ _ s w
      (levels_ends p names comps (first_le p comps h) (length p.preds) [] 0 s w refl (omega arith) e)
      (λ l g.
      let own : g.0 ≡ g.1 = g.3.0 in
      (g.0, g.2 ∙ ap (λ z. level_facts p names z) (sym own), level_shape g.0 g.1 g.3.0 g.3.1 g.3.2))

  levels_read : (s t : List Fact) (x : Levels) → read_levels p names comps [] 0 (length p.preds) s ≡ Ok (x, t) → (s ≡ level_facts p names x ++ t) × AreLevels x
  levels_read s t x e =
      let (xs, all, count, text, each) = levels_sound p names comps (first_le p comps h) (length p.preds) [] 0 s t x refl (omega arith) e in
      let own : x ≡ xs = all in
      (text ∙ ap (λ z. level_facts p names z ++ t) (sym own), level_shape x xs all count each)

  -- the facts of a section and of those after it, as few as there may be
  abbrev no_more_refutations : List Fact
  no_more_refutations = refuted_facts p names (nones (length p.preds)) ++ []

  abbrev no_more_cubes : Levels → List Fact
  no_more_cubes levels = pre_facts p names (cubes_fill p names levels).0 ++ no_more_refutations

  abbrev no_more_falls : List Rows → Levels → List Fact
  no_more_falls rows levels = fall_facts (falls_fill p rows comps levels).0 ++ no_more_cubes levels

  abbrev no_more_levels : List Rows → List Fact
  no_more_levels rows = level_facts p names levels_some.0 ++ no_more_falls rows levels_some.0

  abbrev no_more_grounds : List Rows → List Fact
  no_more_grounds rows = ground_facts p names (grounds_fill p names).0 ++ no_more_levels rows

  abbrev no_more_proofs : List Rows → List Fact
  no_more_proofs rows = proof_facts (proofs_fill p rows).0 ++ no_more_grounds rows

  abbrev no_more_rows : List Fact
  no_more_rows = size_facts p names (rows_fill p names).0 ++ no_more_proofs (rows_fill p names).0

  -- the parts are of this norm
  module _ (norm : Option CertNorm) where
    -- the facts up to the end of a section, and these after them
    abbrev past_head : List Fact → List Fact
    past_head l = head_facts norm ++ l

    abbrev past_modes : Modes → List Fact → List Fact
    past_modes modes l = past_head (mode_facts p names modes ++ l)

    abbrev past_rows : Modes → List Rows → List Fact → List Fact
    past_rows modes rows l = past_modes modes (size_facts p names rows ++ l)

    abbrev past_proofs : Modes → List Rows → Proofs → List Fact → List Fact
    past_proofs modes rows proofs l = past_rows modes rows (proof_facts proofs ++ l)

    abbrev past_grounds : Modes → List Rows → Proofs → Grounds → List Fact → List Fact
    past_grounds modes rows proofs grounds l = past_proofs modes rows proofs (ground_facts p names grounds ++ l)

    abbrev past_levels : Modes → List Rows → Proofs → Grounds → Levels → List Fact → List Fact
    past_levels modes rows proofs grounds levels l = past_grounds modes rows proofs grounds (level_facts p names levels ++ l)

    abbrev past_falls : Modes → List Rows → Proofs → Grounds → Levels → Falls → List Fact → List Fact
    past_falls modes rows proofs grounds levels falls l = past_levels modes rows proofs grounds levels (fall_facts falls ++ l)

    abbrev past_cubes : Modes → List Rows → Proofs → Grounds → Levels → Falls → Cubes → List Fact → List Fact
    past_cubes modes rows proofs grounds levels falls cubes l = past_falls modes rows proofs grounds levels falls (pre_facts p names cubes ++ l)

    -- with these the facts before them are a certificate
    begun_refutations : (modes : Modes) (right1 : AreModes p names modes) (rows : List Rows) (right2 : AreRows p names rows) (proofs : Proofs) (right3 : AreProofs p rows proofs) (grounds : Grounds) (right4 : AreGrounds p names grounds) (levels : Levels) (right5 : AreLevels levels) (falls : Falls) (right6 : AreFalls p rows comps levels falls) (cubes : Cubes) (right7 : AreCubes p names levels cubes) → IsBeginning p names comps (past_cubes modes rows proofs grounds levels falls cubes no_more_refutations)
    begun_refutations modes right1 rows right2 proofs right3 grounds right4 levels right5 falls right6 cubes right7 = whole (made norm modes rows proofs grounds levels falls cubes (nones (length p.preds))) [] [] (record { modes = right1; rows = right2; row_proofs = right3; grounds = right4; levels = right5; falls = right6; preconditions = right7; refutations = nones_right levels }) tt (append-nil (past_cubes modes rows proofs grounds levels falls cubes no_more_refutations))

    begun_cubes : (modes : Modes) (right1 : AreModes p names modes) (rows : List Rows) (right2 : AreRows p names rows) (proofs : Proofs) (right3 : AreProofs p rows proofs) (grounds : Grounds) (right4 : AreGrounds p names grounds) (levels : Levels) (right5 : AreLevels levels) (falls : Falls) (right6 : AreFalls p rows comps levels falls) → IsBeginning p names comps (past_falls modes rows proofs grounds levels falls (no_more_cubes levels))
    begun_cubes modes right1 rows right2 proofs right3 grounds right4 levels right5 falls right6 = begun_refutations modes right1 rows right2 proofs right3 grounds right4 levels right5 falls right6 (cubes_fill p names levels).0 (cubes_fill p names levels).1

    begun_falls : (modes : Modes) (right1 : AreModes p names modes) (rows : List Rows) (right2 : AreRows p names rows) (proofs : Proofs) (right3 : AreProofs p rows proofs) (grounds : Grounds) (right4 : AreGrounds p names grounds) (levels : Levels) (right5 : AreLevels levels) → IsBeginning p names comps (past_levels modes rows proofs grounds levels (no_more_falls rows levels))
    begun_falls modes right1 rows right2 proofs right3 grounds right4 levels right5 = begun_cubes modes right1 rows right2 proofs right3 grounds right4 levels right5 (falls_fill p rows comps levels).0 (falls_fill p rows comps levels).1

    begun_levels : (modes : Modes) (right1 : AreModes p names modes) (rows : List Rows) (right2 : AreRows p names rows) (proofs : Proofs) (right3 : AreProofs p rows proofs) (grounds : Grounds) (right4 : AreGrounds p names grounds) → IsBeginning p names comps (past_grounds modes rows proofs grounds (no_more_levels rows))
    begun_levels modes right1 rows right2 proofs right3 grounds right4 = begun_falls modes right1 rows right2 proofs right3 grounds right4 levels_some.0 levels_some.1

    begun_grounds : (modes : Modes) (right1 : AreModes p names modes) (rows : List Rows) (right2 : AreRows p names rows) (proofs : Proofs) (right3 : AreProofs p rows proofs) → IsBeginning p names comps (past_proofs modes rows proofs (no_more_grounds rows))
    begun_grounds modes right1 rows right2 proofs right3 = begun_levels modes right1 rows right2 proofs right3 (grounds_fill p names).0 (grounds_fill p names).1

    begun_proofs : (modes : Modes) (right1 : AreModes p names modes) (rows : List Rows) (right2 : AreRows p names rows) → IsBeginning p names comps (past_rows modes rows (no_more_proofs rows))
    begun_proofs modes right1 rows right2 = begun_grounds modes right1 rows right2 (proofs_fill p rows).0 (proofs_fill p rows).1

    begun_rows : (modes : Modes) (right1 : AreModes p names modes) → IsBeginning p names comps (past_modes modes (no_more_rows))
    begun_rows modes right1 = begun_proofs modes right1 (rows_fill p names).0 (rows_fill p names).1

    -- where reading fails in a section or in one after it
    fails_in_refutations : (modes : Modes) (right1 : AreModes p names modes) (rows : List Rows) (right2 : AreRows p names rows) (proofs : Proofs) (right3 : AreProofs p rows proofs) (grounds : Grounds) (right4 : AreGrounds p names grounds) (levels : Levels) (right5 : AreLevels levels) (falls : Falls) (right6 : AreFalls p rows comps levels falls) (cubes : Cubes) (right7 : AreCubes p names levels cubes) (s : List Fact) (w : Wrong) → from_refutations p names comps levels (made norm modes rows proofs grounds levels falls cubes) s ≡ Err w → Ends (λ l. IsBeginning p names comps (past_cubes modes rows proofs grounds levels falls cubes l)) s w
    fails_in_refutations modes right1 rows right2 proofs right3 grounds right4 levels right5 falls right6 cubes right7 s w e =
        bound_err (λ x. Ok (made norm modes rows proofs grounds levels falls cubes x.0, x.1)) (read_each (read_refutation p names comps levels) 0 (length p.preds) s) w e
        (λ first. ends_weaker _ (λ l. IsBeginning p names comps (past_cubes modes rows proofs grounds levels falls cubes l)) s w (refutations_ends p names comps levels (recursive_pair p comps h) 0 (length p.preds) s w first) (λ l c. cut l c))
        (λ q read more. err_ok w (made norm modes rows proofs grounds levels falls cubes q.0, q.1) (sym more))
      where
        cut : (l : List Fact) → HaveClaimed p names comps levels 0 (length p.preds) l → IsBeginning p names comps (past_cubes modes rows proofs grounds levels falls cubes l)
        cut l c =
            let number = c.number in
            let at : c.at ≡ length c.before = omega (arith, number) in
            short (made norm modes rows proofs grounds levels falls cubes (c.before ++ Some c.own ∷ c.later)) c.before c.later c.own c.count []
            (record { modes = right1; rows = right2; row_proofs = right3; grounds = right4; levels = right5; falls = right6; preconditions = right7; refutations = record { count = c.all; each = c.each } })
            refl c.enough
            (append-nil (past_cubes modes rows proofs grounds levels falls cubes l) ∙ ap (λ z. past_cubes modes rows proofs grounds levels falls cubes z) (c.is ∙ ap (λ n. refuted_facts p names c.before ++ fact.Refuted (pred_text p names n) c.count ∷ facts_from 0 (λ _ x. point_facts x) c.own.points) at))

    fails_in_cubes : (modes : Modes) (right1 : AreModes p names modes) (rows : List Rows) (right2 : AreRows p names rows) (proofs : Proofs) (right3 : AreProofs p rows proofs) (grounds : Grounds) (right4 : AreGrounds p names grounds) (levels : Levels) (right5 : AreLevels levels) (falls : Falls) (right6 : AreFalls p rows comps levels falls) (s : List Fact) (w : Wrong) → from_cubes p names comps levels (made norm modes rows proofs grounds levels falls) s ≡ Err w → Ends (λ l. IsBeginning p names comps (past_falls modes rows proofs grounds levels falls l)) s w
    fails_in_cubes modes right1 rows right2 proofs right3 grounds right4 levels right5 falls right6 s w e =
        bound_err (λ x. from_refutations p names comps levels (made norm modes rows proofs grounds levels falls x.0) x.1) (read_each (read_pre p names levels) 0 (length p.preds) s) w e
        (λ first.
        let b = cubes_ends p names levels s w first in
        let (x, is, right) = b.end in
        ends_with _ (λ l. IsBeginning p names comps (past_falls modes rows proofs grounds levels falls l)) s w b (no_more_refutations) (subst (λ z. IsBeginning p names comps (past_falls modes rows proofs grounds levels falls (z ++ no_more_refutations))) (sym is) (begun_refutations modes right1 rows right2 proofs right3 grounds right4 levels right5 falls right6 x right)))
        (λ q read more.
        let (one, right) = pre_section p names levels s q.1 q.0 read in
        after_read (λ l. IsBeginning p names comps (past_falls modes rows proofs grounds levels falls l)) s (pre_facts p names q.0) q.1 w one (fails_in_refutations modes right1 rows right2 proofs right3 grounds right4 levels right5 falls right6 q.0 right q.1 w more))

    fails_in_falls : (modes : Modes) (right1 : AreModes p names modes) (rows : List Rows) (right2 : AreRows p names rows) (proofs : Proofs) (right3 : AreProofs p rows proofs) (grounds : Grounds) (right4 : AreGrounds p names grounds) (levels : Levels) (right5 : AreLevels levels) (s : List Fact) (w : Wrong) → from_falls p names comps rows levels (made norm modes rows proofs grounds levels) s ≡ Err w → Ends (λ l. IsBeginning p names comps (past_levels modes rows proofs grounds levels l)) s w
    fails_in_falls modes right1 rows right2 proofs right3 grounds right4 levels right5 s w e =
        bound_err (λ x. from_cubes p names comps levels (made norm modes rows proofs grounds levels x.0) x.1) (read_each (read_falls p comps rows levels) 0 (length p.clauses) s) w e
        (λ first.
        let b = falls_ends p rows comps levels s w first in
        let (x, is, right) = b.end in
        ends_with _ (λ l. IsBeginning p names comps (past_levels modes rows proofs grounds levels l)) s w b (no_more_cubes levels) (subst (λ z. IsBeginning p names comps (past_levels modes rows proofs grounds levels (z ++ no_more_cubes levels))) (sym is) (begun_cubes modes right1 rows right2 proofs right3 grounds right4 levels right5 x right)))
        (λ q read more.
        let (one, right) = falls_section p rows comps levels s q.1 q.0 read in
        after_read (λ l. IsBeginning p names comps (past_levels modes rows proofs grounds levels l)) s (fall_facts q.0) q.1 w one (fails_in_cubes modes right1 rows right2 proofs right3 grounds right4 levels right5 q.0 right q.1 w more))

    fails_in_levels : (modes : Modes) (right1 : AreModes p names modes) (rows : List Rows) (right2 : AreRows p names rows) (proofs : Proofs) (right3 : AreProofs p rows proofs) (grounds : Grounds) (right4 : AreGrounds p names grounds) (s : List Fact) (w : Wrong) → from_levels p names comps rows (made norm modes rows proofs grounds) s ≡ Err w → Ends (λ l. IsBeginning p names comps (past_grounds modes rows proofs grounds l)) s w
    fails_in_levels modes right1 rows right2 proofs right3 grounds right4 s w e =
        bound_err (λ x. from_falls p names comps rows x.0 (made norm modes rows proofs grounds x.0) x.1) (read_levels p names comps [] 0 (length p.preds) s) w e
        (λ first.
        let b = levels_end s w first in
        let (x, is, right) = b.end in
        ends_with _ (λ l. IsBeginning p names comps (past_grounds modes rows proofs grounds l)) s w b (no_more_falls rows x) (subst (λ z. IsBeginning p names comps (past_grounds modes rows proofs grounds (z ++ no_more_falls rows x))) (sym is) (begun_falls modes right1 rows right2 proofs right3 grounds right4 x right)))
        (λ q read more.
        let (one, right) = levels_read s q.1 q.0 read in
        after_read (λ l. IsBeginning p names comps (past_grounds modes rows proofs grounds l)) s (level_facts p names q.0) q.1 w one (fails_in_falls modes right1 rows right2 proofs right3 grounds right4 q.0 right q.1 w more))

    fails_in_grounds : (modes : Modes) (right1 : AreModes p names modes) (rows : List Rows) (right2 : AreRows p names rows) (proofs : Proofs) (right3 : AreProofs p rows proofs) (s : List Fact) (w : Wrong) → from_grounds p names comps rows (made norm modes rows proofs) s ≡ Err w → Ends (λ l. IsBeginning p names comps (past_proofs modes rows proofs l)) s w
    fails_in_grounds modes right1 rows right2 proofs right3 s w e =
        bound_err (λ x. from_levels p names comps rows (made norm modes rows proofs x.0) x.1) (read_each (read_grounds p names) 0 (length p.preds) s) w e
        (λ first.
        let b = grounds_ends p names s w first in
        let (x, is, right) = b.end in
        ends_with _ (λ l. IsBeginning p names comps (past_proofs modes rows proofs l)) s w b (no_more_levels rows) (subst (λ z. IsBeginning p names comps (past_proofs modes rows proofs (z ++ no_more_levels rows))) (sym is) (begun_levels modes right1 rows right2 proofs right3 x right)))
        (λ q read more.
        let (one, right) = grounds_section p names s q.1 q.0 read in
        after_read (λ l. IsBeginning p names comps (past_proofs modes rows proofs l)) s (ground_facts p names q.0) q.1 w one (fails_in_levels modes right1 rows right2 proofs right3 q.0 right q.1 w more))

    fails_in_proofs : (modes : Modes) (right1 : AreModes p names modes) (rows : List Rows) (right2 : AreRows p names rows) (s : List Fact) (w : Wrong) → from_proofs p names comps rows (made norm modes rows) s ≡ Err w → Ends (λ l. IsBeginning p names comps (past_rows modes rows l)) s w
    fails_in_proofs modes right1 rows right2 s w e =
        bound_err (λ x. from_grounds p names comps rows (made norm modes rows x.0) x.1) (read_each (read_proofs p rows) 0 (length p.clauses) s) w e
        (λ first.
        let b = proofs_ends p rows s w first in
        let (x, is, right) = b.end in
        ends_with _ (λ l. IsBeginning p names comps (past_rows modes rows l)) s w b (no_more_grounds rows) (subst (λ z. IsBeginning p names comps (past_rows modes rows (z ++ no_more_grounds rows))) (sym is) (begun_grounds modes right1 rows right2 x right)))
        (λ q read more.
        let (one, right) = proofs_section p rows s q.1 q.0 read in
        after_read (λ l. IsBeginning p names comps (past_rows modes rows l)) s (proof_facts q.0) q.1 w one (fails_in_grounds modes right1 rows right2 q.0 right q.1 w more))

    fails_in_rows : (modes : Modes) (right1 : AreModes p names modes) (s : List Fact) (w : Wrong) → from_rows p names comps (made norm modes) s ≡ Err w → Ends (λ l. IsBeginning p names comps (past_modes modes l)) s w
    fails_in_rows modes right1 s w e =
        bound_err (λ x. from_proofs p names comps x.0 (made norm modes x.0) x.1) (read_each (read_rows p names) 0 (length p.preds) s) w e
        (λ first.
        let b = rows_ends p names s w first in
        let (x, is, right) = b.end in
        ends_with _ (λ l. IsBeginning p names comps (past_modes modes l)) s w b (no_more_proofs x) (subst (λ z. IsBeginning p names comps (past_modes modes (z ++ no_more_proofs x))) (sym is) (begun_proofs modes right1 x right)))
        (λ q read more.
        let (one, right) = rows_section p names s q.1 q.0 read in
        after_read (λ l. IsBeginning p names comps (past_modes modes l)) s (size_facts p names q.0) q.1 w one (fails_in_proofs modes right1 q.0 right q.1 w more))

    fails_in_modes : (s : List Fact) (w : Wrong) → from_modes p names comps norm s ≡ Err w → Ends (λ l. IsBeginning p names comps (past_head l)) s w
    fails_in_modes s w e =
        bound_err (λ x. from_rows p names comps (made norm x.0) x.1) (read_each (read_modes p names) 0 (length p.preds) s) w e
        (λ first.
        let b = modes_ends p names s w first in
        let (x, is, right) = b.end in
        ends_with _ (λ l. IsBeginning p names comps (past_head l)) s w b (no_more_rows) (subst (λ z. IsBeginning p names comps (past_head (z ++ no_more_rows))) (sym is) (begun_rows x right)))
        (λ q read more.
        let (one, right) = modes_section p names s q.1 q.0 read in
        after_read (λ l. IsBeginning p names comps (past_head l)) s (mode_facts p names q.0) q.1 w one (fails_in_rows q.0 right q.1 w more))

  -- the facts after the head, as few as there may be
  abbrev least_facts : List Fact
  least_facts = mode_facts p names (modes_fill p names).0 ++ no_more_rows

  all_begin : (norm : Option CertNorm) → IsBeginning p names comps (head_facts norm ++ least_facts)
  all_begin norm = begun_rows norm (modes_fill p names).0 (modes_fill p names).1

  -- a failure in the head
  norm_ends : (s : List Fact) (w : Wrong) → named_norm s ≡ Err w → Ends (IsBeginning p names comps) (fact.Cti (pos 2) ∷ s) w
  unfolding take_norm
  norm_ends [] w e =
      subst (λ z. Ends (IsBeginning p names comps) (fact.Cti (pos 2) ∷ []) z) (same_err {A = Option CertNorm × List Fact} _ w e)
      (record { done = fact.Cti (pos 2) ∷ []; stands = []; may = fact.Norm Term ∷ least_facts; split = refl; left = refl; end = all_begin (Some Term); why = refl })
  norm_ends (f ∷ s) w e = go (split_norm f)
    where
      go : ((i : ℕ) → take_norm i f ≡ Some None) ⊎ IsNorm f → Ends (IsBeginning p names comps) (fact.Cti (pos 2) ∷ f ∷ s) w
      go (inl none) =
          let extra = ap (λ z. result_map (λ x. (Some x.0, x.1)) (item_of f s z)) (none 0) in
          subst (λ z. Ends (IsBeginning p names comps) (fact.Cti (pos 2) ∷ f ∷ s) z) (same_err {A = Option CertNorm × List Fact} _ w (sym extra ∙ e))
          (record { done = fact.Cti (pos 2) ∷ []; stands = f ∷ s; may = fact.Norm Term ∷ least_facts; split = refl; left = refl; end = all_begin (Some Term); why = (f, s, refl) })
      go (inr (norm, is)) = err_ok w (Some norm, s) (sym e ∙ ap (λ z. named_norm (z ∷ s)) is)

  number_ends : (v : ℤ) (s : List Fact) (w : Wrong) → read_head (fact.Cti v ∷ s) ≡ Err w → Ends (IsBeginning p names comps) (fact.Cti v ∷ s) w
  unfolding read_head
  number_ends v s w e = go (int_eq v (pos 1)) (int_eq v (pos 2)) refl e
    where
      go : (one two : Bool) → int_eq v (pos 2) ≡ two → by_version v one two s ≡ Err w → Ends (IsBeginning p names comps) (fact.Cti v ∷ s) w
      go true two is same = err_ok w (None, s) (sym same)
      go false true is same =
          let number : v ≡ pos 2 = (Decides-int_eq v (pos 2)).0 is in
          subst (λ z. Ends (IsBeginning p names comps) (fact.Cti z ∷ s) w) (sym number) (norm_ends s w same)
      go false false is same =
          subst (λ z. Ends (IsBeginning p names comps) (fact.Cti v ∷ s) z) (same_err {A = Option CertNorm × List Fact} _ w same)
          (record {
            done = [];
            stands = fact.Cti v ∷ s;
            may = head_facts None ++ least_facts;
            split = refl;
            left = refl;
            end = all_begin None;
            why = record {
              own = fact.Cti v;
              other = fact.Cti (pos 1);
              after = s;
              more = least_facts;
              first = refl;
              instead = refl;
              place = place.version;
              content = refl;
            };
          })

  head_ends : (s : List Fact) (w : Wrong) → read_head s ≡ Err w → Ends (IsBeginning p names comps) s w
  unfolding read_head
  head_ends [] w e =
      subst (λ z. Ends (IsBeginning p names comps) [] z) (same_err {A = Option CertNorm × List Fact} _ w e)
      (record { done = []; stands = []; may = head_facts None ++ least_facts; split = refl; left = refl; end = all_begin None; why = refl })
  head_ends (c ∷ s) w e = go (split_version c)
    where
      go : ((s : List Fact) → read_head (c ∷ s) ≡ wrong_at (c ∷ s) reason.Extra) ⊎ IsVersion c → Ends (IsBeginning p names comps) (c ∷ s) w
      go (inl none) =
          subst (λ z. Ends (IsBeginning p names comps) (c ∷ s) z) (same_err {A = Option CertNorm × List Fact} _ w (sym (none s) ∙ e))
          (record { done = []; stands = c ∷ s; may = head_facts None ++ least_facts; split = refl; left = refl; end = all_begin None; why = (c, s, refl) })
      go (inr (v, is)) = subst (λ z. Ends (IsBeginning p names comps) (z ∷ s) w) (sym is) (number_ends v s w (ap (λ z. read_head (z ∷ s)) (sym is) ∙ e))

  parts_ends : (s : List Fact) (w : Wrong) → read_parts p names comps s ≡ Err w → Ends (IsBeginning p names comps) s w
  parts_ends s w e =
      bound_err (λ x. from_modes p names comps x.0 x.1) (read_head s) w (sym (parts_are p names comps s) ∙ e) (λ first. head_ends s w first)
      (λ q read more. after_read (IsBeginning p names comps) s (head_facts q.0) q.1 w (head_sound s q.1 q.0 read) (fails_in_modes q.0 q.1 w more))

  -- the notes
  note_stays : {f g : Fact} → HaveOnePlace f g → is_note f ≡ false → is_note g ≡ false
  note_stays place.itself e = e
  note_stays _ e = e

  one_more : (zs x y u : List Fact) → x ≡ y ++ u → zs ++ x ≡ (zs ++ y) ++ u
  one_more zs x y u e = ap (λ z. zs ++ z) e ∙ sym (append_assoc zs y u)

  listed_more : (parts : Parts) (t u : List Fact) → listed p names parts (t ++ u) ≡ listed p names parts t ++ u
  listed_more parts t u =
      let s7 = refuted_facts p names parts.refutations ++ t in
      let s6 = pre_facts p names parts.preconditions ++ s7 in
      let s5 = fall_facts parts.falls ++ s6 in
      let s4 = level_facts p names parts.levels ++ s5 in
      let s3 = ground_facts p names parts.grounds ++ s4 in
      let s2 = proof_facts parts.row_proofs ++ s3 in
      let s1 = size_facts p names parts.rows ++ s2 in
      let e7 = one_more (refuted_facts p names parts.refutations) (t ++ u) t u refl in
      let e6 = one_more (pre_facts p names parts.preconditions) _ s7 u e7 in
      let e5 = one_more (fall_facts parts.falls) _ s6 u e6 in
      let e4 = one_more (level_facts p names parts.levels) _ s5 u e5 in
      let e3 = one_more (ground_facts p names parts.grounds) _ s4 u e4 in
      let e2 = one_more (proof_facts parts.row_proofs) _ s3 u e3 in
      let e1 = one_more (size_facts p names parts.rows) _ s2 u e2 in
      let e0 = one_more (mode_facts p names parts.modes) _ s1 u e1 in
      one_more (head_facts parts.norm) _ (mode_facts p names parts.modes ++ s1) u e0

  -- the first fact that is not a note
  record HasOther (t : List Fact) : Type 0 where
    notes : List Fact
    other : Fact
    after : List Fact
    is : t ≡ notes ++ other ∷ after
    are : AreNotes notes
    not : is_note other ≡ false
    left : length t - prefix_len is_note t ≡ suc (length after)

  first_other : (t : List Fact) → prefix_len is_note t < length t → HasOther t
  first_other [] h = absurd (omega (arith, h))
  first_other (f ∷ t) h = go (λ k. first_other t k) (is_note f) refl h
    where
      go : (prefix_len is_note t < length t → HasOther t) → (b : Bool) → is_note f ≡ b → (if b then 1 + prefix_len is_note t else 0) < suc (length t) → HasOther (f ∷ t)
      go others true e h =
          let r = others (omega (arith, h)) in
          let left = r.left in
          record {
            notes = f ∷ r.notes;
            other = r.other;
            after = r.after;
            is = ap (λ z. f ∷ z) r.is;
            are = (e, r.are);
            not = r.not;
            left = ap (λ b. suc (length t) - (if b then 1 + prefix_len is_note t else 0)) e ∙ omega (arith, left);
          }
      go others false e h = record { notes = []; other = f; after = t; is = refl; are = tt; not = e; left = ap (λ b. suc (length t) - (if b then 1 + prefix_len is_note t else 0)) e ∙ omega arith }

  with_other : (parts : Parts) (ns : List Fact) (g : Fact) (v : List Fact) → AreNotes ns → is_note g ≡ false → with_notes (parts, ns ++ g ∷ v) ≡ Err (suc (length v), reason.Extra)
  with_other parts ns g v are other = rw (notes ns are, lt-ltb (length ns) (length (ns ++ g ∷ v)) (longer ns)) (ap (λ n. Err (n, reason.Extra)) (rest ns))
    where
      notes : (ns : List Fact) → AreNotes ns → prefix_len is_note (ns ++ g ∷ v) ≡ length ns
      notes [] are = rw other refl
      notes (n ∷ ns) are = rw are.0 (ap (λ z. 1 + z) (notes ns are.1) ∙ omega arith)

      longer : (ns : List Fact) → length ns < length (ns ++ g ∷ v)
      longer [] = omega arith
      longer (n ∷ ns) = let less = longer ns in omega (arith, less)

      rest : (ns : List Fact) → length (ns ++ g ∷ v) - length ns ≡ suc (length v)
      rest [] = omega arith
      rest (n ∷ ns) = let same = rest ns in omega (arith, same)

  -- reading all of it fails at the same fact, whatever comes after it
  whole_fails : (s : List Fact) (n : ℕ) (why : StructureReason) → read_whole p names comps s ≡ Err (suc n, why) → Fails (read_whole p names comps) s n why
  unfolding read_whole
  whole_fails s n why e =
      bound_err with_notes (read_parts p names comps s) (suc n, why) e
      (λ first.
      let a = (local_parts p names comps).err s n why first in
      record { front = a.front; wrong = a.wrong; more = a.more; split = a.split; left = a.left; again = λ g v m. ap (λ z. z >>= with_notes) (a.again g v m) })
      (λ q first more. notes q first (nat_lt (prefix_len is_note q.1) (length q.1)) refl more)
    where
      join : (q : Parts × List Fact) → read_parts p names comps s ≡ Ok q → (r : HasOther q.1) → (ns : List Fact) → r.notes ≡ ns → Fails (read_whole p names comps) s (length r.after) reason.Extra
      join q first r [] same =
          let own : q.1 ≡ r.other ∷ r.after = r.is ∙ ap (λ z. z ++ r.other ∷ r.after) same in
          let a = (local_parts p names comps).ok s r.after q.0 r.other (first ∙ ap (λ z. Ok (q.0, z)) own) in
          record {
            front = a.front;
            wrong = r.other;
            more = r.after;
            split = a.split;
            left = refl;
            again = λ g v m. ap (λ z. z >>= with_notes) (a.again g v m) ∙ with_other q.0 [] g v tt (note_stays m r.not);
          }
      join q first r (c ∷ cs) same =
          let own : q.1 ≡ c ∷ (cs ++ r.other ∷ r.after) = r.is ∙ ap (λ z. z ++ r.other ∷ r.after) same in
          let a = (local_parts p names comps).ok s (cs ++ r.other ∷ r.after) q.0 c (first ∙ ap (λ z. Ok (q.0, z)) own) in
          record {
            front = a.front ++ c ∷ cs;
            wrong = r.other;
            more = r.after;
            split = a.split ∙ sym (append_assoc a.front (c ∷ cs) (r.other ∷ r.after));
            left = refl;
            again = λ g v m.
                ap (λ z. read_parts p names comps z >>= with_notes) (append_assoc a.front (c ∷ cs) (g ∷ v)) ∙ ap (λ z. z >>= with_notes) (a.again c (cs ++ g ∷ v) place.itself)
                ∙ with_other q.0 (c ∷ cs) g v (subst AreNotes same r.are) (note_stays m r.not);
          }

      notes : (q : Parts × List Fact) → read_parts p names comps s ≡ Ok q → (b : Bool) → nat_lt (prefix_len is_note q.1) (length q.1) ≡ b
          → noted b q ≡ Err (suc n, why) → Fails (read_whole p names comps) s n why
      notes q first true test more =
          let r = first_other q.1 (ltb-true _ _ test) in
          let both : (length q.1 - prefix_len is_note q.1, reason.Extra) ≡ (suc n, why) = same_err {A = Parts} _ _ more in
          let count : length q.1 - prefix_len is_note q.1 ≡ suc n = ap (λ z. z.0) both in
          let whys : reason.Extra ≡ why = ap (λ z. z.1) both in
          let left = r.left in
          let size : length r.after ≡ n = omega (arith, count, left) in
          subst (λ z. Fails (read_whole p names comps) s n z) whys (subst (λ z. Fails (read_whole p names comps) s z reason.Extra) size (join q first r r.notes refl))
      notes q first false test more = err_ok (suc n, why) q.0 (sym more)

  whole_ends : (s : List Fact) (w : Wrong) → read_whole p names comps s ≡ Err w → Ends (IsBeginning p names comps) s w
  unfolding read_whole
  whole_ends s w e =
      bound_err with_notes (read_parts p names comps s) w e (λ first. parts_ends s w first) (λ q first more. notes q first (nat_lt (prefix_len is_note q.1) (length q.1)) refl more)
    where
      notes : (q : Parts × List Fact) → read_parts p names comps s ≡ Ok q → (b : Bool) → nat_lt (prefix_len is_note q.1) (length q.1) ≡ b
          → noted b q ≡ Err w → Ends (IsBeginning p names comps) s w
      notes q first true test more =
          let r = first_other q.1 (ltb-true _ _ test) in
          let (whole_is, shape) = parts_sound p names comps h s q.1 q.0 first in
          subst (λ z. Ends (IsBeginning p names comps) s z) (same_err {A = Parts} _ w more) (record {
            done = listed p names q.0 r.notes;
            stands = r.other ∷ r.after;
            may = [];
            split = whole_is ∙ ap (λ z. listed p names q.0 z) r.is ∙ listed_more q.0 r.notes (r.other ∷ r.after);
            left = sym r.left;
            end = whole q.0 r.notes [] shape r.are (append-nil (listed p names q.0 r.notes ++ []) ∙ append-nil (listed p names q.0 r.notes));
            why = (r.other, r.after, refl);
          })
      notes q first false test more = err_ok w q.0 (sym more)

  -- Reading a beginning does not fail before its end.
  abbrev Quiet : {A : Type 0} → Result A Wrong → Type 0
  Quiet (Ok x) = Unit {0}
  Quiet (Err w) = w.0 ≡ 0

  -- nothing is left, or a fact is missing
  abbrev QuietEnd : {A : Type 0} → Read Fact A → Type 0
  QuietEnd (Ok x) = x.1 ≡ []
  QuietEnd (Err w) = w.0 ≡ 0

  quiet_map : {A B : Type 0} (c : A → B) (o : Read Fact A) → QuietEnd o → QuietEnd (result_map (with_made c) o)
  quiet_map c (Ok x) q = q
  quiet_map c (Err w) q = q

  points_quiet : (a : ℕ) (xs : List PairPoint) (last : ℕ × ℕ) (n i : ℕ) → length xs ≤ n → PairsAscend last xs → AllByRecursion (IsPairPoint p comps a) xs
      → QuietEnd (read_points (read_point p comps a) last n (facts_from i (λ _ x. point_facts x) xs))
  unfolding read_points read_point
  points_quiet a [] last zero i fits ascend all = refl
  points_quiet a [] last (suc n) i fits ascend all = refl
  points_quiet a (x ∷ xs) last zero i fits ascend all = absurd (omega (arith, fits))
  points_quiet a (x ∷ xs) last (suc n) i fits ascend all =
      let read = point_given p comps a last x (facts_from (suc i) (λ _ x. point_facts x) xs) ascend.0 all.0 in
      subst (λ z. QuietEnd (z >>= λ x. result_map (with_first x.0) (read_points (read_point p comps a) (x.0.clause, x.0.call) n x.1))) (sym read)
      (quiet_map (λ ys. x ∷ ys) (read_points (read_point p comps a) (place_of_pair x) n (facts_from (suc i) (λ _ x. point_facts x) xs)) (points_quiet a xs (place_of_pair x) n (suc i) (omega (arith, fits)) ascend.1 all.1))

  group_quiet : (levels : Levels) (a : ℕ) (r : Refutation) (count : ℕ) → IsRefutation p comps levels a (Some r) → length r.points ≤ count
      → QuietEnd (read_refutation p names comps levels a (fact.Refuted (pred_text p names a) count ∷ facts_from 0 (λ _ x. point_facts x) r.points))
  unfolding refutation_by group_by
  group_quiet levels a r count is enough =
      let some = is.1 in
      rw (open_back comps levels a is.0, refuted_given (pred_text p names a) 0 count (omega (arith, some, enough)))
      (quiet_map (λ xs. Some (record { points = xs })) (read_points (read_point p comps a) (0, 0) count (facts_from 0 (λ _ x. point_facts x) r.points)) (points_quiet a r.points (0, 0) count 0 enough is.2 is.3))

  none_left : (levels : Levels) (a : ℕ) → read_refutation p names comps levels a [] ≡ Ok (None, [])
  unfolding refutation_by group_by
  none_left levels a = go (is_open comps levels a)
    where
      go : (b : Bool) → if◌then◌else◌ {A = Read Fact (Option Refutation)} b (Ok (None, [])) (Ok (None, [])) ≡ Ok (None, [])
      go true = refl
      go false = refl

  all_left : (levels : Levels) (i n : ℕ) → QuietEnd (read_each (read_refutation p names comps levels) i n [])
  unfolding read_each
  all_left levels i zero = refl
  all_left levels i (suc n) =
      subst (λ z. QuietEnd (z >>= λ x. result_map (with_first x.0) (read_each (read_refutation p names comps levels) (suc i) n x.1))) (sym (none_left levels i))
      (quiet_map (λ ys. None ∷ ys) (read_each (read_refutation p names comps levels) (suc i) n []) (all_left levels (suc i) n))

  then_left : (levels : Levels) (i n : ℕ) (o : Read Fact (Option Refutation)) → QuietEnd o
      → QuietEnd (o >>= λ x. result_map (with_first x.0) (read_each (read_refutation p names comps levels) i n x.1))
  then_left levels i n (Err w) q = q
  then_left levels i n (Ok x) q =
      subst (λ z. QuietEnd (result_map (with_first x.0) (read_each (read_refutation p names comps levels) i n z))) (sym q)
      (quiet_map (λ ys. x.0 ∷ ys) (read_each (read_refutation p names comps levels) i n []) (all_left levels i n))

  module _ (apart : (a b : ℕ) → a < b → b < length p.preds → pred_text p names b ≢ pred_text p names a) where
    abbrev IsOther : ℕ → Fact → Type 0
    IsOther a f = take_refuted (pred_text p names a) 0 f ≡ Some None

    points_other : (a i : ℕ) (xs : List PairPoint) → AllByRecursion (IsOther a) (facts_from i (λ _ x. point_facts x) xs)
    unfolding shared_refuted
    points_other a i xs = all_from (IsOther a) (λ _ x. point_facts x) (λ _ x. (refl, second x.clause x.call x.at)) i xs
      where
        second : (clause call : ℕ) (o : Option Point) → AllByRecursion (IsOther a) (at_facts clause call o)
        second clause call None = tt
        second clause call (Some x) = (refl, tt)

    refuted_other : (a b : ℕ) (count : ℕ) → a < b → b < length p.preds → IsOther a (fact.Refuted (pred_text p names b) count)
    unfolding shared_refuted
    refuted_other a b count less below = rw (not_same (pred_text p names b) (pred_text p names a) (apart a b less below)) refl

    group_other : (a b : ℕ) (o : Option Refutation) → a < b → b < length p.preds → AllByRecursion (IsOther a) (refutation_facts (pred_text p names b) o)
    group_other a b None less below = tt
    group_other a b (Some r) less below = (refuted_other a b (length r.points) less below, points_other a 0 r.points)

    refutations_quiet : (levels : Levels) (i n : ℕ) (before later : List (Option Refutation)) (r : Refutation) (count at : ℕ) → at ≡ i + length before → i + n ≤ length p.preds
        → length (before ++ Some r ∷ later) ≡ n → EachFrom i (IsRefutation p comps levels) (before ++ Some r ∷ later) → length r.points ≤ count
        → QuietEnd (read_each (read_refutation p names comps levels) i n
        (facts_from i (λ a r. refutation_facts (pred_text p names a) r) before ++ fact.Refuted (pred_text p names at) count ∷ facts_from 0 (λ _ x. point_facts x) r.points))
    unfolding read_each
    refutations_quiet levels i zero [] later r count at number fits all each enough = absurd (omega (arith, all))
    refutations_quiet levels i zero (x ∷ before) later r count at number fits all each enough = absurd (omega (arith, all))
    refutations_quiet levels i (suc n) [] later r count at number fits all each enough =
        let own : at ≡ i = omega (arith, number) in
        subst (λ z. QuietEnd (read_refutation p names comps levels i (fact.Refuted (pred_text p names z) count ∷ facts_from 0 (λ _ x. point_facts x) r.points)
        >>= λ x. result_map (with_first x.0) (read_each (read_refutation p names comps levels) (suc i) n x.1))) (sym own)
        (then_left levels (suc i) n (read_refutation p names comps levels i (fact.Refuted (pred_text p names i) count ∷ facts_from 0 (λ _ x. point_facts x) r.points)) (group_quiet levels i r count each.0 enough))
    refutations_quiet levels i (suc n) (x ∷ before) later r count at number fits all each enough =
        let mine = refutation_facts (pred_text p names i) x in
        let more = facts_from (suc i) (λ a r. refutation_facts (pred_text p names a) r) before in
        let last = fact.Refuted (pred_text p names at) count ∷ facts_from 0 (λ _ x. point_facts x) r.points in
        let many : i + suc (length before) < length p.preds = spare before later r n all i fits in
        let others : AllByRecursion (IsOther i) (more ++ last) =
        all_both (IsOther i) more last
        (others_from (IsOther i) (λ a r. refutation_facts (pred_text p names a) r) (length p.preds) i (λ j o less below. group_other i j o less below) (suc i) before (omega arith) (omega (arith, many)))
        (refuted_other i at count (omega (arith, number)) (omega (arith, number, many)), points_other i 0 r.points) in
        let read = refutation_given p names comps levels i (more ++ last) x each.0 others in
        subst (λ z. QuietEnd (read_refutation p names comps levels i z >>= λ x. result_map (with_first x.0) (read_each (read_refutation p names comps levels) (suc i) n x.1))) (sym (append_assoc mine more last))
        (subst (λ z. QuietEnd (z >>= λ x. result_map (with_first x.0) (read_each (read_refutation p names comps levels) (suc i) n x.1))) (sym read)
        (quiet_map (λ ys. x ∷ ys) (read_each (read_refutation p names comps levels) (suc i) n (more ++ last))
        (refutations_quiet levels (suc i) n before later r count at (omega (arith, number)) (omega (arith, fits)) (omega (arith, all)) each.1 enough)))
      where
        spare : (before later : List (Option Refutation)) (r : Refutation) (n : ℕ) → suc (length (before ++ Some r ∷ later)) ≡ suc n → (i : ℕ) → i + suc n ≤ length p.preds → i + suc (length before) < length p.preds
        spare before later r n all i fits = let size = long before in omega (arith, all, fits, size)
          where
            long : (xs : List (Option Refutation)) → length xs < length (xs ++ Some r ∷ later)
            long [] = omega arith
            long (x ∷ xs) = let less = long xs in omega (arith, less)

    -- what is left after all sections but the refutations
    sections_back : (parts : Parts) (tail : List Fact) → HaveShape p comps parts → AllByRecursion (λ f. 7 < kind f) tail
        → read_parts p names comps (past_cubes parts.norm parts.modes parts.rows parts.row_proofs parts.grounds parts.levels parts.falls parts.preconditions tail)
        ≡ from_refutations p names comps parts.levels (made parts.norm parts.modes parts.rows parts.row_proofs parts.grounds parts.levels parts.falls parts.preconditions) tail
    sections_back parts tail shape late =
        let s6 = pre_facts p names parts.preconditions ++ tail in
        let s5 = fall_facts parts.falls ++ s6 in
        let s4 = level_facts p names parts.levels ++ s5 in
        let s3 = ground_facts p names parts.grounds ++ s4 in
        let s2 = proof_facts parts.row_proofs ++ s3 in
        let s1 = size_facts p names parts.rows ++ s2 in
        let late7 : (m : ℕ) → m < 8 → AreLater m tail = λ m few. all_weaker (λ f. 7 < kind f) (λ f. m < kind f) (λ f more. omega (arith, few, more)) tail late in
        let late6 : (m : ℕ) → m < 7 → AreLater m s6 = λ m few. all_both (λ f. m < kind f) (pre_facts p names parts.preconditions) tail (pre_later p names m few parts.preconditions) (late7 m (omega (arith, few))) in
        let late5 : (m : ℕ) → m < 6 → AreLater m s5 = λ m few. all_both (λ f. m < kind f) (fall_facts parts.falls) s6 (falls_later m few parts.falls) (late6 m (omega (arith, few))) in
        let late4 : (m : ℕ) → m < 5 → AreLater m s4 = λ m few. all_both (λ f. m < kind f) (level_facts p names parts.levels) s5 (levels_later p names m few parts.levels) (late5 m (omega (arith, few))) in
        let late3 : (m : ℕ) → m < 4 → AreLater m s3 = λ m few. all_both (λ f. m < kind f) (ground_facts p names parts.grounds) s4 (grounds_later p names m few parts.grounds) (late4 m (omega (arith, few))) in
        let late2 : (m : ℕ) → m < 3 → AreLater m s2 = λ m few. all_both (λ f. m < kind f) (proof_facts parts.row_proofs) s3 (proofs_later m few parts.row_proofs) (late3 m (omega (arith, few))) in
        parts_are p names comps (head_facts parts.norm ++ (mode_facts p names parts.modes ++ s1))
        ∙ ap (λ z. z >>= λ x. from_modes p names comps x.0 x.1) (head_back parts.norm (mode_facts p names parts.modes ++ s1))
        ∙ ap (λ z. z >>= λ x. from_rows p names comps (made parts.norm x.0) x.1) (modes_listed p names parts.modes s1 shape.modes)
        ∙ ap (λ z. z >>= λ x. from_proofs p names comps x.0 (made parts.norm parts.modes x.0) x.1) (rows_listed p names apart parts.rows s2 shape.rows (late2 2 (omega arith)))
        ∙ ap (λ z. z >>= λ x. from_grounds p names comps parts.rows (made parts.norm parts.modes parts.rows x.0) x.1) (proofs_listed p parts.rows parts.row_proofs s3 shape.row_proofs)
        ∙ ap (λ z. z >>= λ x. from_levels p names comps parts.rows (made parts.norm parts.modes parts.rows parts.row_proofs x.0) x.1) (grounds_listed p names apart parts.grounds s4 shape.grounds (late4 4 (omega arith)))
        ∙ ap (λ z. z >>= λ x. from_falls p names comps parts.rows x.0 (made parts.norm parts.modes parts.rows parts.row_proofs parts.grounds x.0) x.1)
        (levels_back p names comps (first_le p comps h) apart (length p.preds) [] 0 parts.levels s5 parts.levels refl (omega arith) shape.levels.count refl shape.levels.each
        (λ b. all_weaker (λ f. 5 < kind f) (NoLevel (pred_text p names b)) (λ f late. no_level (pred_text p names b) f late) s5 (late5 5 (omega arith))))
        ∙ ap (λ z. z >>= λ x. from_cubes p names comps parts.levels (made parts.norm parts.modes parts.rows parts.row_proofs parts.grounds parts.levels x.0) x.1) (falls_listed p parts.rows comps parts.levels parts.falls s6 shape.falls)
        ∙ ap (λ z. z >>= λ x. from_refutations p names comps parts.levels (made parts.norm parts.modes parts.rows parts.row_proofs parts.grounds parts.levels parts.falls x.0) x.1)
        (pre_listed p names parts.levels apart parts.preconditions tail shape.preconditions (late7 7 (omega arith)))

    claimed_later : (before : List (Option Refutation)) (r : Refutation) (count : ℕ) → AreLater 7 (refuted_facts p names before ++ fact.Refuted (pred_text p names (length before)) count ∷ facts_from 0 (λ _ x. point_facts x) r.points)
    claimed_later before r count =
        all_both (λ f. 7 < kind f) (refuted_facts p names before) _ (refuted_later p names 7 (omega arith) before)
        (omega arith, all_from (λ f. 7 < kind f) (λ _ x. point_facts x) (λ _ x. (omega arith, second x.clause x.call x.at)) 0 r.points)
      where
        second : (clause call : ℕ) (o : Option Point) → AreLater 7 (at_facts clause call o)
        second clause call None = tt
        second clause call (Some x) = (omega arith, tt)

    whole_quiet : (o : Read Fact Refutations) (make : Refutations → Parts) → QuietEnd o → Quiet ((o >>= λ x. Ok (make x.0, x.1)) >>= with_notes)
    whole_quiet (Err w) make q = q
    whole_quiet (Ok x) make q = subst (λ z. Quiet (with_notes (make x.0, z))) (sym q) tt

    begun_quiet : (l : List Fact) → IsBeginning p names comps l → (rest : List Fact) × Quiet (read_whole p names comps (l ++ rest))
    unfolding read_whole
    begun_quiet l (whole parts notes rest shape are is) =
        (rest, subst (λ z. Quiet (read_whole p names comps z)) (sym is) (subst Quiet (sym (whole_back p names comps h apart parts notes shape are)) tt))
    begun_quiet l (short parts before later r count rest shape same enough is) =
        let refuted : AreEach (length p.preds) (IsRefutation p comps parts.levels) (before ++ Some r ∷ later) = subst (λ z. AreEach (length p.preds) (IsRefutation p comps parts.levels) z) same shape.refutations in
        let tail = refuted_facts p names before ++ fact.Refuted (pred_text p names (length before)) count ∷ facts_from 0 (λ _ x. point_facts x) r.points in
        let quiet = refutations_quiet parts.levels 0 (length p.preds) before later r count (length before) (omega arith) (omega arith) refuted.count refuted.each enough in (
          rest,
          subst (λ z. Quiet (read_whole p names comps z)) (sym is)
              (subst (λ z. Quiet (z >>= with_notes)) (sym (sections_back parts tail shape (claimed_later before r count)))
              (whole_quiet (read_each (read_refutation p names comps parts.levels) 0 (length p.preds) tail) (made parts.norm parts.modes parts.rows parts.row_proofs parts.grounds parts.levels parts.falls parts.preconditions) quiet)),
        )

    -- a beginning does not end in a fact at which reading fails
    not_begun : (before : List Fact) (g : Fact) (why : StructureReason) → ((v : List Fact) → read_whole p names comps (before ++ g ∷ v) ≡ Err (suc (length v), why)) → ¬ IsBeginning p names comps (before ++ g ∷ [])
    not_begun before g why fails begun =
        let (rest, quiet) = begun_quiet (before ++ g ∷ []) begun in
        let at : Quiet (read_whole p names comps (before ++ g ∷ rest)) = subst (λ z. Quiet (read_whole p names comps z)) (append_assoc before (g ∷ []) rest) quiet in
        let none : suc (length rest) ≡ 0 = subst Quiet (fails rest) at in
        absurd (omega (arith, none))

    not_structured : (facts : List Fact) (w : Wrong) → read_whole p names comps facts ≡ Err w → (parts : Parts) → ¬ IsStructured p names comps parts facts
    not_structured facts w e parts is = err_ok w parts (sym e ∙ ap (λ z. read_whole p names comps z) is.is ∙ whole_back p names comps h apart parts is.notes is.shape is.are_notes)

    -- what reading finds is the first fault
    module _ (facts : List Fact) where
      found_content : (n line : ℕ) (why : StructureReason) → read_whole p names comps facts ≡ Err (n, why) → ((f g : Fact) → f ≡ g → MayReplace why f g) → line + n ≡ suc (length facts)
          → (e : Ends (IsBeginning p names comps) facts (n, why)) → IsBad why e.stands e.may → IsStructureFault p names comps facts line why
      found_content n line why read same at e b =
          let size : suc (length b.after) ≡ n = ap (λ z. length z) (sym b.first) ∙ e.left in
          let f = whole_fails facts (length b.after) why (read ∙ ap (λ z. Err (z, why)) (sym size)) in
          let both = same_split f.front e.done (f.wrong ∷ f.more) (b.own ∷ b.after) (sym f.split ∙ e.split ∙ ap (λ z. e.done ++ z) b.first) (ap suc f.left) in
          let own : f.wrong ≡ b.own = same_head f.wrong b.own f.more b.after both.1 in
          let begun : IsBeginning p names comps (e.done ++ b.other ∷ b.more) = subst (λ z. IsBeginning p names comps (e.done ++ z)) b.instead e.end in
          let begins : IsBeginning p names comps (f.front ++ b.other ∷ []) =
          subst (λ z. IsBeginning p names comps (z ++ b.other ∷ [])) (sym both.0)
          (begun_front p names comps (e.done ++ b.other ∷ []) b.more (subst (λ z. IsBeginning p names comps z) (sym (append_assoc e.done (b.other ∷ []) b.more)) begun)) in
          let length_is = at_line f.front (f.wrong ∷ f.more) facts f.split in
          let left = f.left in
          let here : suc (length f.front) ≡ line = omega (arith, length_is, left, size, at) in
          subst (λ z. IsStructureFault p names comps facts z why) here
          (subst (λ z. IsStructureFault p names comps facts (suc (length f.front)) z) (ap (λ z. content_fault z) own ∙ b.content)
          (content f.front f.more f.wrong b.other f.split (not_begun f.front f.wrong why (λ v. f.again f.wrong v (same f.wrong f.wrong refl))) (subst (λ z. HaveOnePlace z b.other) (sym own) b.place) begins))

      found : (n line : ℕ) (why : StructureReason) → read_whole p names comps facts ≡ Err (n, why) → line + n ≡ suc (length facts) → Ends (IsBeginning p names comps) facts (n, why) → IsStructureFault p names comps facts line why
      found n line reason.Shape read at e = found_content n line reason.Shape read (λ f g s. s) at e e.why
      found n line reason.Version read at e = found_content n line reason.Version read (λ f g s. s) at e e.why
      found n line reason.Missing read at e =
          let none : e.stands ≡ [] = e.why in
          let left = e.left in
          let size : n ≡ 0 = sym left ∙ ap (λ z. length z) none in
          let own : facts ≡ e.done = e.split ∙ ap (λ z. e.done ++ z) none ∙ append-nil e.done in
          let here : suc (length facts) ≡ line = omega (arith, at, size) in
          subst (λ z. IsStructureFault p names comps facts z reason.Missing) here
          (missing (subst (λ z. IsBeginning p names comps z) (sym own) (begun_front p names comps e.done e.may e.end)) (not_structured facts (n, reason.Missing) read))
      found n line reason.Extra read at e =
          let (g, t, first) = e.why in
          let size : suc (length t) ≡ n = ap (λ z. length z) (sym first) ∙ e.left in
          let f = whole_fails facts (length t) reason.Extra (read ∙ ap (λ z. Err (z, reason.Extra)) (sym size)) in
          let both = same_split f.front e.done (f.wrong ∷ f.more) (g ∷ t) (sym f.split ∙ e.split ∙ ap (λ z. e.done ++ z) first) (ap suc f.left) in
          let length_is = at_line f.front (f.wrong ∷ f.more) facts f.split in
          let left = f.left in
          let here : suc (length f.front) ≡ line = omega (arith, length_is, left, size, at) in
          subst (λ z. IsStructureFault p names comps facts z reason.Extra) here
          (extra f.front f.more f.wrong f.split (subst (λ z. IsBeginning p names comps z) (sym both.0) (begun_front p names comps e.done e.may e.end))
          (λ g one. not_begun f.front g reason.Extra (λ v. f.again g v one)))

      pub read_fault : (w : Wrong) (line : ℕ) → read_whole p names comps facts ≡ Err w → line + w.0 ≡ suc (length facts) → IsStructureFault p names comps facts line w.1
      read_fault w line read at = found w.0 line w.1 read at (whole_ends facts w read)

      -- no more facts are left than there are
      pub left_fits : (w : Wrong) → read_whole p names comps facts ≡ Err w → w.0 ≤ length facts
      left_fits w read = let e = whole_ends facts w read in let all = at_line e.done e.stands facts e.split in let left = e.left in omega (arith, all, left)
