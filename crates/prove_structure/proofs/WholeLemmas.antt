-- Reading a whole certificate: what is read is its parts, and its parts are read.
use Rattle.std.proofs.Common.{◌≡◌, ◌≢◌, ℕ, ◌<◌, IfOk, IfSome, Result, Option, sym, Bool, true, false, if◌then◌else◌, List, [], ◌∷◌, ◌++◌, length, Some, None, Ok, Err, refl, ap, ◌∙◌, subst, arith}
use Rattle.std.proofs.lemmas.Bool.{and_parts}
use Rattle.std.proofs.lemmas.Option.{none-some}
use Rattle.std.specs.Prelude.{pos}
use Rattle.std.specs.List.{list_all, AllByRecursion}
use Rattle.bool_diagrams.specs.declared.cube.Cell.{Cell}
use Rattle.call_components.specs.Partition.{Partition, AreComponents}
use Rattle.cert_structure.specs.Order.{pred_text}
use Rattle.cert_structure.specs.Shape.{arity_in, body_of, head_of, items_of, rows_of, rows_of_atoms, HasWidth, HaveMultipliers, IsMode}
use Rattle.cert_structure.proofs.ComponentLemmas.{first_le}
use Rattle.cti_terms.specs.Listing.{Listing}
use Rattle.fact_reading.specs.Numbered.{AreEach}
use Rattle.fact_reading.specs.Walk.{◌>>=◌, Read, read_each, read_next}
use Rattle.fact_reading.proofs.SectionLemmas.{same_some, same_ok, bound, all_both, all_weaker, next_sound, next_back}
use Rattle.lex_certificate.specs.Shape.{lengths_of}
use Rattle.linear_rows.specs.declared.multipliers.Multipliers.{Multipliers}
use Rattle.linear_rows.specs.declared.row.Rows.{Rows}
use Rattle.number_tests.specs.declared.level_part.LevelPart.{LevelPart}
use Rattle.prove_certificate.specs.declared.fact.ProveFact.{ProveFact}
use Rattle.prove_certificate.specs.declared.fact.ProveFact.TheVariants as fact
use Rattle.prove_certificate.specs.declared.kind.CertKind.{CertKind}
use Rattle.prove_parts.specs.Order.{mode_facts, kind_facts, fails_facts, size_facts, proof_facts, ground_facts, level_facts, drop_facts, floor_facts, pre_facts, stuck_facts, listed, is_note}
use Rattle.prove_parts.specs.Shape.{columns_in, AreKinds, AreLists, HaveShape, IsStuckSet}
use Rattle.prove_parts.specs.Structure.{IsStructured, AreNotes}
use Rattle.prove_parts.specs.declared.parts.ProveParts.{ProveParts}
use Rattle.prove_parts.specs.declared.stuck.StuckSet.{StuckSet}
use Rattle.prove_structure.specs.Walk.{narrow, with_notes, take_version, read_claims, read_model, read_descent, read_ends, read_whole, read_sections, read_modes, read_kinds, read_fails, read_rows, read_proofs, read_grounds, read_levels, read_drops, read_floors, read_pre, read_stuck, read_parts}
use Rattle.prove_structure.proofs.KindLemmas.{kind}
use Rattle.prove_structure.proofs.ListLemmas.{NoLevel, levels_sound, levels_back}
use Rattle.prove_structure.proofs.PartsLemmas.{claims_read, model_read, descent_read, ends_read}
use Rattle.prove_structure.proofs.StructureLemmas.{AreLater, AreRows, IsDropsOf, IsFloorsOf, narrow_kinds, sizes_later, proofs_later, grounds_later, levels_later, drops_later, floors_later, pre_later, stuck_later, notes_later, no_level, modes_section, modes_listed, kinds_section, kinds_listed, fails_section, fails_listed, rows_section, rows_listed, proofs_section, proofs_listed, grounds_section, grounds_listed, drops_section, drops_listed, floors_section, floors_listed, pre_section, pre_listed, stuck_section, stuck_listed}
use Rattle.prove_structure.proofs.TakeLemmas.{version_taken, version_given}

-- notes, as a test says
are_notes : (facts : List ProveFact) → list_all is_note facts ≡ true → AreNotes facts
are_notes [] e = tt
are_notes (f ∷ facts) e = let (one, more) = and_parts (is_note f) (list_all is_note facts) e in (one, are_notes facts more)

all_notes : (facts : List ProveFact) → AreNotes facts → list_all is_note facts ≡ true
all_notes [] h = refl
all_notes (f ∷ facts) h = rw (h.0, all_notes facts h.1) refl

module _ (p : Listing) (names : List (List ℕ)) where
  abbrev Claims : Type 0
  Claims = List (List (List ℕ)) × List (List CertKind) × List Bool

  -- the modes, the kinds and which predicates fail
  abbrev claim_facts : Claims → List ProveFact → List ProveFact
  claim_facts c t = mode_facts p names c.0 ++ (kind_facts p names c.1 ++ (fails_facts p names c.2 ++ t))

  record AreClaims (c : Claims) : Type 0 where
    modes : AreEach (length p.preds) (λ a. AllByRecursion (IsMode (arity_in p a))) c.0
    kinds : AreEach (length p.preds) (λ a. AreKinds (arity_in p a)) c.1
    fails : length c.2 ≡ length p.preds

  claims_sound : (s t : List ProveFact) (c : Claims) → read_claims p names s ≡ Ok (c, t) → (s ≡ claim_facts c t) × AreClaims c
  unfolding read_claims
  claims_sound s t c e =
      bound _ (read_each (read_modes p names) 0 (length p.preds) s) _ e λ modes e1 more1.
      bound _ (read_each (read_kinds p names) 0 (length p.preds) modes.1) _ more1 λ kinds e2 more2.
      bound _ (read_each (read_fails p names) 0 (length p.preds) kinds.1) _ more2 λ fails e3 more3.
      let (whole1, right1) = modes_section p names s modes.1 modes.0 e1 in
      let (whole2, right2) = kinds_section p names modes.1 kinds.1 kinds.0 e2 in
      let (whole3, right3) = fails_section p names kinds.1 fails.1 fails.0 e3 in
      let last : ((modes.0, kinds.0, fails.0), fails.1) ≡ (c, t) = same_ok _ _ more3 in
      let first : (modes.0, kinds.0, fails.0) ≡ c = ap (λ q. q.0) last in
      let rest : fails.1 ≡ t = ap (λ q. q.1) last in
      rw (← first, ← rest) (
        whole1 ∙ ap (λ u. mode_facts p names modes.0 ++ u) (whole2 ∙ ap (λ u. kind_facts p names kinds.0 ++ u) whole3),
        record { modes = right1; kinds = right2; fails = right3 },
      )

  abbrev Model : Type 0
  Model = List Rows × List (List Multipliers) × List (List (List Cell))

  -- the size rows, their proofs and the ground rows
  abbrev model_facts : Model → List ProveFact → List ProveFact
  model_facts m t = size_facts p names m.0 ++ (proof_facts m.1 ++ (ground_facts p names m.2 ++ t))

  module _ (kinds : List (List CertKind)) (narrowed : (a : ℕ) → narrow (columns_in kinds a) ≡ columns_in kinds a) where
    record IsModel (m : Model) : Type 0 where
      rows : AreEach (length p.preds) (AreRows p names kinds narrowed) m.0
      row_proofs : AreEach (length p.clauses) (λ k. AreEach (rows_of m.0 (head_of p k)) (λ _. HaveMultipliers (rows_of_atoms m.0 (body_of p k)))) m.1
      grounds : AreEach (length p.preds) (λ a. AllByRecursion (HasWidth (arity_in p a))) m.2

    model_sound : (s t : List ProveFact) (m : Model) → read_model p names kinds s ≡ Ok (m, t) → (s ≡ model_facts m t) × IsModel m
    unfolding read_model
    model_sound s t m e =
        bound _ (read_each (read_rows p names kinds) 0 (length p.preds) s) _ e λ rows e1 more1.
        bound _ (read_each (read_proofs p rows.0) 0 (length p.clauses) rows.1) _ more1 λ proofs e2 more2.
        bound _ (read_each (read_grounds p names) 0 (length p.preds) proofs.1) _ more2 λ grounds e3 more3.
        let (whole1, right1) = rows_section p names kinds narrowed s rows.1 rows.0 e1 in
        let (whole2, right2) = proofs_section p rows.0 rows.1 proofs.1 proofs.0 e2 in
        let (whole3, right3) = grounds_section p names proofs.1 grounds.1 grounds.0 e3 in
        let last : ((rows.0, proofs.0, grounds.0), grounds.1) ≡ (m, t) = same_ok _ _ more3 in
        let first : (rows.0, proofs.0, grounds.0) ≡ m = ap (λ q. q.0) last in
        let rest : grounds.1 ≡ t = ap (λ q. q.1) last in
        rw (← first, ← rest) (
          whole1 ∙ ap (λ u. size_facts p names rows.0 ++ u) (whole2 ∙ ap (λ u. proof_facts proofs.0 ++ u) whole3),
          record { rows = right1; row_proofs = right2; grounds = right3 },
        )

  module _ (comps : Partition) where
    abbrev Ends : Type 0
    Ends = List (List (List (List Cell))) × List (Option StuckSet)

    -- the preconditions and the stuck sets
    abbrev end_facts : Ends → List ProveFact → List ProveFact
    end_facts x t = pre_facts p names x.0 ++ (stuck_facts p names x.1 ++ t)

    record AreEnds (lists : List (List (List LevelPart))) (x : Ends) : Type 0 where
      preconditions : AreEach (length p.preds) (λ a. AreEach (length (items_of lists a)) (λ _. AllByRecursion (HasWidth (arity_in p a)))) x.0
      stuck : AreEach (length p.preds) (IsStuckSet p comps lists) x.1

    ends_sound : (lists : List (List (List LevelPart))) (s t : List ProveFact) (x : Ends) → read_ends p names comps lists s ≡ Ok (x, t) → (s ≡ end_facts x t) × AreEnds lists x
    unfolding read_ends
    ends_sound lists s t x e =
        bound _ (read_each (read_pre p names lists) 0 (length p.preds) s) _ e λ cubes e1 more1.
        bound _ (read_each (read_stuck p names comps lists) 0 (length p.preds) cubes.1) _ more1 λ stuck e2 more2.
        let (whole1, right1) = pre_section p names lists s cubes.1 cubes.0 e1 in
        let (whole2, right2) = stuck_section p names lists comps cubes.1 stuck.1 stuck.0 e2 in
        let last : ((cubes.0, stuck.0), stuck.1) ≡ (x, t) = same_ok _ _ more2 in
        let first : (cubes.0, stuck.0) ≡ x = ap (λ q. q.0) last in
        let rest : stuck.1 ≡ t = ap (λ q. q.1) last in
        rw (← first, ← rest) (whole1 ∙ ap (λ u. pre_facts p names cubes.0 ++ u) whole2, record { preconditions = right1; stuck = right2 })

    module _ (h : AreComponents p comps) (kinds : List (List CertKind)) (rows : List Rows) where
      abbrev Descent : Type 0
      Descent = List (List (List LevelPart)) × List (List (List (List Multipliers))) × List (List (List Multipliers))

      -- the lists, and the proofs that they drop and are bounded
      abbrev descent_facts : Descent → List ProveFact → List ProveFact
      descent_facts d t = level_facts p names d.0 ++ (drop_facts d.1 ++ (floor_facts d.2 ++ t))

      record IsDescent (d : Descent) : Type 0 where
        lists : AreEach (length p.preds) (λ a. AreLists (columns_in kinds a) (lengths_of comps d.0 a)) d.0
        drops : AreEach (length p.clauses) (IsDropsOf p rows comps d.0) d.1
        floors : AreEach (length p.clauses) (IsFloorsOf p rows comps d.0) d.2

      descent_sound : (s t : List ProveFact) (d : Descent) → read_descent p names comps kinds rows s ≡ Ok (d, t) → (s ≡ descent_facts d t) × IsDescent d
      unfolding read_descent
      descent_sound s t d e =
          bound _ (read_levels p names comps kinds [] 0 (length p.preds) s) _ e λ lists e1 more1.
          bound _ (read_each (read_drops p comps rows lists.0) 0 (length p.clauses) lists.1) _ more1 λ drops e2 more2.
          bound _ (read_each (read_floors p comps rows lists.0) 0 (length p.clauses) drops.1) _ more2 λ floors e3 more3.
          let (xs, all, count, whole1, right1) = levels_sound p names comps kinds (first_le p comps h) (length p.preds) [] 0 s lists.1 lists.0 tt refl (omega arith) e1 in
          let (whole2, right2) = drops_section p rows comps lists.0 lists.1 drops.1 drops.0 e2 in
          let (whole3, right3) = floors_section p rows comps lists.0 drops.1 floors.1 floors.0 e3 in
          let own1 : s ≡ level_facts p names lists.0 ++ lists.1 = rw all whole1 in
          let last : ((lists.0, drops.0, floors.0), floors.1) ≡ (d, t) = same_ok _ _ more3 in
          let first : (lists.0, drops.0, floors.0) ≡ d = ap (λ q. q.0) last in
          let rest : floors.1 ≡ t = ap (λ q. q.1) last in
          rw (← first, ← rest) (
            own1 ∙ ap (λ u. level_facts p names lists.0 ++ u) (whole2 ∙ ap (λ u. drop_facts drops.0 ++ u) whole3),
            record { lists = record { count = rw all count; each = rw (← all) at right1 }; drops = right2; floors = right3 },
          )

module _ (p : Listing) (names : List (List ℕ)) (comps : Partition) (h : AreComponents p comps) where
  abbrev IsRead : List ProveFact → ProveParts → List ProveFact → Type 0
  IsRead s parts t = (s ≡ listed p names parts t) × HaveShape p comps parts

  pub parts_sound : (s t : List ProveFact) (parts : ProveParts) → read_parts p names comps s ≡ Ok (parts, t) → (s ≡ listed p names parts t) × HaveShape p comps parts
  unfolding read_parts read_sections
  parts_sound s t parts e =
      bound _ (read_next take_version 0 s) _ e λ head e0 more0.
      bound _ (read_claims p names head.1) _ more0 λ claims e1 more1.
      bound _ (read_model p names claims.0.1 claims.1) _ more1 λ model e2 more2.
      bound _ (read_descent p names comps claims.0.1 model.0.0 model.1) _ more2 λ descent e3 more3.
      bound _ (read_ends p names comps descent.0.0 descent.1) _ more3 λ ends e4 more4.
      let (begins, version) = next_sound take_version (λ _ v. fact.Ctiprove v) _ version_taken 0 s head.1 head.0 e0 in
      let whole0 : s ≡ fact.Ctiprove (pos 1) ∷ head.1 = begins ∙ ap (λ v. fact.Ctiprove v ∷ head.1) version in
      let (whole1, right1) = claims_sound p names head.1 claims.1 claims.0 e1 in
      let narrowed = narrow_kinds (arity_in p) 0 claims.0.1 right1.kinds.each in
      let (whole2, right2) = model_sound p names claims.0.1 narrowed claims.1 model.1 model.0 e2 in
      let (whole3, right3) = descent_sound p names comps h claims.0.1 model.0.0 model.1 descent.1 descent.0 e3 in
      let (whole4, right4) = ends_sound p names comps descent.0.0 descent.1 ends.1 ends.0 e4 in
      let all : ProveParts = record {
        modes = claims.0.0;
        kinds = claims.0.1;
        fails = claims.0.2;
        rows = model.0.0;
        row_proofs = model.0.1;
        grounds = model.0.2;
        lists = descent.0.0;
        drops = descent.0.1;
        floors = descent.0.2;
        preconditions = ends.0.0;
        stuck = ends.0.1;
      } in
      let last : (all, ends.1) ≡ (parts, t) = same_ok _ _ more4 in
      let first : all ≡ parts = ap (λ q. q.0) last in
      let rest : ends.1 ≡ t = ap (λ q. q.1) last in
      subst (λ u. IsRead s parts u) rest
      (subst (λ q. IsRead s q ends.1) first (
        whole0
            ∙ ap (λ u. fact.Ctiprove (pos 1) ∷ u)
            (whole1
            ∙ ap (λ u. claim_facts p names claims.0 u)
            (whole2 ∙ ap (λ u. model_facts p names model.0 u) (whole3 ∙ ap (λ u. descent_facts p names comps h claims.0.1 model.0.0 descent.0 u) whole4))),
        record {
          modes = right1.modes;
          kinds = right1.kinds;
          fails = right1.fails;
          rows = right2.rows;
          row_proofs = right2.row_proofs;
          grounds = right2.grounds;
          lists = right3.lists;
          drops = right3.drops;
          floors = right3.floors;
          preconditions = right4.preconditions;
          stuck = right4.stuck;
        },
      ))

  pub parts_back : ((a b : ℕ) → a < b → b < length p.preds → pred_text p names b ≢ pred_text p names a) → (parts : ProveParts) (notes : List ProveFact) → HaveShape p comps parts → AreNotes notes
      → read_parts p names comps (listed p names parts notes) ≡ Ok (parts, notes)
  unfolding read_parts read_sections
  parts_back apart parts notes shape are =
      let s10 = stuck_facts p names parts.stuck ++ notes in
      let s9 = pre_facts p names parts.preconditions ++ s10 in
      let s8 = floor_facts parts.floors ++ s9 in
      let s7 = drop_facts parts.drops ++ s8 in
      let s6 = level_facts p names parts.lists ++ s7 in
      let s5 = ground_facts p names parts.grounds ++ s6 in
      let s4 = proof_facts parts.row_proofs ++ s5 in
      let s3 = size_facts p names parts.rows ++ s4 in
      let s2 = fails_facts p names parts.fails ++ s3 in
      let s1 = kind_facts p names parts.kinds ++ s2 in
      let s0 = mode_facts p names parts.modes ++ s1 in
      let late10 : (m : ℕ) → m < 11 → AreLater m s10 = λ m few. all_both (λ f. m < kind f) (stuck_facts p names parts.stuck) notes (stuck_later p names m few parts.stuck) (notes_later m (omega (arith, few)) notes are) in
      let late9 : (m : ℕ) → m < 10 → AreLater m s9 = λ m few. all_both (λ f. m < kind f) (pre_facts p names parts.preconditions) s10 (pre_later p names m few parts.preconditions) (late10 m (omega (arith, few))) in
      let late8 : (m : ℕ) → m < 9 → AreLater m s8 = λ m few. all_both (λ f. m < kind f) (floor_facts parts.floors) s9 (floors_later m few parts.floors) (late9 m (omega (arith, few))) in
      let late7 : (m : ℕ) → m < 8 → AreLater m s7 = λ m few. all_both (λ f. m < kind f) (drop_facts parts.drops) s8 (drops_later m few parts.drops) (late8 m (omega (arith, few))) in
      let late6 : (m : ℕ) → m < 7 → AreLater m s6 = λ m few. all_both (λ f. m < kind f) (level_facts p names parts.lists) s7 (levels_later p names m few parts.lists) (late7 m (omega (arith, few))) in
      let late5 : (m : ℕ) → m < 6 → AreLater m s5 = λ m few. all_both (λ f. m < kind f) (ground_facts p names parts.grounds) s6 (grounds_later p names m few parts.grounds) (late6 m (omega (arith, few))) in
      let late4 : (m : ℕ) → m < 5 → AreLater m s4 = λ m few. all_both (λ f. m < kind f) (proof_facts parts.row_proofs) s5 (proofs_later m few parts.row_proofs) (late5 m (omega (arith, few))) in
      let late3 : (m : ℕ) → m < 4 → AreLater m s3 = λ m few. all_both (λ f. m < kind f) (size_facts p names parts.rows) s4 (sizes_later p names m few parts.rows) (late4 m (omega (arith, few))) in
      let narrowed = narrow_kinds (arity_in p) 0 parts.kinds shape.kinds.each in
      let version = next_back take_version (λ _ v. fact.Ctiprove v) _ version_given 0 (pos 1) s0 refl in
      let claims = claims_read p names s0 (length p.preds) refl parts.modes s1 (modes_listed p names parts.modes s1 shape.modes)
      parts.kinds s2 (kinds_listed p names parts.kinds s2 shape.kinds)
      parts.fails s3 (fails_listed p names apart parts.fails s3 shape.fails (late3 3 (omega arith))) in
      let model = model_read p names parts.kinds s3 (length p.preds) (length p.clauses) refl refl
      parts.rows s4 (rows_listed p names parts.kinds narrowed apart parts.rows s4 shape.rows (late4 4 (omega arith)))
      parts.row_proofs s5 (proofs_listed p parts.rows parts.row_proofs s5 shape.row_proofs)
      parts.grounds s6 (grounds_listed p names apart parts.grounds s6 shape.grounds (late6 6 (omega arith))) in
      let levels = levels_back p names comps parts.kinds (first_le p comps h) apart (length p.preds) [] 0 parts.lists s7 parts.lists refl (omega arith) shape.lists.count refl shape.lists.each
      (λ b. all_weaker (λ f. 7 < kind f) (NoLevel (pred_text p names b)) (λ f late. no_level (pred_text p names b) f late) s7 (late7 7 (omega arith))) in
      let descent = descent_read p names comps parts.kinds parts.rows s6 (length p.clauses) refl parts.lists parts.lists s7 levels refl
      parts.drops s8 (drops_listed p parts.rows comps parts.lists parts.drops s8 shape.drops (late8 8 (omega arith)))
      parts.floors s9 (floors_listed p parts.rows comps parts.lists parts.floors s9 shape.floors (late9 9 (omega arith))) in
      let ends = ends_read p names comps parts.lists s9 (length p.preds) refl
      parts.preconditions s10 (pre_listed p names parts.lists apart parts.preconditions s10 shape.preconditions (late10 10 (omega arith)))
      parts.stuck notes (stuck_listed p names parts.lists comps apart parts.stuck notes shape.stuck (notes_later 11 (omega arith) notes are)) in
      ap (λ z. z >>= λ x. read_sections p names comps x.1) version ∙ rw (claims, model, descent, ends) refl

  -- all of it is read as what it is a certificate of
  pub whole_sound : (s : List ProveFact) (parts : ProveParts) → read_whole p names comps s ≡ Some parts → IsStructured p names comps parts s
  unfolding read_whole
  whole_sound s parts e = go (read_parts p names comps s) refl e
    where
      noted : (q : ProveParts × List ProveFact) → read_parts p names comps s ≡ Ok q → (b : Bool) → list_all is_note q.1 ≡ b → (if b then Some q.0 else None) ≡ Some parts
          → IsStructured p names comps parts s
      noted q first false test same = absurd (none-some _ same)
      noted q first true test same =
          let own : q.0 ≡ parts = same_some q.0 parts same in
          let (whole, shape) = parts_sound s q.1 q.0 first in
          subst (λ z. IsStructured p names comps z s) own (record { notes = q.1; are_notes = are_notes q.1 test; shape = shape; is = whole })

      go : (o : Read ProveFact ProveParts) → read_parts p names comps s ≡ o → with_notes o ≡ Some parts → IsStructured p names comps parts s
      go (Err w) first same = absurd (none-some _ same)
      go (Ok q) first same = noted q first (list_all is_note q.1) refl same

  pub whole_back : ((a b : ℕ) → a < b → b < length p.preds → pred_text p names b ≢ pred_text p names a) → (parts : ProveParts) (notes : List ProveFact) → HaveShape p comps parts → AreNotes notes
      → read_whole p names comps (listed p names parts notes) ≡ Some parts
  unfolding read_whole
  whole_back apart parts notes shape are = ap with_notes (parts_back apart parts notes shape are) ∙ rw (all_notes notes are) refl

  -- what the code finds
  pub found_parts : {E : Type 0} (s : List ProveFact) (r : Result (Option ProveParts) E) → IfOk r (λ found. found ≡ read_whole p names comps s)
      → IfOk r (λ found. IfSome found (λ parts. IsStructured p names comps parts s))
  found_parts s (Err e) h = tt
  found_parts s (Ok None) h = tt
  found_parts s (Ok (Some parts)) h = whole_sound s parts (sym h)

  pub found_all : {E : Type 0} (s : List ProveFact) (r : Result (Option ProveParts) E) (parts : ProveParts) → read_whole p names comps s ≡ Some parts
      → IfOk r (λ found. found ≡ read_whole p names comps s) → IfOk r (λ found. found ≡ Some parts)
  found_all s (Err e) parts is h = tt
  found_all s (Ok found) parts is h = h ∙ is
